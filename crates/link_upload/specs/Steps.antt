-- Words of private steps of an upload. No public clause cites them.
use Rattle.std.specs.Prelude.{◌≡◌, ℕ, List}
use Rattle.link_frames.specs.declared.frame.Frame.{Frame}
use Rattle.link_frames.specs.Frames.{IsBegun}
use Rattle.link_upload.specs.Sends.{events_in}
use Rattle.link_upload.specs.Links.{link_of}
use Rattle.upload_core.specs.HostStandsFor.{HostStandsFor}
use Rattle.upload_core.specs.HostState.{HostState, view_of}
use Rattle.upload_model.specs.Sessions.{Upload}

-- The host of a session and a reader of frames stand so after these frames, and these bytes of one that is begun.
pub record Stands (s : Upload) (h : HostState) (reader : List ℕ) (frames : List Frame) (bytes : List ℕ) : Type 0 where
  pub session : h.session ≡ s
  pub host : HostStandsFor (view_of h) (events_in (link_of s) frames)
  pub reads : reader ≡ bytes
  pub begun : IsBegun bytes
