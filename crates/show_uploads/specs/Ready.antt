-- From a show's text to the host of its upload, which no public contract cites.
use Rattle.std.specs.Prelude.{◌≡◌, ℕ, ◌≤◌, Bool, true, false, List, [], length, Option, Some, None, IfSome}
use Rattle.text_lines.specs.Marker.{rest_of}
use Rattle.choreo_show.specs.Plain.{PlainShow}
use Rattle.choreo_reader.specs.Grammar.{StandsFor}
use Rattle.std.specs.Io.KnownBytes.{Consumes}
use Rattle.byte_streams.specs.Held.{Held, has_whole_marker}
use Rattle.show_judge.specs.declared.ways.Ways.{Ways}
use Rattle.upload_core.specs.HostStandsFor.{HostStandsFor}
use Rattle.upload_core.specs.HostState.{view_of}
use Rattle.link_upload.specs.Links.{Link, link_of}
use Rattle.show_uploads.specs.declared.uploading.Ready.{Ready}
use Rattle.show_uploads.specs.declared.uploading.Ready.TheVariants as ready
use Rattle.show_judge.specs.Answers.{IsRefusedBy}
use Rattle.show_judge.specs.Verb.{IsSafeShow}
use Rattle.show_judge.specs.Refused.{IsOfInput, show_refusal}
use Rattle.whole_numbers.specs.Limits.{most_text}
use Rattle.show_judge.specs.Shows.{Cut}
use Rattle.show_uploads.specs.Sessions.{link_in}

-- The show's text stands for a show that nothing refuses, and this is its upload through a link.
pub record IsLinkOf (c : Ways) (start readback : Bool) (cut : Cut) (link : Link) : Type 0 where
  pub s : PlainShow
  pub short : length cut.show ≤ most_text
  pub stands : StandsFor cut.show s
  pub accepted : show_refusal c cut s ≡ None
  pub safe : IsSafeShow s
  pub is : link ≡ link_in s start readback

-- the host of such an upload, or why the command refuses the show
abbrev pub ReadyGives : Ways → Bool → Bool → Cut → Ready → Type 0
ReadyGives c start readback cut (ready.Host host) = IsLinkOf c start readback cut (link_of host.session)
ReadyGives c start readback cut (ready.Refused r) = IsRefusedBy c cut r

-- nothing has happened to the host, and a refusal is one of an input
abbrev pub IsSoundReady : Ready → Type 0
IsSoundReady (ready.Host host) = HostStandsFor (view_of host) []
IsSoundReady (ready.Refused r) = IsOfInput r

-- Of the bytes to come some were taken in which a marker line stands with its line feed.
abbrev pub TakesMarked : Option (List ℕ) → Option (List ℕ) → Type 0
TakesMarked old new = (taken : List ℕ) × Consumes old new taken × (has_whole_marker taken ≡ true)

-- Where frames are wanted, the bytes after the marker line are still to come; and unless the input's end was met, the
-- marker line had its line feed.
abbrev pub GoesOnReady : Ready → Held → Option (List ℕ) → Option (List ℕ) → Type 0
GoesOnReady (ready.Host host) held old new =
    (held.sound ≡ true) × IfSome old (λ all. new ≡ Some (rest_of all)) × (held.ended ≡ false → TakesMarked old new)
GoesOnReady (ready.Refused r) held old new = Unit {0}
