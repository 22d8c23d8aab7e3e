-- A host at the end of a link, as functions of all that happened to it (docs/RADIO.md, "Link frames").
use Rattle.std.specs.Prelude.{ℕ, List, [], Option, Some, None}
use Rattle.upload_model.specs.declared.events.Event.{Event}
use Rattle.upload_model.specs.declared.events.Sent.{Sent}
use Rattle.upload_model.specs.declared.events.Progress.{Progress}
use Rattle.upload_model.specs.declared.events.Progress.TheVariants.{Going, Done, GaveUp, Refused, Differs}
use Rattle.upload_model.specs.Sessions.{Upload, drone_count, packet_at}
use Rattle.upload_model.specs.Hosts.{flight, out, progress}

pub record Link : Type 0 where
  -- how many drones it has
  pub drones : ℕ
  -- packet k of a drone
  pub packet : ℕ → ℕ → List ℕ
  -- what is sent before any event, by drone and number
  pub first : List Sent
  -- what is sent when an event comes after others
  pub out : List Event → Event → List Sent
  -- the status with which events end the upload; None while it goes on
  pub ended : List Event → Option ℕ

-- the status of an upload: done 0, given up 9, refused 10, and 14 where a byte that was read back differs
abbrev pub status_of : Progress → Option ℕ
status_of Going = None
status_of Done = Some 0
status_of (GaveUp drone packet) = Some 9
status_of (Refused drone packet refusal) = Some 10
status_of (Differs drone address wanted got) = Some 14

-- the upload of a session
abbrev pub link_of : Upload → Link
link_of s = record {
  drones = drone_count s;
  packet = λ d k. packet_at s d k;
  first = flight s [];
  out = λ h e. out s h e;
  ended = λ h. status_of (progress s h);
}
