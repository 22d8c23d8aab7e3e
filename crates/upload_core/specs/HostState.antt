-- A host as a contract sees it.
use Rattle.std.specs.Prelude.{ℕ, ◌<◌, List}
use Rattle.upload_model.specs.declared.events.Phase.{Phase}
use Rattle.upload_model.specs.declared.events.Progress.{Progress}
use Rattle.upload_model.specs.declared.events.Sent.{Sent}
use Rattle.upload_model.specs.Sessions.{Upload, drone_count, packet_count}
use Rattle.upload_model.specs.Hosts.{Packets}
use Rattle.upload_core.specs.declared.row.Row.{Row}
use Rattle.upload_core.specs.Rows.{marked, counted}

-- What a host remembers: its session, a row for each drone, its phase, and its last answer. What the rows
-- say is told by `view_of` alone.
pub record HostState : Type 0 where
  pub session : Upload
  pub rows : List Row
  pub phase : Phase
  pub progress : Progress

-- What this says of the upload: the packets that the host has marked as acknowledged, at how many
-- ticks it has counted each packet in flight, and its last answer.
pub record HostView : Type 0 where
  pub session : Upload
  pub marked : Packets
  pub counted : ℕ → ℕ → ℕ
  pub progress : Progress

abbrev pub view_of : HostState → HostView
view_of host =
    record { session = host.session; marked = marked host.rows; counted = counted host.rows; progress = host.progress }

-- A packet of the session.
pub record IsPacketOf (s : Upload) (x : Sent) : Type 0 where
  pub drone : x.drone < drone_count s
  pub packet : x.packet < packet_count s x.drone
