-- What is uploaded to the drones of a show, and what the upload leaves in their memories.
use Rattle.std.specs.Prelude.{◌≡◌, ℕ, ◌-◌, ◌<◌, ◌≤◌, Bool, false, true, Some, List, ◌++◌, length, map, slice_index_or}
use Rattle.std.specs.List.{All}
use Rattle.cue_grid.specs.declared.grid.Grid.{Grid}
use Rattle.whole_numbers.specs.Limits.{most_drones}
use Rattle.crtp_packets.specs.declared.chunks.TheConstants.{MEMORY_BYTES}
use Rattle.traj_codec.specs.declared.traj.Traj.{Traj}
use Rattle.traj_codec.specs.Spelling.{IsTrajectory}
use Rattle.firmware_memory.specs.Decoded.{Carries, DecodesTo, load_for}
use Rattle.upload_model.specs.declared.events.Progress.TheVariants.{Done}
use Rattle.upload_model.specs.declared.events.WorldEvent.{WorldEvent}
use Rattle.upload_model.specs.Drones.{DroneState}
use Rattle.upload_model.specs.Hosts.{progress}
use Rattle.upload_model.specs.Sessions.{Upload, is_read, load_of, packet_count}
use Rattle.upload_model.specs.Taking.{AreOwn, IsAccepted, taken}
use Rattle.upload_model.specs.Memories.{IsDrone, OnlyLoads}
use Rattle.upload_model.specs.Theorem.{IsUnaltered}
use Rattle.upload_model.specs.Worlds.{world}
use Rattle.choreo_show.specs.declared.show.Settings.{Settings}
use Rattle.choreo_show.specs.Valid.{FitsSettings}
use Rattle.show_plan.specs.Fitting.{IsSendable, size}
use Rattle.show_plan.specs.Flight.{KeepsNearShow, no_trajectory}
use Rattle.show_plan.specs.Separation.{FlyApart}

-- The session of trajectories: to the memory, the offset and the trajectory id of the show's settings, one load for
-- each; with read-back or without, and with starts or without.
abbrev pub session_for : Settings → List Traj → Bool → Bool → Upload
session_for e trajs readback start = record {
  memory_id = e.memory_id;
  offset = e.offset;
  trajectory_id = e.trajectory_id;
  loads = map load_for trajs;
  readback = readback;
  start = start;
}

-- The drones, which were the old ones, are the new ones: each one carries its trajectory of this list, the ending after
-- it; its memory decodes to no other, and all else in it is as it was. These trajectories keep near to what the show
-- says at every instant, and keep any two drones apart at every instant.
pub record IsLanded (g : Grid) (e : Settings) (trajs : List Traj) (readback start : Bool) (old new : ℕ → DroneState) :
    Type 0 where
  pub untouched : (d : ℕ) → d < length trajs →
      OnlyLoads (session_for e trajs readback start) (load_of (session_for e trajs readback start) d) (old d) (new d)
  pub started : start ≡ true → (d : ℕ) → d < length trajs → (new d).started ≡ Some e.trajectory_id
  pub carried : (d : ℕ) → d < length trajs → Carries (new d) e.trajectory_id (slice_index_or trajs d no_trajectory)
  pub only : (d : ℕ) (t : Traj) → d < length trajs → DecodesTo (new d) e.trajectory_id t →
      t ≡ slice_index_or trajs d no_trajectory
  pub near : KeepsNearShow g trajs
  pub apart : FlyApart e trajs

-- The drones may hold anything at the start, the link may lose, repeat, delay and reorder, and nobody else alters a
-- byte. Once all packets of the session of these trajectories are acknowledged, with read-back or without and with
-- starts or without, the memories hold these curves, then and at each later moment.
abbrev pub Lands : Grid → Settings → List Traj → Type 0
Lands g e trajs =
    (readback start : Bool) (drones : ℕ → DroneState) (events later : List WorldEvent)
    → ((d : ℕ) → d < length trajs → IsDrone (drones d)) →
    IsUnaltered (events ++ later) →
    progress (session_for e trajs readback start) (world (session_for e trajs readback start) drones events).heard
    ≡ Done →
    IsLanded g e trajs readback start drones
    (world (session_for e trajs readback start) drones (events ++ later)).drones

-- The drones may hold anything at the start, and anybody may send them their packets of the session of these
-- trajectories, with read-back or without and with starts or without. Each drone takes its own, in any order, each of
-- them any number of times. Once the drones accepted all but the reads, their memories hold these curves, then and
-- after all packets of the session that they take later.
abbrev pub LandsInAnyOrder : Grid → Settings → List Traj → Type 0
LandsInAnyOrder g e trajs =
    (readback start : Bool) (drones : ℕ → DroneState) (order later : ℕ → List ℕ)
    → ((d : ℕ) → d < length trajs → IsDrone (drones d)) →
    ((d : ℕ) → d < length trajs → AreOwn (session_for e trajs readback start) d (order d ++ later d)) →
    ((d k : ℕ) → d < length trajs → k < packet_count (session_for e trajs readback start) d →
    is_read (session_for e trajs readback start) d k ≡ false →
    IsAccepted (session_for e trajs readback start) d (drones d) (order d) k) →
    IsLanded g e trajs readback start drones
    (λ d. taken (session_for e trajs readback start) d (drones d) (order d ++ later d))

-- Trajectories that can be uploaded: 1 to 32 of them, of some segments each, with room from the offset on.
pub record AreUploadable (e : Settings) (trajs : List Traj) : Type 0 where
  pub settings : FitsSettings e
  pub some : 1 ≤ length trajs
  pub few : length trajs ≤ most_drones
  pub formed : All IsTrajectory trajs
  pub sendable : All IsSendable trajs
  pub segments : All (λ (t : Traj). 1 ≤ length t.segments) trajs
  pub room : All (λ (t : Traj). size t ≤ MEMORY_BYTES - e.offset) trajs

-- Trajectories that can be uploaded, keep near to a show and keep apart land so.
abbrev pub LandingLaw : Type 0
LandingLaw = (g : Grid) (e : Settings) (trajs : List Traj) → AreUploadable e trajs → KeepsNearShow g trajs →
    FlyApart e trajs → Lands g e trajs

-- And they land so in any order.
abbrev pub OrderLaw : Type 0
OrderLaw = (g : Grid) (e : Settings) (trajs : List Traj) → AreUploadable e trajs → KeepsNearShow g trajs →
    FlyApart e trajs → LandsInAnyOrder g e trajs
