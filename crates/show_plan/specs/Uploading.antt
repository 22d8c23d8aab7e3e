-- What holds of each upload of a show's trajectories, while it goes on and when it is done.
use Rattle.std.specs.Prelude.{◌≡◌, ℕ, ◌-◌, ◌<◌, ◌≤◌, Bool, true, List, ◌++◌, length, take, slice_get, slice_index}
use Rattle.std.specs.Prelude.{slice_index_or, Some, Contains}
use Rattle.crtp_packets.specs.Commands.{start_of}
use Rattle.cue_grid.specs.declared.grid.Grid.{Grid}
use Rattle.traj_codec.specs.declared.traj.Traj.{Traj}
use Rattle.firmware_memory.specs.Decoded.{Carries}
use Rattle.upload_model.specs.declared.events.Progress.TheVariants.{Done}
use Rattle.upload_model.specs.declared.events.WorldEvent.{WorldEvent}
use Rattle.upload_model.specs.Drones.{DroneState}
use Rattle.upload_model.specs.Hosts.{progress}
use Rattle.upload_model.specs.Readback.{WasRight, is_right}
use Rattle.upload_model.specs.Sessions.{Upload, drone_count, load_of, read_count, read_start, wanted}
use Rattle.upload_model.specs.Starts.{TakesOneStart, beginnings, beginnings_in, starts_in}
use Rattle.upload_model.specs.Taking.{AcceptsLoad, AreOwn, taken}
use Rattle.upload_model.specs.Memories.{IsDrone, IsInside}
use Rattle.upload_model.specs.Theorem.{IsSafe, IsUnaltered, TakesStart}
use Rattle.upload_model.specs.Worlds.{start_world, world}
use Rattle.choreo_show.specs.declared.show.Settings.{Settings}
use Rattle.show_plan.specs.Flight.{KeepsNearShow, no_trajectory}
use Rattle.show_plan.specs.Landing.{AreUploadable, Lands, LandsInAnyOrder, session_for}
use Rattle.show_plan.specs.Separation.{FlyApart}

-- What is flown. A drone that takes a start flies what it carries.
pub record FlyTheirOwn (e : Settings) (trajs : List Traj) : Type 0 where
  -- In an upload where nobody else alters a byte: once a start was sent to any drone, each drone carries its own
  -- trajectory, then and at each later moment. A drone takes only what was sent to it, so each start that it takes
  -- starts its own trajectory.
  pub once_sent : (readback start : Bool) (drones : ℕ → DroneState) (events later : List WorldEvent) (i d : ℕ) →
      ((n : ℕ) → n < length trajs → IsDrone (drones n)) → IsUnaltered (events ++ later) → i < length trajs →
      d < length trajs →
      Contains ((world (session_for e trajs readback start) drones events).sent i) (start_of e.trajectory_id) →
      Carries ((world (session_for e trajs readback start) drones (events ++ later)).drones d) e.trajectory_id
      (slice_index_or trajs d no_trajectory)
  -- From any senders, in any order and any number of times: once a drone accepted its writes and its define it carries
  -- its own trajectory, then and after all packets of the session that it takes later, starts among them. A start
  -- before that starts what the drone carried before.
  pub once_accepted : (readback start : Bool) (drone : DroneState) (order later : List ℕ) (d : ℕ) → IsDrone drone →
      d < length trajs →
      AreOwn (session_for e trajs readback start) d (order ++ later) →
      AcceptsLoad (session_for e trajs readback start) d drone order →
      Carries (taken (session_for e trajs readback start) d drone (order ++ later)) e.trajectory_id
      (slice_index_or trajs d no_trajectory)
  -- And where no start came before that, it begins once for each start that it takes later: exactly once where it takes
  -- one.
  pub begins_once : (readback start : Bool) (drone : DroneState) (order later : List ℕ) (d : ℕ) → IsDrone drone →
      d < length trajs →
      AreOwn (session_for e trajs readback start) d (order ++ later) →
      AcceptsLoad (session_for e trajs readback start) d drone order →
      starts_in (session_for e trajs readback start) d order ≡ 0 →
      beginnings_in (session_for e trajs readback start) d drone (order ++ later)
      ≡ starts_in (session_for e trajs readback start) d later

-- What holds of an upload of this session, to drones that are so at the start, after these events. Only the last field
-- asks that nobody else alters a byte. A moment of an upload is the end of one of its beginnings, so what holds after
-- every list of events holds at every moment.
pub record GoesRight (s : Upload) (drones : ℕ → DroneState) (events : List WorldEvent) : Type 0 where
  -- Once all packets are acknowledged, each read of each drone was right when it was answered. There are reads where
  -- there is read-back.
  pub verified : progress s (world s drones events).heard ≡ Done → (d k : ℕ) → d < drone_count s → k < read_count s d →
      WasRight s drones events d k
  -- With read-back each byte of each load is wanted by some read.
  pub covered : s.readback ≡ true → (d i : ℕ) → i < length (load_of s d).bytes →
      (k : ℕ) × (k < read_count s d) × IsInside (read_start k) (length (wanted s d k)) i
      × (slice_index (wanted s d k) (i - read_start k) ≡ slice_index (load_of s d).bytes i)
  -- No start was sent to any drone unless each read of each drone is right, and was so when it was answered.
  pub starts_last : (d i k : ℕ) → d < drone_count s → i < drone_count s → k < read_count s i →
      Contains ((world s drones events).sent d) (start_of s.trajectory_id) →
      (is_right s (world s drones events).heard i k ≡ true) × WasRight s drones events i k
  -- Until a drone takes a start it has started what it had started before.
  pub unstarted : (d : ℕ) → d < drone_count s →
      ((i : ℕ) (e : WorldEvent) → slice_get events i ≡ Some e → TakesStart s (world s drones (take i events)) d e → ⊥) →
      ((world s drones events).drones d).started ≡ (drones d).started
  -- Once all packets are acknowledged, starts among them, each drone has begun at least once; nothing bounds how often.
  pub begun : s.start ≡ true → progress s (world s drones events).heard ≡ Done → (d : ℕ) → d < drone_count s →
      1 ≤ beginnings s (start_world s drones) d events
  -- And a drone to which the link hands one start at most has begun exactly once.
  pub begun_once : s.start ≡ true → progress s (world s drones events).heard ≡ Done → (d : ℕ) → d < drone_count s →
      TakesOneStart s drones events d → beginnings s (start_world s drones) d events ≡ 1
  -- Where nobody else alters a byte this moment is safe: only loads are written, what is acknowledged is there, starts
  -- come last, and no read differs.
  pub unaltered : IsUnaltered events → IsSafe s drones (world s drones events)

-- The drones may hold anything at the start, and the link may lose, repeat, delay and reorder. Once all packets of
-- the session of these trajectories are acknowledged, where nobody else alters a byte, they are stored, near to the
-- show and apart. So they are with any senders of the packets, once all but the reads are accepted. What a drone flies
-- is its own trajectory. And each upload of this session goes right, with read-back or without and with starts or
-- without.
pub record Uploads (g : Grid) (e : Settings) (trajs : List Traj) : Type 0 where
  pub stored : Lands g e trajs
  pub in_any_order : LandsInAnyOrder g e trajs
  pub flown : FlyTheirOwn e trajs
  pub each : (readback start : Bool) (drones : ℕ → DroneState) (events : List WorldEvent) →
      ((d : ℕ) → d < length trajs → IsDrone (drones d)) → GoesRight (session_for e trajs readback start) drones events

-- Trajectories that can be uploaded, keep near to a show and keep apart upload so.
abbrev pub UploadsLaw : Type 0
UploadsLaw =
    (g : Grid) (e : Settings) (trajs : List Traj) → AreUploadable e trajs → KeepsNearShow g trajs → FlyApart e trajs →
    Uploads g e trajs
