-- What a drone's memory decodes to, and that what was loaded decodes to the trajectory that was sent.
use Rattle.std.specs.Prelude.{◌≡◌, ℕ, ◌<◌, ℤ, List, ◌++◌, drop, length, slice_get, Some}
use Rattle.std.specs.List.{All, fold}
use Rattle.whole_numbers.specs.Bernstein.{at}
use Rattle.crtp_packets.specs.declared.chunks.TheConstants.{MEMORY_BYTES}
use Rattle.traj_codec.specs.declared.traj.Segment.{Segment}
use Rattle.traj_codec.specs.declared.traj.Traj.{Traj}
use Rattle.traj_codec.specs.Positions.{element_on, value_after}
use Rattle.traj_codec.specs.Reading.{BeginsWith}
use Rattle.traj_codec.specs.Spelling.{HasDuration, IsTrajectory, ending, spelling}
use Rattle.upload_model.specs.declared.loads.Def.{Def}
use Rattle.upload_model.specs.declared.loads.Load.{Load}
use Rattle.upload_model.specs.Drones.{DroneState}
use Rattle.upload_model.specs.Sessions.{IsSession, Upload, drone_count, load_of}
use Rattle.upload_model.specs.Memories.{HasEntry, HasLoad}

-- A drone's memory decodes to this trajectory: its table has an entry of this id, and the bytes of its memory from the
-- entry's offset on begin with the spelling of the trajectory, which has as many segments as the entry says.
pub record DecodesTo (drone : DroneState) (id : ℕ) (t : Traj) : Type 0 where
  pub entry : Def
  pub used : ℕ
  pub listed : slice_get drone.table id ≡ Some (Some entry)
  pub begins : BeginsWith (drop entry.offset drone.memory) entry.pieces t used

-- A drone carries this trajectory: its memory decodes to it, and right after its bytes stand the three zero bytes at
-- which a flight ends. Firmware flies on until it reads them, whatever number of segments the entry says.
pub record Carries (drone : DroneState) (id : ℕ) (t : Traj) : Type 0 where
  pub decodes : DecodesTo drone id t
  pub rest : List ℕ
  pub whole : drop decodes.entry.offset drone.memory ≡ spelling t ++ (ending ++ rest)

-- what is uploaded of a trajectory: its bytes with the ending, and how many segments it has
abbrev pub load_for : Traj → Load
load_for t = record { bytes = spelling t ++ ending; pieces = length t.segments }

-- the value with which a trajectory ends, on an axis
abbrev pub last_value : Traj → ℕ → ℤ
last_value t axis = fold (λ (v : ℤ) (s : Segment). value_after v (element_on s axis)) (at t.start axis) t.segments

-- A memory decodes to one trajectory alone, and a drone that has the load and the entry of a trajectory carries it.
pub record CurveLaw : Type 0 where
  pub one : (drone : DroneState) (id : ℕ) (t u : Traj) → DecodesTo drone id t → DecodesTo drone id u → t ≡ u
  pub loaded : (s : Upload) (drone : DroneState) (d : ℕ) (t : Traj) → IsSession s → d < drone_count s →
      load_of s d ≡ load_for t → IsTrajectory t → All HasDuration t.segments → length drone.memory ≡ MEMORY_BYTES →
      HasLoad s (load_of s d) drone →
      HasEntry s (load_of s d) drone → Carries drone s.trajectory_id t
