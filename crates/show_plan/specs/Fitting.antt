-- What becomes of a show: its trajectories, or the first reason why it has no plan.
use Rattle.std.specs.Prelude.{false, true, ◌≡◌, ℕ, ◌+◌, ◌-◌, ◌≤◌, List, [], ◌∷◌, ◌++◌, map, length, nat_le, nat_lt}
use Rattle.std.specs.Prelude.{Option, Some, None, Result, Ok, Err, if◌then◌else◌}
use Rattle.std.specs.Option.{option_or}
use Rattle.std.specs.List.{sum, All}
use Rattle.whole_numbers.specs.Limits.{most_segments, most_cues, most_drones}
use Rattle.crtp_packets.specs.declared.chunks.TheConstants.{MEMORY_BYTES}
use Rattle.byte_streams.specs.Words.{IsWord}
use Rattle.choreo_show.specs.Name.{Name, is_name}
use Rattle.choreo_show.specs.declared.show.DroneLine.{DroneLine}
use Rattle.choreo_show.specs.Plain.{PlainShow}
use Rattle.choreo_show.specs.Valid.{FitsSettings}
use Rattle.cue_grid.specs.declared.grid.GridFault.{GridFault}
use Rattle.cue_grid.specs.Cues.{grid_of}
use Rattle.cue_grid.specs.Faults.{grid_fault}
use Rattle.cue_grid.specs.Names.{has_double}
use Rattle.traj_codec.specs.declared.traj.Traj.{Traj}
use Rattle.traj_codec.specs.Positions.{durations}
use Rattle.traj_codec.specs.Joined.{joined}
use Rattle.traj_codec.specs.Spelling.{spelling, ending, IsTrajectory, HasDuration}
use Rattle.figure_expand.specs.declared.fault.AxisValue.{AxisValue}
use Rattle.figure_expand.specs.Expanded.{range_fault}
use Rattle.show_plan.specs.declared.fitted.Fitted.{Fitted}
use Rattle.show_plan.specs.declared.fitted.FitError.{FitError}
use Rattle.show_plan.specs.declared.fitted.FitError.TheVariants as error
use Rattle.show_plan.specs.declared.fitted.PlanFault.{PlanFault}
use Rattle.show_plan.specs.declared.fitted.PlanFault.TheVariants as fault
use Rattle.show_plan.specs.Trajectories.{by_cue, sent, cue_times}

-- ---- what steps are handed

-- a trajectory of at most 255 segments, each of which lasts some time
pub record IsSendable (t : Traj) : Type 0 where
  pub few : length t.segments ≤ most_segments
  pub last : All HasDuration t.segments

-- a trajectory of at most 1,000 segments, each of which lasts some time
pub record IsFlown (t : Traj) : Type 0 where
  pub few : length t.segments ≤ most_cues
  pub last : All HasDuration t.segments

-- ---- room

-- how many bytes a trajectory is sent as: its spelling, and then the ending
abbrev pub size : Traj → ℕ
size t = length (spelling t ++ ending)

-- how many bytes a drone's memory has from the show's offset on
abbrev pub room : PlainShow → ℕ
room s = MEMORY_BYTES - s.settings.offset

abbrev pub StandsAsWord : Name → Type 0
StandsAsWord name = IsWord name.items

-- what keeps a drone's trajectory from being sent: too many segments, which are judged first; or more bytes than there
-- is room for
abbrev pub send_fault : ℕ → ℕ → Traj → Option PlanFault
send_fault space d t =
    if nat_lt most_segments (length t.segments) then Some (fault.TooManySegments d (length t.segments))
    else if nat_le (size t) space then None else Some (fault.TooLong d (size t) space)

-- the first of these trajectories, those of the drones from d on, that can't be sent
abbrev pub first_unsendable : ℕ → ℕ → List Traj → Option PlanFault
first_unsendable space d [] = None
first_unsendable space d (t ∷ ts) = option_or (send_fault space d t) (first_unsendable space (d + 1) ts)

-- the first drone of a show whose trajectory can't be sent
abbrev pub unsendable : PlainShow → Option PlanFault
unsendable s = first_unsendable (room s) 0 (sent (grid_of s))

-- ---- what is answered

-- the faults of names and cues come first, then the numbers, then what can't be sent
abbrev pub in_order : Option GridFault → Option AxisValue → Option PlanFault → Option PlanFault
in_order (Some f) range late = Some (fault.Grid f)
in_order None (Some v) late = Some (fault.OutOfRange v)
in_order None None late = late

abbrev pub plan_fault : PlainShow → Option PlanFault
plan_fault s = in_order (grid_fault s) (range_fault (grid_of s)) (unsendable s)

-- It has the settings and the names of the show, counts its cues and their milliseconds, and has its trajectories, by
-- cue and as they are sent.
pub record IsFitted (f : Fitted) (s : PlainShow) : Type 0 where
  pub settings : f.settings ≡ s.settings
  pub names : f.names ≡ map (λ (d : DroneLine). d.name) s.drones
  pub cues : f.cues ≡ length (grid_of s).cues
  pub duration : f.duration ≡ sum (cue_times (grid_of s))
  pub trajs : f.trajs ≡ by_cue (grid_of s)
  pub sent : f.sent ≡ sent (grid_of s)

-- What fits comes only without a reason why the show has no plan, and is that of the show. A fault is the first such
-- reason. Out of memory says nothing. Separation isn't judged here.
abbrev pub FitGives : Result Fitted FitError → PlainShow → Type 0
FitGives (Ok f) s = (plan_fault s ≡ None) × IsFitted f s
FitGives (Err (error.Fault f)) s = plan_fault s ≡ Some f
FitGives (Err error.Memory) s = Unit {0}

-- Valid: settings in range; 1 to 32 names of the language, each of which can stand as a word, no two of them equal; as
-- many trajectories, by cue; 1 to 1,000 cues, each of which lasts some time; these are the durations of the segments of
-- each trajectory by cue, whose numbers fit their bytes; what is sent are these trajectories with their holds joined,
-- each of at most 255 segments that last some time, and the bytes of each have room in a drone's memory from the offset
-- on.
pub record IsValidFitted (f : Fitted) : Type 0 where
  pub settings : FitsSettings f.settings
  pub some_drone : 1 ≤ length f.names
  pub few_drones : length f.names ≤ most_drones
  pub distinct : has_double f.names ≡ false
  pub named : All (λ (name : Name). is_name name.items ≡ true) f.names
  pub words : All StandsAsWord f.names
  pub trajs_counted : length f.trajs ≡ length f.names
  pub some_cue : 1 ≤ f.cues
  pub few_cues : f.cues ≤ most_cues
  pub times : List ℕ
  pub times_counted : length times ≡ f.cues
  pub last : All (λ ms. 1 ≤ ms) times
  pub duration : sum times ≡ f.duration
  pub same_times : All (λ (t : Traj). durations t.segments ≡ times) f.trajs
  pub formed : All IsTrajectory f.trajs
  pub sent : f.sent ≡ map joined f.trajs
  pub sendable : All IsSendable f.sent
  pub room : All (λ (t : Traj). size t ≤ MEMORY_BYTES - f.settings.offset) f.sent
