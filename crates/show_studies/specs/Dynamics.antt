-- What `dynamics` gives: how fast the speeds of a show's drones change at most, and where they jump.
use Rattle.std.specs.Prelude.{◌≡◌, ℕ, ◌*◌, List, [], ◌∷◌, ◌++◌, ℤ, Option, None}
use Rattle.std.specs.List.{All}
use Rattle.std.specs.Io.KnownBytes.{Appends}
use Rattle.std.specs.Option.{option_map, option_or}
use Rattle.choreo_show.specs.Name.{Name}
use Rattle.choreo_reader.specs.Grammar.{StandsFor}
use Rattle.choreo_show.specs.Plain.{PlainShow}
use Rattle.cue_grid.specs.Cues.{grid_of}
use Rattle.dynamics_bound.specs.declared.excess.Excess.{Excess}
use Rattle.dynamics_bound.specs.declared.excess.Kind.{Kind}
use Rattle.dynamics_bound.specs.declared.excess.Kind.TheVariants as kind
use Rattle.dynamics_bound.specs.declared.excess.Limits.{Limits}
use Rattle.dynamics_bound.specs.Excesses.{first_excess}
use Rattle.dynamics_bound.specs.Lines.{extremes_line, motion_line}
use Rattle.dynamics_bound.specs.Motions.{KeepsMotion, cue_of, extremes_of, motion}
use Rattle.refusals.specs.declared.refusal.Refusal.{Refusal}
use Rattle.refusals.specs.declared.refusal.Refusal.TheVariants as refusal
use Rattle.show_plan.specs.Trajectories.{cue_times}
use Rattle.traj_codec.specs.declared.traj.Traj.{Traj}
use Rattle.show_judge.specs.Shows.{names_of, sent_of}
use Rattle.show_judge.specs.Verb.{Verb, of_any}
use Rattle.show_studies.specs.Speeds.{refused_or}

-- ---- limits

-- in micrometres, of what the command has in millimetres
abbrev pub in_micrometres : Option ℕ → Option ℕ
in_micrometres limit = option_map (λ (v : ℕ). v * 1000) limit

abbrev pub limits_of : Option ℕ → Option ℕ → Limits
limits_of accel jump = record { acceleration = in_micrometres accel; jump = in_micrometres jump }

-- ---- lines

abbrev pub motion_lines : ℕ → List ℕ → List Traj → List Name → List ℕ
motion_lines depth times [] names = []
motion_lines depth times (t ∷ ts) [] = []
motion_lines depth times (t ∷ ts) (name ∷ names) =
    motion_line name.items (motion depth times t) ++ motion_lines depth times ts names

-- the lines of all drones, and the greatest of each axis
abbrev pub dynamics_text : ℕ → List ℕ → List Traj → List Name → List ℕ
dynamics_text depth times sent names = motion_lines depth times sent names ++ extremes_line (extremes_of depth sent)

-- ---- what is above a limit

-- a number of a drone on an axis that is above its limit, in what begins with a cue or at its beginning
abbrev pub refusal_as : Kind → Name → ℕ → ℕ → ℤ → Refusal
refusal_as kind.Acceleration name cue axis value = refusal.Accelerates name cue axis value
refusal_as kind.Jump name cue axis value = refusal.Jumps name cue axis value

-- what is above a limit, with the cue of its segment
abbrev pub excess_refusal : List ℕ → Traj → Name → Excess → Refusal
excess_refusal times t name e = refusal_as e.kind name (cue_of times t e.segment) e.axis e.value

abbrev pub excess_by : Limits → ℕ → List ℕ → Traj → Name → Option Refusal
excess_by limits depth times t name = option_map (excess_refusal times t name) (first_excess limits depth t)

abbrev pub first_excess_of : Limits → ℕ → List ℕ → List Traj → List Name → Option Refusal
first_excess_of limits depth times [] names = None
first_excess_of limits depth times (t ∷ ts) [] = None
first_excess_of limits depth times (t ∷ ts) (name ∷ names) =
    option_or (excess_by limits depth times t name) (first_excess_of limits depth times ts names)

-- ---- the command

-- how long the cues of a show last, in milliseconds
abbrev pub times_of : PlainShow → List ℕ
times_of s = cue_times (grid_of s)

-- what of a show is above a limit first, and the text of one that has nothing of the kind; of what its drones are sent
abbrev pub excess_in : Limits → ℕ → PlainShow → Option Refusal
excess_in limits depth s = first_excess_of limits depth (times_of s) (sent_of s) (names_of s)

abbrev pub dynamics_of : ℕ → PlainShow → List ℕ
dynamics_of depth s = dynamics_text depth (times_of s) (sent_of s) (names_of s)

-- The input stands for a show, and its accelerations and jumps were written. With what it is sent, each drone keeps to
-- them; and none is above its limit, if there is one.
pub record KeepsDynamics (depth : ℕ) (accel jump : Option ℕ) (input : List ℕ) (old new : Option (List ℕ)) : Type 0 where
  pub s : PlainShow
  pub stands : StandsFor input s
  pub keeps : All (KeepsMotion (limits_of accel jump) depth) (sent_of s)
  pub written : Appends old new (dynamics_of depth s)

abbrev pub dynamics_verb : ℕ → Option ℕ → Option ℕ → Verb
dynamics_verb depth accel jump =
    of_any None (λ s cut o. o ≡ refused_or (excess_in (limits_of accel jump) depth s) (dynamics_of depth s))
    (λ s cut. Unit {0})
    (λ s cut. All (KeepsMotion (limits_of accel jump) depth) (sent_of s))
    (λ s cut. excess_in (limits_of accel jump) depth s ≡ None)
    (λ input old new. KeepsDynamics depth accel jump input old new)
