-- Where a player stands in a trajectory.
use Rattle.std.specs.Prelude.{◌≡◌, ℕ, ◌+◌, ◌-◌, ◌<◌, ◌≤◌, List, [], ◌∷◌, drop, ℤ}
use Rattle.whole_numbers.specs.Bernstein.{at}
use Rattle.whole_numbers.specs.Moments.{Moment, moment_from, time_before}
use Rattle.traj_codec.specs.declared.traj.Segment.{Segment}
use Rattle.traj_codec.specs.declared.traj.Traj.{Traj}
use Rattle.traj_codec.specs.Positions.{points, durations}
use Rattle.integer_player.specs.Played.{moment_of}

-- A segment of a trajectory, with what the trajectory has come to before it.
pub record Place : Type 0 where
  -- the segment's number, from 0
  pub cue : ℕ
  -- how many milliseconds pass before it
  pub before : ℕ
  -- the values with which it begins: x, y, z and yaw
  pub first : List ℤ
  pub segment : Segment

-- The place is one of the trajectory.
pub record IsPlaceIn (t : Traj) (p : Place) : Type 0 where
  pub later : List Segment
  pub here : drop p.cue t.segments ≡ p.segment ∷ later
  pub time : p.before ≡ time_before (durations t.segments) p.cue
  pub begins : (axis : ℕ) → axis < 4 → at p.first axis ≡ at (points t p.cue axis) 0

-- the instant `ms`, in milliseconds, as a part of the place's segment
abbrev pub part_of : Place → ℕ → Moment
part_of p ms = record { cue = p.cue; a = ms - p.before; c = p.segment.ms }

-- The place is the trajectory's at an instant: that of the first segment whose end isn't before it.
pub record IsPlaceAt (t : Traj) (ms : ℕ) (p : Place) : Type 0 where
  pub place : IsPlaceIn t p
  pub begun : p.before ≤ ms
  pub going : ms ≤ p.before + p.segment.ms
  pub duration : 1 ≤ p.segment.ms
  pub moment : part_of p ms ≡ moment_of t ms

-- The place isn't past an instant: the first segment whose end isn't before the instant is this one or a later one.
pub record IsNotPast (t : Traj) (ms : ℕ) (p : Place) : Type 0 where
  pub place : IsPlaceIn t p
  pub begun : p.before ≤ ms
  pub ahead : moment_from p.before p.cue (durations (drop p.cue t.segments)) ms 1 ≡ moment_of t ms

-- Each drone stands at a place of its trajectory.
abbrev pub ArePlaces : List Traj → List Place → Type 0
ArePlaces [] ps = Unit {0}
ArePlaces (t ∷ ts) [] = ⊥
ArePlaces (t ∷ ts) (p ∷ ps) = IsPlaceIn t p × ArePlaces ts ps
