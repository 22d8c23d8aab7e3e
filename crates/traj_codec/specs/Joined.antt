-- Joined holds: what becomes of a trajectory whose whole holds that follow each other are joined from the left.
use Rattle.std.specs.Prelude.{◌≡◌, ◌⊎◌, ℕ, zero, suc, ◌+◌, ◌≤◌, ◌<◌, Bool, true, false, nat_le, pos, ◌*ℤ◌, List, []}
use Rattle.std.specs.Prelude.{◌∷◌, map, length, if◌then◌else◌}
use Rattle.std.specs.List.{list_all, flat_map, sum, All}
use Rattle.whole_numbers.specs.Sums.{power}
use Rattle.whole_numbers.specs.Moments.{Moment, moment}
use Rattle.traj_codec.specs.declared.traj.Element.{Element}
use Rattle.traj_codec.specs.declared.traj.Element.TheVariants.{Constant, Linear, Cubic, Seven}
use Rattle.traj_codec.specs.declared.traj.Segment.{Segment}
use Rattle.traj_codec.specs.declared.traj.Traj.{Traj}
use Rattle.traj_codec.specs.Spelling.{IsTrajectory}
use Rattle.traj_codec.specs.Positions.{durations, decoded}

-- the longest that a segment lasts, in milliseconds
abbrev pub most_ms : ℕ
most_ms = 65535

-- the element's value stays
abbrev pub stays : Element → Bool
stays Constant = true
stays (Linear v) = false
stays (Cubic v) = false
stays (Seven v) = false

-- a whole hold: all four elements stay
abbrev pub is_hold : Segment → Bool
is_hold s = list_all stays s.elements

-- the hold of this many milliseconds
abbrev pub hold : ℕ → Segment
hold ms = record { ms = ms; elements = Constant ∷ Constant ∷ Constant ∷ Constant ∷ [] }

-- ---- what a reader believes: the segments in groups

-- A group: one segment that is no hold, or holds that last at most 65,535 ms together.
abbrev pub IsGroup : List Segment → Type 0
IsGroup group =
    ((s : Segment) × (group ≡ s ∷ []) × (is_hold s ≡ false))
    ⊎ ((1 ≤ length group) × All (λ s. is_hold s ≡ true) group × (sum (durations group) ≤ most_ms))

-- the segment that a group becomes
abbrev pub one_of : List Segment → Segment
one_of [] = hold 0
one_of (s ∷ rest) = if is_hold s then hold (sum (durations (s ∷ rest))) else s

-- how long the first segment of a group lasts
abbrev pub first_ms : List Segment → ℕ
first_ms [] = 0
first_ms (s ∷ rest) = s.ms

-- From the left: where two groups of holds stand one after the other, the first of the later ones was too long for the
-- earlier group.
abbrev pub FromTheLeft : List (List Segment) → Type 0
FromTheLeft [] = Unit {0}
FromTheLeft (g ∷ []) = Unit {0}
FromTheLeft (g ∷ k ∷ rest) =
    (All (λ s. is_hold s ≡ true) g → All (λ s. is_hold s ≡ true) k → most_ms < sum (durations g) + first_ms k)
    × FromTheLeft (k ∷ rest)

-- The segments with their holds joined from the left.
pub record IsJoined (segments joined : List Segment) : Type 0 where
  pub groups : List (List Segment)
  pub whole : flat_map (λ group. group) groups ≡ segments
  pub each : All IsGroup groups
  pub greedy : FromTheLeft groups
  pub are : joined ≡ map one_of groups

-- ---- the fold: held is how long the holds in front last together, 0 where none stands there

-- the holds in front, as one segment
abbrev pub put_held : ℕ → List Segment → List Segment
put_held zero later = later
put_held (suc n) later = hold (suc n) ∷ later

-- a segment after the holds in front, where what follows is joined already
abbrev pub put_next : ℕ → Segment → List Segment → List Segment
put_next held s later =
    if is_hold s then (if nat_le (held + s.ms) most_ms then later else put_held held later)
    else put_held held (s ∷ later)

-- how long the holds last that stand in front of what follows
abbrev pub next_held : ℕ → Segment → ℕ
next_held held s = if is_hold s then (if nat_le (held + s.ms) most_ms then held + s.ms else s.ms) else 0

unfoldable pub joined_from : ℕ → List Segment → List Segment
joined_from held [] = put_held held []
joined_from held (s ∷ rest) = put_next held s (joined_from (next_held held s) rest)

-- a trajectory with its holds joined
abbrev pub joined : Traj → Traj
joined t = record { start = t.start; segments = joined_from 0 t.segments }

-- ---- the law

-- where the trajectory is at the instant p / q: by its own segments
abbrev pub own : Traj → ℕ → ℕ → Moment
own t p q = moment (durations t.segments) p q

-- Two trajectories have the same position at each instant, on each axis, whatever the segments they are cut into.
abbrev pub SameCurve : Traj → Traj → Type 0
SameCurve t u = (axis p q : ℕ) →
    (power (pos (own u p q).c) 7 *ℤ decoded t axis (own t p q))
    ≡ (power (pos (own t p q).c) 7 *ℤ decoded u axis (own u p q))

-- each segment lasts some time
abbrev pub IsLasting : Traj → Type 0
IsLasting t = All (λ ms. 1 ≤ ms) (durations t.segments)

-- Joined holds: the same curve, as long, no more segments.
pub record JoinLaw : Type 0 where
  pub same : (t : Traj) → IsLasting t → SameCurve t (joined t)
  pub lasts : (t : Traj) → sum (durations (joined t).segments) ≡ sum (durations t.segments)
  pub last : (t : Traj) → IsLasting t → IsLasting (joined t)
  pub fewer : (t : Traj) → length (joined t).segments ≤ length t.segments
  pub formed : (t : Traj) → IsTrajectory t → IsTrajectory (joined t)

-- The fold joins the groups from the left.
abbrev pub GroupLaw : Type 0
GroupLaw =
    (segments : List Segment) → All (λ ms. 1 ≤ ms) (durations segments) →
    All (λ ms. ms ≤ most_ms) (durations segments) →
    IsJoined segments (joined_from 0 segments)
