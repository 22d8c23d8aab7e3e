-- How near the trajectories of drones are to the show, at every instant.
use Rattle.std.specs.Prelude.{◌≡◌, ℕ, ℤ, pos, ◌*◌, ◌*ℤ◌, ◌<◌, ◌≤◌, List, [], length, slice_index_or}
use Rattle.std.specs.List.{sum}
use Rattle.whole_numbers.specs.Sums.{power}
use Rattle.whole_numbers.specs.Moments.{Moment, moment}
use Rattle.whole_numbers.specs.Near.{IsNearOver}
use Rattle.cue_grid.specs.declared.grid.Grid.{Grid}
use Rattle.traj_codec.specs.declared.traj.Traj.{Traj}
use Rattle.traj_codec.specs.Positions.{durations, decoded}
use Rattle.traj_codec.specs.Joined.{own}
use Rattle.figure_expand.specs.Flown.{written_at}
use Rattle.show_plan.specs.Trajectories.{cue_times}

-- At every instant p / q of a show, its ends too.
abbrev pub AtEachInstant : Grid → (ℕ → ℕ → Type 0) → Type 0
AtEachInstant g Holds = (p q : ℕ) → 1 ≤ q → p ≤ q * sum (cue_times g) → Holds p q

-- the cue of an instant, and the part of it that has passed
abbrev pub cue_moment : Grid → ℕ → ℕ → Moment
cue_moment g p q = moment (cue_times g) p q

-- the written position of a drone at an instant on an axis: a numerator over c ^ 7, where c is that of the cue
abbrev pub written : Grid → ℕ → ℕ → ℕ → ℕ → ℤ
written g d axis p q = written_at g d (cue_moment g p q).cue axis (cue_moment g p q).a (cue_moment g p q).c

-- on an axis the decoded position, by the trajectory's own segment, is within half a millimetre of the written position
-- of the drone
abbrev pub FliesNearOn : Grid → ℕ → Traj → ℕ → ℕ → ℕ → Type 0
FliesNearOn g d t axis p q =
    IsNearOver (written g d axis p q) (cue_moment g p q).c (decoded t axis (own t p q)) (own t p q).c

-- The trajectory lasts as long as the show, and at each instant x, y and z are within half a millimetre of the position
-- that the show says for this drone, and the yaw is equal.
pub record FliesNear (g : Grid) (d : ℕ) (t : Traj) : Type 0 where
  pub lasts : sum (durations t.segments) ≡ sum (cue_times g)
  pub x : AtEachInstant g (FliesNearOn g d t 0)
  pub y : AtEachInstant g (FliesNearOn g d t 1)
  pub z : AtEachInstant g (FliesNearOn g d t 2)
  pub yaw : AtEachInstant g (λ p q.
      (decoded t 3 (own t p q) *ℤ power (pos (cue_moment g p q).c) 7)
      ≡ (written g d 3 p q *ℤ power (pos (own t p q).c) 7))

-- what stands where no trajectory does
abbrev pub no_trajectory : Traj
no_trajectory = record { start = []; segments = [] }

-- There is one trajectory for each drone, and it flies near to what the show says for this drone.
pub record KeepsNearShow (g : Grid) (ts : List Traj) : Type 0 where
  pub drones : length ts ≡ length g.starts
  pub near : (d : ℕ) → d < length ts → FliesNear g d (slice_index_or ts d no_trajectory)
