-- Where drones are before their curves begin and after they end.
use Rattle.std.specs.Prelude.{◌≡◌, ℕ, ◌+◌, ◌-◌, ◌*◌, ◌≤◌, min, pos, ◌*ℤ◌, List, Some, slice_get, sum}
use Rattle.whole_numbers.specs.Sums.{power}
use Rattle.whole_numbers.specs.Bernstein.{at}
use Rattle.traj_codec.specs.declared.traj.Traj.{Traj}
use Rattle.traj_codec.specs.Positions.{decoded, durations}
use Rattle.traj_codec.specs.Joined.{own}
use Rattle.sep_parts.specs.Apart.{AreTogether, FlyApart, MayBeAt, Point, ShareNoPoint}
use Rattle.firmware_memory.specs.Decoded.{last_value}
use Rattle.speed_bound.specs.Reach.{IsMoving}

-- The instant of its curve at which a drone is at the time p / q, where it begins at b / q: the first one until then,
-- and the last one once its curve has ended. All are numerators over q, in milliseconds.
abbrev pub held_at : Traj → ℕ → ℕ → ℕ → ℕ
held_at t b p q = min (p - b) (q * sum (durations t.segments))

-- Until it begins a drone is at the first place of its curve, and from its end on at the last one. Two drones of one
-- show that begin at most `late` ms apart are together at all times. So drones that fly apart do so at all times:
-- before the first of them begins, and after the last has ended.
pub record EndsLaw : Type 0 where
  pub first : (t : Traj) (axis b p q : ℕ) → IsMoving t → axis ≤ 2 → p ≤ b →
      decoded t axis (own t (held_at t b p q) q) ≡ (power (pos (own t (held_at t b p q) q).c) 7 *ℤ at t.start axis)
  pub last : (t : Traj) (axis b p q : ℕ) → IsMoving t → axis ≤ 2 → 1 ≤ q → b + q * sum (durations t.segments) ≤ p →
      decoded t axis (own t (held_at t b p q) q) ≡ (power (pos (own t (held_at t b p q) q).c) 7 *ℤ last_value t axis)
  pub together : (t u : Traj) (late b e p q : ℕ) → sum (durations t.segments) ≡ sum (durations u.segments) →
      b ≤ e + late * q → e ≤ b + late * q → AreTogether late (held_at t b p q) q (held_at u e p q) q
  pub apart : (r h stray late : ℕ) (trajs : List Traj) → FlyApart r h stray late trajs →
      (k n : ℕ) (t u : Traj) → (k ≡ n → ⊥) → slice_get trajs k ≡ Some t → slice_get trajs n ≡ Some u →
      sum (durations t.segments) ≡ sum (durations u.segments) →
      (b e p q : ℕ) → 1 ≤ q → b ≤ e + late * q → e ≤ b + late * q → (first second : Point) →
      MayBeAt stray t (held_at t b p q) q first → MayBeAt stray u (held_at u e p q) q second →
      ShareNoPoint r h first second
