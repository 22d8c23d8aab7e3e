-- The control points of a trajectory on an axis, segment by segment.
use Rattle.traj_codec.proofs.Prelude.{◌≡◌, ℕ, ◌-◌, ◌≤◌, ℤ, pos, ◌*ℤ◌, List, [], ◌∷◌, length, map, arith, refl, sym, ap, power, at, bern, Moment, last_value, Segment, Traj, piece_on, durations, points, decoded}
use Rattle.whole_numbers.specs.Decoded as plain

-- a list ends with its last number
last_is : (first z : ℤ) (zs : List ℤ) → last_value first (z ∷ zs) ≡ at (z ∷ zs) (length zs)
last_is first z [] = refl
last_is first z (y ∷ zs) = last_is z y zs

-- the last of one or more numbers
pub last-at : (first : ℤ) (v : List ℤ) (n : ℕ) → 1 ≤ n → length v ≡ n → at v (n - 1) ≡ last_value first v
last-at first [] n some many = absurd (omega arith)
last-at first (z ∷ zs) n some many = let e : n - 1 ≡ length zs = omega arith in rw e (sym (last_is first z zs))

-- the pieces on each axis last as long as the segments
pub durations_on : (axis : ℕ) (segments : List Segment) → plain.durations (map (piece_on axis) segments) ≡ durations segments
durations_on axis [] = refl
durations_on axis (s ∷ rest) = ap (λ (ns : List ℕ). s.ms ∷ ns) (durations_on axis rest)

-- the decoded position by its control points
pub decoded-points : (t : Traj) (axis : ℕ) (m : Moment) → decoded t axis m ≡ power (pos m.c) (8 - length (points t m.cue axis)) *ℤ bern (points t m.cue axis) (pos m.a) (pos m.c)
unfolding plain.decoded
decoded-points t axis m = refl
