-- Instants that are held back to the show, and the two ends of a curve.
use Rattle.definition_tests.proofs.Prelude.{◌≡◌, ℕ, zero, suc, ◌+◌, ◌-◌, ◌*◌, ◌≤◌, min, nat_le, true, ℤ, pos, ◌*ℤ◌, List, [], ◌∷◌, All, length, map, fold, sum, arith, refl, sym, ◌∙◌, ap, subst, get_or, length-map, All-cons, All-head, All-nil, All-tail, power, at, Moment, moment, moment_from, time_before, IsPiece, Segment, Traj, HasDuration, durations, element_on, piece_on, pieces_on, value_after, own, AreTogether, last_value, IsMoving, formed_of, pieces_formed}
use Rattle.std.proofs.lemmas.Bool.Decides.{nat_tests}
use Rattle.std.proofs.lemmas.Nat.{mul-le}
use Rattle.std.proofs.lemmas.List.Sums.{sum_by-cons}
use Rattle.whole_numbers.specs.Decoded as plain
use Rattle.whole_numbers.proofs.EdgeLemmas.{decoded-at_end, decoded-at_start, moment_from-edge}
use Rattle.traj_codec.specs.Positions.{decoded}
use Rattle.definition_tests.specs.Ends.{EndsLaw, held_at}

-- ---- instants
-- a difference of two starts is one of the instants
near : (n b e p late q : ℕ) → e ≤ b + late * q → min (p - b) (q * n) ≤ min (p - e) (q * n) + late * q
near n b e p late q close = grind (arith, min)

scaled : (x y late q : ℕ) → x ≤ y + late * q → x * q ≤ y * q + late * (q * q)
scaled x y late q close =
    let more : x * q ≤ (y + late * q) * q = mul-le x q (y + late * q) q close (omega arith) in
    omega (arith, more, spread y late q)
  where
    spread : (y late q : ℕ) → (y + late * q) * q ≡ y * q + late * (q * q)
    spread y late q = omega arith

inside : (t : Traj) (b p q : ℕ) → held_at t b p q ≤ q * sum (durations t.segments)
inside t b p q = grind (arith, min)

together : (t u : Traj) (late b e p q : ℕ) → sum (durations t.segments) ≡ sum (durations u.segments) →
    b ≤ e + late * q → e ≤ b + late * q → AreTogether late (held_at t b p q) q (held_at u e p q) q
together t u late b e p q same behind before = record {
  before = scaled (held_at t b p q) (held_at u e p q) late q (rw same (near (sum (durations u.segments)) b e p late q before));
  after = scaled (held_at u e p q) (held_at t b p q) late q (rw same (near (sum (durations u.segments)) e b p late q behind));
}

-- ---- places
pieces : (t : Traj) (axis : ℕ) → IsMoving t → axis ≤ 2 → All IsPiece (pieces_on axis t)
pieces t axis moving inside = pieces_formed axis t.segments inside moving.durations (formed_of t.segments moving.formed.segments)

-- the last of a list's numbers is its last value
at_last : (first : ℤ) (stored : List ℤ) → at (first ∷ stored) (length stored) ≡ plain.last_value first stored
at_last first [] = refl
at_last first (v ∷ rest) = at_last v rest

-- the last control point of the last segment is the last value of all
last_point : (first : ℤ) (axis n : ℕ) (segments : List Segment) → length segments ≡ suc n →
    at (plain.points first (map (piece_on axis) segments) n) (length (plain.points first (map (piece_on axis) segments) n) - 1)
    ≡ fold (λ (v : ℤ) (s : Segment). value_after v (element_on s axis)) first segments
last_point first axis n [] count = absurd (omega (arith, count))
last_point first axis zero (s ∷ []) count =
    let last : suc (length (piece_on axis s).stored) - 1 ≡ length (piece_on axis s).stored = omega arith in
    rw last (at_last first (piece_on axis s).stored)
last_point first axis (suc n) (s ∷ []) count = absurd (omega (arith, count))
last_point first axis zero (s ∷ t ∷ rest) count = absurd (omega (arith, count))
last_point first axis (suc n) (s ∷ t ∷ rest) count =
    last_point (plain.last_value first (piece_on axis s).stored) axis n (t ∷ rest) (omega (arith, count))

-- ---- moments
times_last : (segments : List Segment) → All HasDuration segments → All (λ ms. 1 ≤ ms) (durations segments)
times_last [] all = All-nil (λ (ms : ℕ). 1 ≤ ms)
times_last (s ∷ rest) all =
    All-cons (λ (ms : ℕ). 1 ≤ ms) s.ms (durations rest) (All-head HasDuration s rest all) (times_last rest (All-tail HasDuration s rest all))

-- all durations pass before what follows them
whole : (segments : List Segment) → time_before (durations segments) (length segments) ≡ sum (durations segments)
whole [] = refl
whole (s ∷ rest) = omega (arith, whole rest, sum_by-cons (λ (n : ℕ). n) s.ms (durations rest))

first_moment : (q : ℕ) (segments : List Segment) → 1 ≤ length segments →
    moment (durations segments) 0 q ≡ record { cue = 0; a = 0; c = q * get_or (durations segments) 0 0 }
unfolding moment
first_moment q [] some = absurd (omega (arith, some))
first_moment q (s ∷ rest) some =
    let told : nat_le 0 (q * (0 + s.ms)) ≡ true = grind (arith, nat_tests) in
    let none : 0 - q * 0 ≡ 0 = omega arith in
    rw (told, none) refl

last_moment : (q n : ℕ) (segments : List Segment) → 1 ≤ q → All HasDuration segments → length segments ≡ suc n →
    moment (durations segments) (q * sum (durations segments)) q ≡ record { cue = n; a = q * get_or (durations segments) n 0; c = q * get_or (durations segments) n 0 }
unfolding moment
last_moment q n segments some lasting count =
    let all : sum (durations segments) ≡ 0 + time_before (durations segments) (suc n) = omega (arith, rw count at (whole segments)) in
    let here : 0 + n ≡ n = omega arith in
    ap (λ (t : ℕ). moment_from 0 0 (durations segments) (q * t) q) all
    ∙ moment_from-edge (durations segments) 0 0 n q some (times_last segments lasting) (omega (arith, count, length-map segments (λ (s : Segment). s.ms)))
    ∙ ap (λ (k : ℕ). record { cue = k; a = q * get_or (durations segments) n 0; c = q * get_or (durations segments) n 0 }) here

-- ---- places at the two ends
first_at : (start : ℤ) (axis q : ℕ) (segments : List Segment) → 1 ≤ length segments → All IsPiece (map (piece_on axis) segments) →
    plain.decoded start (map (piece_on axis) segments) (moment (durations segments) 0 q) ≡ (power (pos (moment (durations segments) 0 q).c) 7 *ℤ start)
first_at start axis q [] some all = absurd (omega (arith, some))
first_at start axis q (s ∷ rest) some all =
    subst (λ (m : Moment). plain.decoded start (map (piece_on axis) (s ∷ rest)) m ≡ (power (pos m.c) 7 *ℤ start)) (sym (first_moment q (s ∷ rest) some))
    (decoded-at_start start (map (piece_on axis) (s ∷ rest)) 0 (q * s.ms) all (omega arith))

last_at : (start : ℤ) (axis q n : ℕ) (segments : List Segment) → 1 ≤ q → All HasDuration segments → length segments ≡ suc n → All IsPiece (map (piece_on axis) segments) →
    plain.decoded start (map (piece_on axis) segments) (moment (durations segments) (q * sum (durations segments)) q)
    ≡ (power (pos (moment (durations segments) (q * sum (durations segments)) q).c) 7 *ℤ fold (λ (v : ℤ) (s : Segment). value_after v (element_on s axis)) start segments)
last_at start axis q n segments some lasting count all =
    subst (λ (m : Moment). plain.decoded start (map (piece_on axis) segments) m ≡ (power (pos m.c) 7 *ℤ fold (λ (v : ℤ) (s : Segment). value_after v (element_on s axis)) start segments))
    (sym (last_moment q n segments some lasting count))
    (decoded-at_end start (map (piece_on axis) segments) n (q * get_or (durations segments) n 0) all (omega (arith, count, length-map segments (piece_on axis)))
    ∙ ap (λ (z : ℤ). power (pos (q * get_or (durations segments) n 0)) 7 *ℤ z) (last_point start axis n segments count))

-- until its beginning a drone's instant is 0, and from its end on it is the last one
is_first : (n b p q : ℕ) → p ≤ b → min (p - b) (q * n) ≡ 0
is_first n b p q before = grind (arith, min)

is_last : (n b p q : ℕ) → b + q * n ≤ p → min (p - b) (q * n) ≡ q * n
is_last n b p q after = grind (arith, min)

less_one : (n : ℕ) → 1 ≤ n → n ≡ suc (n - 1)
less_one n some = omega arith

pub ends : EndsLaw
ends = record {
  first = λ t axis b p q moving near before.
      let is : held_at t b p q ≡ 0 = is_first (sum (durations t.segments)) b p q before in
      subst (λ (k : ℕ). decoded t axis (own t k q) ≡ (power (pos (own t k q).c) 7 *ℤ at t.start axis)) (sym is)
      (first_at (at t.start axis) axis q t.segments moving.some (pieces t axis moving near));
  last = λ t axis b p q moving near some after.
      let is : held_at t b p q ≡ q * sum (durations t.segments) = is_last (sum (durations t.segments)) b p q after in
      subst (λ (k : ℕ). decoded t axis (own t k q) ≡ (power (pos (own t k q).c) 7 *ℤ last_value t axis)) (sym is)
      (last_at (at t.start axis) axis q (length t.segments - 1) t.segments some moving.durations (less_one (length t.segments) moving.some) (pieces t axis moving near));
  together = together;
  apart = λ r h stray late trajs apart k n t u other first_is second_is same b e p q some behind before first second may also.
      apart k n t u other first_is second_is (held_at t b p q) q (held_at u e p q) q some some (inside t b p q) (inside u e p q)
      (together t u late b e p q same behind before) first second may also;
}
