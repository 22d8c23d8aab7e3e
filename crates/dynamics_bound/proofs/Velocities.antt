-- Velocities: the steps of elements, and how much two velocities differ.
use Rattle.dynamics_bound.proofs.Prelude.{some_product, ◌≡◌, ℕ, suc, ◌+◌, ◌-◌, ◌*◌, ◌^◌, ◌≤◌, ◌<◌, ℤ, pos, ◌-ℤ◌, ◌*ℤ◌, unsigned_abs, arith, sym, ◌∙◌, ap, List, ◌∷◌, length, FitsSigned, to_z, of_z, ints, to_z-of_z, w32, mul-le, div_ceil_times, common_steps, at, IsBelow, mul_comm_ℤ, one_mul_ℤ, within_mul, by_lt, IsWithin, AreSame, first_step, jump_between, last_step}
use Rattle.dynamics_bound.specs.declared.velocity.Velocity.{Velocity}

-- the last step of a cubic, and that of degree seven
pub last_cubic : (x : ℤ) (v : List ℤ) → length v ≡ 3 → last_step (x ∷ v) ≡ pos 3 *ℤ (at v 2 -ℤ at v 1)
last_cubic x v count = ap (λ (n : ℕ). pos (suc n - 1) *ℤ (at (x ∷ v) (suc n - 1) -ℤ at (x ∷ v) (suc n - 2))) count

pub last_seven : (x : ℤ) (v : List ℤ) → length v ≡ 7 → last_step (x ∷ v) ≡ pos 7 *ℤ (at v 6 -ℤ at v 5)
last_seven x v count = ap (λ (n : ℕ). pos (suc n - 1) *ℤ (at (x ∷ v) (suc n - 1) -ℤ at (x ∷ v) (suc n - 2))) count

-- and the first steps of these
pub first_cubic : (x : ℤ) (v : List ℤ) → length v ≡ 3 → first_step (x ∷ v) ≡ pos 3 *ℤ (at v 0 -ℤ x)
first_cubic x v count = ap (λ (n : ℕ). pos (suc n - 1) *ℤ (at v 0 -ℤ x)) count

pub first_seven : (x : ℤ) (v : List ℤ) → length v ≡ 7 → first_step (x ∷ v) ≡ pos 7 *ℤ (at v 0 -ℤ x)
first_seven x v count = ap (λ (n : ℕ). pos (suc n - 1) *ℤ (at v 0 -ℤ x)) count

-- a step is computed as it is
pub once : (way x : ℤ) → IsBelow 65536 way → way ≡ x → to_z w32 (of_z w32 way) ≡ pos 1 *ℤ x
once way x small is = to_z-of_z w32 way (omega (arith, ints, small.0, small.1)) ∙ is ∙ sym (one_mul_ℤ x)

pub thrice : (way x : ℤ) → IsBelow 65536 way → way ≡ x → to_z w32 (of_z w32 (pos 3 *ℤ to_z w32 (of_z w32 way))) ≡ pos 3 *ℤ x
thrice way x small is =
    rw (to_z-of_z w32 way (omega (arith, ints, small.0, small.1))) (to_z-of_z w32 (pos 3 *ℤ way) (omega (arith, ints, small.0, small.1)) ∙ ap (λ (z : ℤ). pos 3 *ℤ z) is)

pub seven_times : (way x : ℤ) → IsBelow 65536 way → way ≡ x → to_z w32 (of_z w32 (pos 7 *ℤ to_z w32 (of_z w32 way))) ≡ pos 7 *ℤ x
seven_times way x small is =
    rw (to_z-of_z w32 way (omega (arith, ints, small.0, small.1))) (to_z-of_z w32 (pos 7 *ℤ way) (omega (arith, ints, small.0, small.1)) ∙ ap (λ (z : ℤ). pos 7 *ℤ z) is)

-- a step of 32 bits times a duration
pub product_small : (step x : ℤ) (ms : ℕ) → FitsSigned w32 step → x ≡ step *ℤ pos ms → IsWithin (pos (2 ^ 31 * ms)) x
product_small step x ms fits is = grind (arith, common_steps, ints, mul_comm_ℤ, pos, within_mul)

-- how far apart two steps over both durations are
pub gap_small : (a b : ℕ) (x y : ℤ) → 1 ≤ a → 1 ≤ b → IsWithin (pos (2 ^ 31 * a)) x → IsWithin (pos (2 ^ 31 * b)) y → unsigned_abs (x -ℤ y) ≤ 2 ^ 32 * (a * b)
gap_small a b x y some_a some_b first second = grind (arith, common_steps, ints, mul-le)

-- a jump fits
pub jump_small : (gap time r : ℕ) → 1 ≤ time → gap ≤ 2 ^ 32 * time → r * time < 1000000 * gap + time → r < 2 ^ 53
jump_small gap time r some small below = grind (arith, common_steps, mul-le, by_lt)

-- ---- no jump
-- where there is no jump two velocities are the same
pub none_same : (v w : Velocity) → 1 ≤ v.ms → 1 ≤ w.ms → jump_between v w ≡ 0 → AreSame v w
unfolding jump_between
none_same v w some_v some_w none = grind (arith, common_steps, ints, pos, div_ceil_times, unsigned_abs, some_product)

-- and where they are there is none
pub same_none : (v w : Velocity) → 1 ≤ v.ms → 1 ≤ w.ms → AreSame v w → jump_between v w ≡ 0
unfolding jump_between
same_none v w some_v some_w same = grind (arith, common_steps, ints, unsigned_abs, pos, some_product, by_lt, mul-le, div_ceil_times)
