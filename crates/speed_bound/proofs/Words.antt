-- Numbers of 64 and of 128 bits have room for differences.
use Rattle.speed_bound.proofs.Prelude.{ℕ, ◌-◌, ◌^◌, ℤ, pos, ◌-ℤ◌, arith, subst, FitsSigned, ints, w128, IsWithin}
use Rattle.std.proofs.Common.{inl, inr, sym}
use Rattle.bezier_core.specs.HalvingSteps.{IsWord}

pub by_word : (P : ℕ → Type 0) (bits : ℕ) → IsWord bits → P 64 → P 128 → P bits
by_word P bits (inl is) short long = subst P (sym is) short
by_word P bits (inr is) short long = subst P (sym is) long

-- a control value
pub value_fits : (bits : ℕ) (x : ℤ) → IsWord bits → IsWithin (pos (2 ^ (bits - 8))) x → IsWithin (pos (2 ^ (bits - 6))) x
value_fits bits x word =
    by_word (λ (n : ℕ). IsWithin (pos (2 ^ (n - 8))) x → IsWithin (pos (2 ^ (n - 6))) x) bits word
    (λ near. (omega (arith, ints, near.0), omega (arith, ints, near.1))) (λ near. (omega (arith, ints, near.0), omega (arith, ints, near.1)))

-- a step between two of them
pub step_fits : (bits : ℕ) (x y : ℤ) → IsWord bits → IsWithin (pos (2 ^ (bits - 8))) x → IsWithin (pos (2 ^ (bits - 8))) y → IsWithin (pos (2 ^ (bits - 6))) (x -ℤ y)
step_fits bits x y word =
    by_word (λ (n : ℕ). IsWithin (pos (2 ^ (n - 8))) x → IsWithin (pos (2 ^ (n - 8))) y → IsWithin (pos (2 ^ (n - 6))) (x -ℤ y)) bits word
    (λ first second. (omega (arith, ints, first.0, first.1, second.0, second.1), omega (arith, ints, first.0, first.1, second.0, second.1)))
    (λ first second. (omega (arith, ints, first.0, first.1, second.0, second.1), omega (arith, ints, first.0, first.1, second.0, second.1)))

pub value_held : (bits : ℕ) (x : ℤ) → IsWord bits → IsWithin (pos (2 ^ (bits - 8))) x → FitsSigned w128 x
value_held bits x word =
    by_word (λ (n : ℕ). IsWithin (pos (2 ^ (n - 8))) x → FitsSigned w128 x) bits word (λ near. omega (arith, ints, near.0, near.1)) (λ near. omega (arith, ints, near.0, near.1))
