use Rattle.bezier_core.proofs.Prelude.{common_steps, arith, ◌^◌, ℤ, pos, ◌+ℤ◌, FitsSigned, ints, to_z-of_z, w64, IsWithin}
use Rattle.bezier_core.proofs.halves.sum.Goals as goal

is_short : (z : ℤ) → IsWithin (pos (2 ^ 61)) z → FitsSigned w64 z
is_short z within = omega (arith, ints)

sum_short : (x y : ℤ) → IsWithin (pos (2 ^ 61)) x → IsWithin (pos (2 ^ 61)) y → FitsSigned w64 (x +ℤ y)
sum_short x y x_within y_within = omega (arith, ints)

pub returns-then-this-eq64 : goal.returns-then-this-eq64
returns-then-this-eq64 g c = grind (arith, common_steps, is_short, sum_short, to_z-of_z)
