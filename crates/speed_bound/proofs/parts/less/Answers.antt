use Rattle.speed_bound.proofs.Prelude.{arith, ◌^◌, ℤ, pos, ◌-ℤ◌, FitsSigned, ints, to_z-of_z, w64, IsWithin, common_steps}
use Rattle.speed_bound.proofs.parts.less.Goals as goal

is_short : (z : ℤ) → IsWithin (pos (2 ^ 58)) z → FitsSigned w64 z
is_short z within = omega (arith, ints)

less_short : (x y : ℤ) → IsWithin (pos (2 ^ 58)) x → IsWithin (pos (2 ^ 58)) y → FitsSigned w64 (x -ℤ y)
less_short x y x_within y_within = omega (arith, ints)

pub returns-then-this-eq64 : goal.returns-then-this-eq64
returns-then-this-eq64 g c = grind (arith, common_steps, is_short, less_short, to_z-of_z)
