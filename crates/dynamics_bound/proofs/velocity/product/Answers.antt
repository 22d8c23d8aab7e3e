use Rattle.dynamics_bound.proofs.Prelude.{common_steps, arith, ◌≤◌, ◌*◌, ◌^◌, ◌*ℤ◌, ℕ, ℤ, pos, unsigned_abs, Fits, FitsSigned, ints, unsigned_abs-mul, to_z-of_z, mul-le, w16, w32, w64}
use Rattle.dynamics_bound.proofs.Velocities.{product_small}
use Rattle.dynamics_bound.proofs.velocity.product.Goals as goal

product_fits : (step : ℤ) (ms : ℕ) → FitsSigned w32 step → Fits w16 ms → FitsSigned w64 (step *ℤ pos ms)
product_fits step ms fits short =
    let most : unsigned_abs (step *ℤ pos ms) ≤ 2 ^ 31 * 65535 = rw (unsigned_abs-mul step (pos ms)) (mul-le (unsigned_abs step) (unsigned_abs (pos ms)) (2 ^ 31) 65535 (omega (arith, ints)) (omega (arith, ints))) in
    omega (arith, ints)

wide : (x : ℤ) → FitsSigned w32 x → FitsSigned w64 x
wide x fits = omega (arith, ints)

long : (n : ℕ) → Fits w16 n → FitsSigned w64 (pos n)
long n fits = omega (arith, ints)

pub overflow_mul-result : goal.overflow_mul-result
overflow_mul-result c = grind (arith, common_steps, to_z-of_z, wide, pos, long, product_fits)

pub returns-clause-exact : goal.returns-clause-exact
returns-clause-exact c = grind (arith, common_steps, to_z-of_z, wide, pos, long, product_fits)

pub returns-clause-small : goal.returns-clause-small
returns-clause-small c = product_small c.args.step _ c.args.ms c.ranges.step (returns-clause-exact c)
