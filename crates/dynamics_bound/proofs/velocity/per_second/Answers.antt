use Rattle.dynamics_bound.proofs.Prelude.{some_product, ◌≡◌, ◌*◌, ◌^◌, ◌≤◌, ◌<◌, ℕ, arith, div_ceil, div_ceil_times}
use Rattle.dynamics_bound.proofs.Velocities.{jump_small}
use Rattle.dynamics_bound.proofs.velocity.per_second.Goals as goal

small : (change a b r : ℕ) → 1 ≤ a → 1 ≤ b → change ≤ 2 ^ 32 * (a * b) → r ≡ div_ceil (1000000 * change) (a * b) → r < 2 ^ 53
small change a b r some_a some_b few is =
    jump_small change (a * b) r (some_product a b some_a some_b) few (rw is (div_ceil_times (1000000 * change) (a * b) (some_product a b some_a some_b)).1)

pub overflow_cast-result : goal.overflow_cast-result
overflow_cast-result c =
    let few : c.div_ceil.result < 2 ^ 53 = small c.args.change c.args.v_ms c.args.w_ms c.div_ceil.result c.requires.v c.requires.w c.requires.change c.div_ceil.ensures in
    omega arith

pub returns-clause-small : goal.returns-clause-small
returns-clause-small c = small c.args.change c.args.v_ms c.args.w_ms c.div_ceil.result c.requires.v c.requires.w c.requires.change c.div_ceil.ensures
