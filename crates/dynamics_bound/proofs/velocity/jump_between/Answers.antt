use Rattle.dynamics_bound.proofs.Prelude.{common_steps, ◌≡◌, pos, ◌-ℤ◌, unsigned_abs, rules, FitsSigned, arith, to_z-of_z, w64, jump_between}
use Rattle.dynamics_bound.proofs.Velocities.{gap_small}
use Rattle.dynamics_bound.proofs.velocity.jump_between.Goals as goal

pub per_second-requires-clause-change : goal.per_second-requires-clause-change
per_second-requires-clause-change c =
    let first : FitsSigned w64 c.product.result = search rules in
    let second : FitsSigned w64 c.product-2.result = search rules in
    let gap_is : c.apart-change.result ≡ unsigned_abs (c.product.result -ℤ c.product-2.result) = simp to_z-of_z at c.apart-change.ensures in
    rw gap_is (gap_small c.args.v.ms c.args.w.ms c.product.result c.product-2.result c.requires.v c.requires.w c.product.ensures.small c.product-2.ensures.small)

pub returns-clause-exact : goal.returns-clause-exact
unfolding jump_between
returns-clause-exact c = grind (arith, common_steps, unsigned_abs, to_z-of_z, pos)
