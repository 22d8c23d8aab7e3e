use Rattle.dynamics_bound.proofs.Prelude.{three_told, common_steps, ◌≡◌, ℕ, zero, suc, ◌^◌, ◌<◌, max, pos, arith, ◌∙◌, ap, to_z, to_z_pos, w64, Traj, pieces_formed, acceleration, rate}
use Rattle.dynamics_bound.proofs.Segments.{acceleration-is, keeps_acceleration}
use Rattle.dynamics_bound.proofs.acceleration.bound.Goals as goal

-- above 0 the greatest rate is the acceleration
is_greatest : (depth axis : ℕ) (t : Traj) (n : ℕ) → n ≡ max 0 (rate 2 depth t axis) → n ≡ acceleration depth t axis
is_greatest depth axis t n is = omega (arith, is) ∙ acceleration-is depth axis t

told : (n m : ℕ) → n < 2 ^ 53 → n ≡ m → to_z w64 n ≡ pos m
told n m small is = to_z_pos w64 n (omega (arith, small)) ∙ ap (λ (k : ℕ). pos k) is

pub returns-clause-exact : goal.returns-clause-exact
returns-clause-exact c = grind (arith, common_steps, three_told, told, is_greatest)

pub returns-clause-keeps : goal.returns-clause-keeps
returns-clause-keeps c axis near =
    keeps_acceleration c.args.depth axis c.args.t.now (pieces_formed axis c.args.t.now.segments near c.requires.durations c.formed_law.ensures)

pub returns-clause-small : goal.returns-clause-small
returns-clause-small c zero near = grind (arith, common_steps, is_greatest)
returns-clause-small c (suc zero) near = grind (arith, common_steps, is_greatest)
returns-clause-small c (suc (suc zero)) near = grind (arith, common_steps, is_greatest)
returns-clause-small c (suc (suc (suc axis))) near = absurd (omega arith)
