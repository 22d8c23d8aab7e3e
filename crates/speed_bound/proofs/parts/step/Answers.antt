use Rattle.speed_bound.proofs.Prelude.{◌≡◌, ℕ, suc, ◌+◌, ◌-◌, ◌^◌, ℤ, pos, ◌-ℤ◌, arith, rules, ◌∙◌, ap, FitsSigned, to_z, to_z-of_z, w128, at, IsWithin}
use Rattle.std.proofs.Common.{of_z}
use Rattle.bezier_core.specs.HalvingSteps.{IsWord}
use Rattle.speed_bound.proofs.Widths.{within_at}
use Rattle.speed_bound.proofs.Words.{step_fits, value_fits, value_held}
use Rattle.speed_bound.proofs.parts.step.Goals as goal

-- a value is read as it is
held : (bits : ℕ) (x : ℤ) → IsWord bits → IsWithin (pos (2 ^ (bits - 8))) x → to_z w128 (of_z w128 x) ≡ x
held bits x word near = to_z-of_z w128 x (value_held bits x word near)

pub less-requires-clause-x : goal.less-requires-clause-x
less-requires-clause-x g c =
    let near = within_at (2 ^ (g.row.BITS - 8)) c.args.curve.now.b (c.args.i + 1) c.requires.values in
    rw (held g.row.BITS _ c.requires.word near) (value_fits g.row.BITS _ c.requires.word near)

pub less-requires-clause-y : goal.less-requires-clause-y
less-requires-clause-y g c =
    let near = within_at (2 ^ (g.row.BITS - 8)) c.args.curve.now.b c.args.i c.requires.values in
    rw (held g.row.BITS _ c.requires.word near) (value_fits g.row.BITS _ c.requires.word near)

pub returns-clause-exact : goal.returns-clause-exact
returns-clause-exact g c =
    let value = λ (k : ℕ). within_at (2 ^ (g.row.BITS - 8)) c.args.curve.now.b k c.requires.values in
    let up : c.args.i + 1 ≡ suc c.args.i = omega arith in
    let fits : FitsSigned w128 c.less.result = search rules in
    to_z-of_z w128 c.less.result fits ∙ c.less.ensures ∙ rw (held g.row.BITS _ c.requires.word (value (c.args.i + 1)), held g.row.BITS _ c.requires.word (value c.args.i))
    (ap (λ (n : ℕ). at c.args.curve.now.b n -ℤ at c.args.curve.now.b c.args.i) up)

pub returns-clause-small : goal.returns-clause-small
returns-clause-small g c =
    let value = λ (k : ℕ). within_at (2 ^ (g.row.BITS - 8)) c.args.curve.now.b k c.requires.values in
    rw (returns-clause-exact g c) (step_fits g.row.BITS _ _ c.requires.word (value (suc c.args.i)) (value c.args.i))
