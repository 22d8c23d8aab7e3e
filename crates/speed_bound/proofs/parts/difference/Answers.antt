use Rattle.speed_bound.proofs.Prelude.{differences, refl, ◌≡◌, ℕ, suc, ◌+◌, ℤ, ◌-ℤ◌, unsigned_abs, arith, rules, ◌∙◌, sym, ap, at, FitsSigned, to_z-of_z, w128}
use Rattle.speed_bound.proofs.parts.difference.Goals as goal

-- the difference of two steps is of the second order
second_order : (order i j : ℕ) (f : ℕ → ℤ) (first second less : ℤ) (size : ℕ) → order ≡ 2 → j ≡ i + 1 → first ≡ differences 1 f i → second ≡ differences 1 f j → less ≡ second -ℤ first → size ≡ unsigned_abs less →
    size ≡ unsigned_abs (differences order f i)
second_order order i j f first second less size two next first_is second_is less_is size_is =
    let up : i + 1 ≡ suc i = omega arith in
    rw (size_is, less_is, first_is, second_is, next, up, two) refl

pub returns-else-this-eq1 : goal.returns-else-this-eq1
returns-else-this-eq1 g c =
    let first_fits : FitsSigned w128 c.step-first.result = search rules in
    let second_fits : FitsSigned w128 c.step-second.result = search rules in
    let less_fits : FitsSigned w128 c.less.result = search rules in
    second_order g.row.K c.args.i (c.args.i + 1) (at c.args.curve.now.b) c.step-first.result c.step-second.result c.less.result c.unsigned_abs-else-this-eq1.result
    (omega (arith, c.requires.order.0, c.requires.order.1, c.if-this-eq1.false)) (omega arith) c.step-first.ensures.exact c.step-second.ensures.exact
    (rw (sym (to_z-of_z w128 c.step-second.result second_fits), sym (to_z-of_z w128 c.step-first.result first_fits)) c.less.ensures) (c.unsigned_abs-else-this-eq1.ensures.value ∙ ap unsigned_abs (to_z-of_z w128 c.less.result less_fits))
