use Rattle.choreo_lines.proofs.Prelude.{common_steps, ◌<◌, ◌≤◌, sym, ap, ◌∙◌, length, arith, err_from_is_err_and, value_in}
use Rattle.choreo_lines.proofs.Collected.{values_more, values_err, values_all, with_front, rest}
use Rattle.choreo_lines.proofs.entry.values_in.Goals as goal

pub returns-in_err-value : goal.returns-in_err-value
returns-in_err-value c =
    let p = err_from_is_err_and c.from_residual.result c.from_residual.ensures.1 in
    let has : c.loop-k.k < length c.args.words.now = omega (arith, c.requires.words, c.loop-k-test.true) in
    rw (p.1, p.2)
    (c.loop-k.invariant.0
    ∙ values_err _ _ _ _ _ _ _ _ _ c.loop-k-test.true has (sym (c.in_err-value.ensures ∙ ap (value_in _ _) c.word_at.ensures)))

pub loop-k-preserved : goal.loop-k-preserved
loop-k-preserved c = grind (arith, common_steps, values_more, with_front, rest)

pub returns : goal.returns
returns c =
    let past : length c.args.wants.now ≤ c.loop-k.k = omega arith in
    c.loop-k.invariant.0 ∙ values_all _ _ _ _ _ _ past
