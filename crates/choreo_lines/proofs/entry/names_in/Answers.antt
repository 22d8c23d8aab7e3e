use Rattle.choreo_lines.proofs.Prelude.{common_steps, ◌≤◌, sym, ap, ◌∙◌, drop, length, arith, Ok, err_from_is_err_and, name_in}
use Rattle.choreo_lines.proofs.Collected.{names_more, names_err, names_all, with_front}
use Rattle.choreo_lines.proofs.entry.names_in.Goals as goal

pub loop-token-preserved : goal.loop-token-preserved
loop-token-preserved c = grind (arith, common_steps, names_more, with_front, drop)

pub returns-in_err-name : goal.returns-in_err-name
returns-in_err-name c =
    let p = err_from_is_err_and c.from_residual-in_err-name.result c.from_residual-in_err-name.ensures.1 in
    rw (p.1, p.2)
    (c.loop-token.invariant ∙ names_err _ _ _ _ _ _ c.loop-token-test.true (sym (c.in_err-name.ensures ∙ ap name_in c.word_at.ensures)))

pub returns : goal.returns
returns c =
    let past : length c.args.words.now ≤ c.loop-token.token-index = omega arith in
    c.loop-token.invariant ∙ names_all _ _ _ _ past ∙ ap (λ ns. Ok ns) (sym c.from_vec.ensures)
