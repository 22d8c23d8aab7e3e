use Rattle.choreo_lines.proofs.Prelude.{row_line, cond, drop, ◌≡◌, true, Ok, Err, length, words_in, values_in, sym, subst, AllFit, arith, common_steps, err_from_is_err_and, has_count, row_of}
use Rattle.choreo_lines.proofs.Reading.{row_short, row_unread, row_whole}
use Rattle.choreo_lines.proofs.Saying.{values_fit}
use Rattle.choreo_lines.proofs.entry.row_line.Goals as goal

pub entry_with-requires : goal.entry_with-requires
entry_with-requires c =
    let fit = (values_fit _ _ _ _ c.in_ok-values_in.ensures).0 in
    subst (AllFit _) (sym c.as_slice.ensures.value) (subst (λ ws. AllFit ws c.values_in.new.values.items) c.places-places.ensures.value fit)

pub returns-then-not-has_count : goal.returns-then-not-has_count
returns-then-not-has_count c = grind (arith, common_steps, row_short)

pub returns-in_err-values_in : goal.returns-in_err-values_in
returns-in_err-values_in c =
    let p = err_from_is_err_and c.from_residual.result c.from_residual.ensures.1 in
    let count : has_count (row_of c.args.first) (length (words_in c.args.text.now c.args.words.now)) ≡ true = grind (arith, common_steps) in
    rw (p.1, p.2) (row_unread _ _ _ _ count (subst (λ ws. values_in c.args.form ws (words_in c.args.text.now c.args.words.now) ≡ Err c.in_err-values_in.field-0.0) c.places-places.ensures.value c.in_err-values_in.ensures))

pub returns-in_err-names : goal.returns-in_err-names
unfolding row_line
returns-in_err-names c = grind (arith, common_steps, cond, drop)

pub returns : goal.returns
returns c = grind (arith, common_steps, row_whole)
