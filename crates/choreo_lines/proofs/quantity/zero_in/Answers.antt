use Rattle.choreo_lines.proofs.Prelude.{◌≡◌, Some, refl, ap, sym, pos, ◌∙◌, in_range, number_of, rules}
use Rattle.choreo_lines.proofs.Found.{zero_read}
use Rattle.choreo_lines.proofs.quantity.zero_in.Goals as goal

pub returns-in-Ok-clause-value : goal.returns-in-Ok-clause-value
returns-in-Ok-clause-value c =
    let zero : c.in_range.result ≡ in_range c.args.low c.args.high (Some (pos 0)) = search (rules, c.in_range.ensures.value (Some 0) refl) in
    zero ∙ ap (in_range c.args.low c.args.high) (sym (zero_read (number_of c.args.word.now) _ (sym c.in-Ok.ensures.value)))
