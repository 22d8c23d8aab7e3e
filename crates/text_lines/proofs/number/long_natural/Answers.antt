use Rattle.text_lines.proofs.Prelude.{◌+◌, ◌*◌, ◌-◌, refl, sym, ◌∙◌, get_or, arith}
use Rattle.text_lines.proofs.Digits.{digit_more, capped_one, natural_digits}
use Rattle.text_lines.proofs.number.long_natural.Goals as goal

pub loop-digit-init : goal.loop-digit-init
loop-digit-init c = (0, refl, natural_digits c.args.word.now c.requires)

pub loop-digit-preserved : goal.loop-digit-preserved
loop-digit-preserved c =
    let w = c.args.word.now in
    let i = c.loop-digit.digit-index in
    let (m, n_is, so_far) = c.loop-digit.invariant in (
      10 * m + (get_or w i 0 - 48),
      rw c.min-n.ensures (capped_one m c.loop-digit.n (get_or w i 0 - 48) 1000000000000 n_is),
      so_far ∙ digit_more m i (i + 1) w c.loop-digit-test.true (omega arith) (sym c.is_digit.ensures ∙ c.if-not-is_digit.false),
    )
