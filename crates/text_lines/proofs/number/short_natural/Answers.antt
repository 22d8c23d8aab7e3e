use Rattle.text_lines.proofs.Prelude.{◌≡◌, ℕ, ◌+◌, ◌*◌, Some, length, sym, ap, ◌∙◌, arith, number_at}
use Rattle.text_lines.proofs.Digits.{four_more, natural_digits, digits_end}
use Rattle.text_lines.proofs.number.short_natural.Goals as goal

pub returns-clause-value : goal.returns-clause-value
returns-clause-value c =
    let w = c.args.word.now in
    let eight : length w ≡ 8 = omega (arith, c.requires.short, c.if-word-lt8.false) in
    let sum : 10000 * c.four_digits-n.result + c.four_digits.result ≡ 10000 * (10000 * 0 + number_at w 0) + number_at w 4 = omega (arith, c.four_digits-n.ensures.value, c.four_digits.ensures.value) in
    ap (λ (m : ℕ). Some m) sum
    ∙ sym (natural_digits w c.requires.some
    ∙ four_more 0 0 w (omega (arith, eight)) (sym c.if-not-are_four_digits.ensures)
    ∙ four_more (10000 * 0 + number_at w 0) 4 w (omega (arith, eight)) (sym c.if-not-are_four_digits-2.ensures)
    ∙ digits_end (10000 * (10000 * 0 + number_at w 0) + number_at w 4) 8 w (omega (arith, eight)))
