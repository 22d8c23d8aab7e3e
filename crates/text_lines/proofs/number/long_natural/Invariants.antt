use Rattle.text_lines.proofs.Prelude.{◌≡◌, ℕ, drop, min, natural_of, digits_after}
use Rattle.text_lines.proofs.number.long_natural.Given as goal

abbrev pub invariant-loop-digit : goal.invariant-loop-digit
invariant-loop-digit l =
    (m : ℕ) × (l.n ≡ min m 1000000000000) × (natural_of l.word ≡ digits_after m (drop l.digit-index l.word))
