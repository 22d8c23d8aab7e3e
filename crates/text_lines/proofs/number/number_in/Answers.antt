use Rattle.text_lines.proofs.Prelude.{◌≡◌, ℕ, ◌-◌, true, false, List, drop, take, length, option_map, rules, arith, signed, natural_of, number_of, begins_with_minus as begins_with_minus_of}
use Rattle.std.proofs.lemmas.Grind.{common_steps}
use Rattle.text_lines.proofs.number.number_in.Goals as goal

negative : (w : List ℕ) → true ≡ begins_with_minus_of w → number_of w ≡ option_map (signed true) (natural_of (take (length w - 1) (drop 1 w)))
negative w h = grind (arith, common_steps)

positive : (w : List ℕ) → false ≡ begins_with_minus_of w → number_of w ≡ option_map (signed false) (natural_of w)
positive w h = grind (arith, common_steps)

pub returns-then-begins_with_minus-clause-value : goal.returns-then-begins_with_minus-clause-value
returns-then-begins_with_minus-clause-value c =
    rw (negative c.args.word.now c.if-begins_with_minus.ensures.value) (search (rules, c.in_range.ensures.value _ c.natural.ensures))

pub returns-else-begins_with_minus-clause-value : goal.returns-else-begins_with_minus-clause-value
returns-else-begins_with_minus-clause-value c =
    rw (positive c.args.word.now c.if-begins_with_minus.ensures.value) (search (rules, c.in_range-else-begins_with_minus.ensures.value _ c.natural-else-begins_with_minus.ensures))
