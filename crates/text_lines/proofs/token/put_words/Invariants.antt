use Rattle.text_lines.proofs.Prelude.{◌-◌, ◌≤◌, length, IsPut, NoBlank}
use Rattle.text_lines.proofs.token.put_words.Given as goal

abbrev pub invariant-sixteens : goal.invariant-sixteens
invariant-sixteens l = record {
  so_far : IsPut l.line l.at l.bytes l.initial.start l.start l.initial.tokens.items l.tokens.items;
  order : l.start ≤ l.base;
  within : l.base ≤ length l.bytes;
  passed : NoBlank l.bytes l.start l.base;
}

abbrev pub decreases-sixteens : goal.decreases-sixteens
decreases-sixteens l = length l.bytes - l.base

abbrev pub invariant-ones : goal.invariant-ones
invariant-ones l = record {
  so_far : IsPut l.line l.at l.bytes l.initial.start l.start l.initial.tokens.items l.tokens.items;
  order : l.start ≤ l.base;
  within : l.base ≤ length l.bytes;
  passed : NoBlank l.bytes l.start l.base;
}

abbrev pub decreases-ones : goal.decreases-ones
decreases-ones l = length l.bytes - l.base
