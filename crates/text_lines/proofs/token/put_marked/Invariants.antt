use Rattle.text_lines.proofs.Prelude.{◌+◌, ◌≤◌, IsPut, Marks, NoBlank}
use Rattle.text_lines.proofs.token.put_marked.Given as goal

abbrev pub invariant-marks : goal.invariant-marks
invariant-marks l = record {
  so_far : IsPut l.line l.at l.bytes l.initial.start l.start l.initial.tokens.items l.tokens.items;
  order : l.start ≤ l.base + 16;
  passed : NoBlank l.bytes l.start l.base;
  marks : Marks l.bytes l.base l.start l.marks;
}

abbrev pub decreases-marks : goal.decreases-marks
decreases-marks l = l.marks
