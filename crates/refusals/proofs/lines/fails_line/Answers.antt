use Rattle.refusals.proofs.lines.fails_line.Goals as goal

pub returns : goal.returns
returns c = simp (c.as_slice.ensures.value, c.as_slice-2.ensures.value, c.from.ensures, c.from-2.ensures, c.from-3.ensures, c.from-4.ensures) at c.of.ensures
