use Rattle.choreo_reader.proofs.Prelude.{arith}
use Rattle.choreo_reader.proofs.OneLine.{one_piece}
use Rattle.choreo_reader.proofs.reader.after_header.Goals as goal

pub line_words-requires-clause-within : goal.line_words-requires-clause-within
line_words-requires-clause-within c =
    let (cut, place, within, less) = c.in-Some.ensures in
    omega (arith, within, c.lines.invariant.within, c.requires)

pub line_words-requires-clause-one : goal.line_words-requires-clause-one
line_words-requires-clause-one c =
    let (cut, place, within, less) = c.in-Some.ensures in
    one_piece c.lines.rest.now c.in-Some.line.now _ cut
