use Rattle.choreo_reader.proofs.Prelude.{arith}
use Rattle.choreo_reader.proofs.OneLine.{one_piece}
use Rattle.choreo_reader.proofs.reader.Reader.lines.Goals as goal

pub text_line-requires-clause-within : goal.text_line-requires-clause-within
text_line-requires-clause-within c =
    let (cut, place, within, less) = c.in-Some.ensures in
    omega (arith, within, c.lines.invariant.within, c.requires.within)

pub text_line-requires-clause-one : goal.text_line-requires-clause-one
text_line-requires-clause-one c =
    let (cut, place, within, less) = c.in-Some.ensures in
    one_piece c.lines.rest.now c.in-Some.line.now _ cut
