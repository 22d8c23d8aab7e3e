use Rattle.std.proofs.Common.{Some}
use Rattle.std.specs.Prelude.{IsTrue}
use Rattle.std.specs.Io.KnownBytes.{IsAtEnd}
use Rattle.ground_tests.proofs.parts.asked.Given as goal

abbrev pub invariant-asks : goal.invariant-asks
invariant-asks l = record {
  sound : IsTrue l.parts.sound;
  lines : IsTrue l.parts.lines;
  at_end : IsTrue l.parts.ended → IsAtEnd (Some l.source.left);
}
