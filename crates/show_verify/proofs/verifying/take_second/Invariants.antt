use Rattle.show_verify.proofs.Prelude.{◌≡◌, ◌+◌, ◌-◌, ◌≤◌, IsTrue, List, ℕ, MayGive, Went, to_come, stream, Feeds}
use Rattle.show_verify.proofs.verifying.take_second.Given as goal

abbrev pub invariant-pieces : goal.invariant-pieces
invariant-pieces g l = record {
  feeds : (all : List ℕ) → MayGive l.parts.ended (g.S.Source.told l.source) all →
      Feeds l.curves (stream l.initial.parts (to_come all (g.S.Source.told l.initial.source))) l.count l.checker l.parts.at_line (stream l.parts (to_come all (g.S.Source.told l.source))) l.line;
  most : l.count ≤ 400000000;
  small : l.line ≤ 1 + l.count;
  clearance : l.checker.clearance ≡ l.initial.checker.clearance;
  sound : IsTrue l.parts.sound;
  lines : IsTrue l.parts.lines;
  at_end : IsTrue l.parts.ended → IsTrue (g.S.Source.told l.source).ended;
  went : Went l.initial.parts.ended l.parts.ended (g.S.Source.told l.initial.source) (g.S.Source.told l.source);
}

abbrev pub decreases-pieces : goal.decreases-pieces
decreases-pieces g l = 400000000 - l.count
