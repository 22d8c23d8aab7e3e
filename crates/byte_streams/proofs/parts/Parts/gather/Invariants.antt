use Rattle.byte_streams.proofs.Prelude.{◌≡◌, ◌+◌, ◌-◌, ◌≤◌, length, Goes, Took}
use Rattle.byte_streams.proofs.MarkLemmas.{Gathers}
use Rattle.byte_streams.proofs.AskingLemmas.{Asking}
use Rattle.byte_streams.proofs.parts.Parts.gather.Given as goal

abbrev pub invariant-bytes : goal.invariant-bytes
invariant-bytes g l = record {
  gathers : Gathers l.bytes.items l.start;
  took : Took l.initial.self.waiting l.self.waiting (g.S.Source.told l.initial.source) (g.S.Source.told l.source) l.bytes.items;
  goes : Goes l.initial.self l.self (g.S.Source.told l.initial.source) (g.S.Source.told l.source);
  at_line : l.self.at_line ≡ l.initial.self.at_line;
  asking : Asking l.initial.self.waiting l.bytes.items l.self.waiting (g.S.Source.told l.initial.source) (g.S.Source.told l.source);
  short : length l.bytes.items ≤ l.limit + 4;
  most : length l.self.waiting ≤ 4096;
}

abbrev pub decreases-bytes : goal.decreases-bytes
decreases-bytes g l = l.limit + 4 - length l.bytes.items
