use Rattle.byte_streams.proofs.Prelude.{◌≡◌, false, ◌-◌, cond, length, [], is_untold, Goes, Took}
use Rattle.byte_streams.proofs.parts.Parts.fill.Given as goal

abbrev pub invariant-reads : goal.invariant-reads
invariant-reads g l = record {
  took : Took l.initial.self.waiting l.self.waiting (g.S.Source.told l.initial.source) (g.S.Source.told l.source) [];
  goes : Goes l.initial.self l.self (g.S.Source.told l.initial.source) (g.S.Source.told l.source);
  at_line : l.self.at_line ≡ l.initial.self.at_line;
  unasked : is_untold l.initial.self.at_line l.initial.self.waiting ≡ false →
      (l.self.waiting ≡ l.initial.self.waiting) × (g.S.Source.told l.source ≡ g.S.Source.told l.initial.source);
}

abbrev pub decreases-reads : goal.decreases-reads
decreases-reads g l = cond l.self.ended 0 (5 - length l.self.waiting)
