use Rattle.link_dialogue.proofs.Prelude.{◌≡◌, ◌≤◌, false, length, List, [], ℕ, IsTrue, Appends, stream, MayGive, Went, to_come}
use Rattle.link_dialogue.proofs.CarryLemmas.{Carries}
use Rattle.link_dialogue.proofs.driver.carry.Given as goal

abbrev pub invariant-items : goal.invariant-items
invariant-items g l = record {
  carries : (all : List ℕ) → MayGive l.parts.ended (g.S.Source.told l.source) all →
      Carries (g.M.Machine.dialogue l.fn.machine) (stream l.fn.parts (to_come all (g.S.Source.told l.fn.source))) (stream l.parts (to_come all (g.S.Source.told l.source))) (g.K.Sink.written l.fn.sink) (g.K.Sink.written l.sink) l.n (λ items. g.M.Machine.stands l.fn.machine l.machine items []);
  grown : (sent : List ℕ) × Appends (g.K.Sink.written l.fn.sink) (g.K.Sink.written l.sink) sent;
  sound : IsTrue l.parts.sound;
  holds : length l.parts.waiting ≤ 4096;
  at_end : IsTrue l.parts.ended → IsTrue (g.S.Source.told l.source).ended;
  began : l.parts.ended ≡ false → l.fn.parts.ended ≡ false;
  went : Went l.fn.parts.ended l.parts.ended (g.S.Source.told l.fn.source) (g.S.Source.told l.source);
  sink_later : g.K.Sink.faults l.fn.sink ≤ g.K.Sink.faults l.sink;
}
