use Rattle.link_dialogue.proofs.Prelude.{◌≡◌, ◌≤◌, false, length, List, [], ℕ, None, IsTrue, Took, Went}
use Rattle.link_dialogue.proofs.driver.step.Given as goal

-- the bytes that were taken are those of the item that is begun
abbrev pub invariant-bytes : goal.invariant-bytes
invariant-bytes g l = record {
  begun : (taken : List ℕ) × Took l.fn.parts.waiting l.parts.waiting (g.S.Source.told l.fn.source) (g.S.Source.told l.source) taken × (length taken ≡ l.n)
      × ((start : _) (items : List (g.M.Machine.dialogue start).Item) → g.M.Machine.stands start l.fn.machine items [] → (g.M.Machine.dialogue start).ended items ≡ None
      → g.M.Machine.stands start l.machine items taken × (g.M.Machine.dialogue start).IsBegun taken);
  sound : IsTrue l.parts.sound;
  holds : length l.parts.waiting ≤ 4096;
  at_end : IsTrue l.parts.ended → IsTrue (g.S.Source.told l.source).ended;
  began : l.parts.ended ≡ false → l.fn.parts.ended ≡ false;
  went : Went l.fn.parts.ended l.parts.ended (g.S.Source.told l.fn.source) (g.S.Source.told l.source);
}
