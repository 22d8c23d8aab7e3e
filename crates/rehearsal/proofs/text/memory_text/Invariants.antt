use Rattle.rehearsal.proofs.Prelude.{◌≡◌, ◌++◌, ℕ, List, map, take, state_at, title_line, AreTexts}
use Rattle.rehearsal.proofs.text.memory_text.Given as goal

abbrev pub invariant-loop-d : goal.invariant-loop-d
invariant-loop-d l = record {
  said : List ℕ;
  texts : AreTexts (state_at l.world.drones) l.id 0 (map (λ name. name.items) (take l.d l.names)) said;
  all : l.text ≡ title_line ++ said;
}
