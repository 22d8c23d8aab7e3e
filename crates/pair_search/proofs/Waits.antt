-- Parts that wait.
use Rattle.pair_search.proofs.Prelude.{common_steps, ◌≡◌, ◌≤◌, ℕ, arith, List, ◌∷◌, Option, Some, Place, Node, Level, IsShallow, next_same, node_for}
use Rattle.pair_search.proofs.Trees.{split_for}

-- a part that is split is less deep than 8
pub next_shallow : (first : Place → Option ℕ) (depth : ℕ) (old rest other : List Level) (level next : Level) (node : Node) → depth ≤ 8 → node_for first depth level.place ≡ Some node →
    old ≡ level ∷ rest → old ≡ next ∷ other → IsShallow next.place node
next_shallow first depth old rest other level next node few found is same = grind (arith, common_steps, next_same, split_for)
