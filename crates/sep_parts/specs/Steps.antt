-- Words of what trees are kept as. No public clause cites them.
use Rattle.std.specs.Prelude.{◌≡◌, ℕ, zero, suc, ◌≤◌, List, [], ◌∷◌, slice_range}
use Rattle.sep_parts.specs.declared.node.Node.{Node}

-- the pieces of these nodes from a place on, where each ends at the next of these places
abbrev pub cut : ℕ → List Node → List ℕ → List (List Node)
cut from nodes [] = []
cut from nodes (place ∷ places) = slice_range nodes from place ∷ cut place nodes places

-- where piece k begins
abbrev pub begin_of : ℕ → List ℕ → ℕ → ℕ
begin_of from places zero = from
begin_of from [] (suc k) = from
begin_of from (place ∷ places) (suc k) = begin_of place places k

-- the places at which pieces end, from one place to another
abbrev pub AreEnds : ℕ → List ℕ → ℕ → Type 0
AreEnds from [] to = from ≡ to
AreEnds from (place ∷ places) to = (from ≤ place) × AreEnds place places to
