-- What the words of a search mean, and what is true of the tree that it finds.
use Rattle.std.specs.Prelude.{◌≡◌, ◌↔◌, ℕ, ◌^◌, ◌≤◌, ◌<◌, ℤ, Bool, true, false, List, [], ◌∷◌, length, take, Option}
use Rattle.std.specs.Prelude.{Some, None}
use Rattle.bezier_core.specs.declared.Bez.{Bez}
use Rattle.bezier_core.specs.declared.halves.Place.{Place}
use Rattle.sep_parts.specs.declared.clearance.Clearance.{Clearance}
use Rattle.sep_parts.specs.Directions.{direction_of}
use Rattle.sep_parts.specs.Separates.{Separates}
use Rattle.sep_parts.specs.Levels.{left_half, right_half, root}
use Rattle.sep_parts.specs.declared.rules.Rules.{Rules}
use Rattle.sep_parts.specs.Trees.{Tree, leaf, split, IsValidTree}
use Rattle.pair_search.specs.Search.{HasDirection, IsClear, best_tree, blocked_place, first_direction, place_at}

-- the direction with this number separates the place, and none before it in the table does
pub record IsFirstDirection (c : Clearance) (diff : List (Bez 8)) (dirs : List (List ℤ)) (place : Place) (dir : ℕ) :
    Type 0 where
  pub inside : dir < length dirs
  pub separates : Separates c diff place (direction_of dirs dir)
  pub none_before : (k : ℕ) → k < dir → Separates c diff place (direction_of dirs k) → ⊥

-- the part of the depth with this index has no separating direction, and each part before it has one
pub record IsFirstBlocked (c : Clearance) (diff : List (Bez 8)) (dirs : List (List ℤ)) (depth index : ℕ) : Type 0 where
  pub inside : index < 2 ^ depth
  pub blocked : HasDirection c diff dirs (place_at depth index) → ⊥
  pub clear_before : (k : ℕ) → k < index → HasDirection c diff dirs (place_at depth k)

-- ---- the leaves of the best tree
-- a half of a place: the second one where the side says so
abbrev pub half_of : Bool → Place → Place
half_of false place = left_half place
half_of true place = right_half place

-- the part of a place at the end of a way of halves
abbrev pub part_on : Place → List Bool → Place
part_on place [] = place
part_on place (side ∷ way) = part_on (half_of side place) way

-- the direction of the leaf of a tree at the end of a way, if there is a leaf there
abbrev pub leaf_on : Tree → List Bool → Option ℕ
leaf_on (leaf dir) [] = Some dir
leaf_on (leaf dir) (side ∷ way) = None
leaf_on (split left right) [] = None
leaf_on (split left right) (false ∷ way) = leaf_on left way
leaf_on (split left right) (true ∷ way) = leaf_on right way

-- The part at the end of a way has this first direction, and lies in no larger part of the place that has one.
pub record IsLargest (first : Place → Option ℕ) (place : Place) (way : List Bool) (dir : ℕ) : Type 0 where
  pub here : first (part_on place way) ≡ Some dir
  pub none_larger : (k : ℕ) → k < length way → first (part_on place (take k way)) ≡ None

-- `first_direction`, `blocked_place` and `best_tree` are what their names say, whatever the curves and the table. There
-- is a best tree exactly where each part of the depth has a direction; it is valid at the depth, and its leaves are
-- exactly the largest parts of at most that depth that have a direction, each with its first.
pub record SearchLaw : Type 0 where
  pub first : (c : Clearance) (diff : List (Bez 8)) (dirs : List (List ℤ)) (place : Place) (dir : ℕ) →
      (first_direction c diff dirs place ≡ Some dir) ↔ IsFirstDirection c diff dirs place dir
  pub clear : (c : Clearance) (diff : List (Bez 8)) (dirs : List (List ℤ)) (depth : ℕ) →
      (blocked_place (first_direction c diff dirs) depth ≡ None) ↔ IsClear c diff dirs depth
  pub blocked : (c : Clearance) (diff : List (Bez 8)) (dirs : List (List ℤ)) (depth index : ℕ) →
      (blocked_place (first_direction c diff dirs) depth ≡ Some index) ↔ IsFirstBlocked c diff dirs depth index
  pub there : (c : Clearance) (diff : List (Bez 8)) (dirs : List (List ℤ)) (depth : ℕ) →
      ((tree : Tree) × (best_tree (first_direction c diff dirs) depth root ≡ Some tree)) ↔ IsClear c diff dirs depth
  pub valid : (rules : Rules) (diff : List (Bez 8)) (dirs : List (List ℤ)) (tree : Tree) →
      best_tree (first_direction rules.clearance diff dirs) rules.depth root ≡ Some tree →
      IsValidTree rules dirs diff root tree
  pub largest : (first : Place → Option ℕ) (depth : ℕ) (tree : Tree) →
      best_tree first depth root ≡ Some tree → (way : List Bool) (dir : ℕ) →
      (leaf_on tree way ≡ Some dir) ↔ ((length way ≤ depth) × IsLargest first root way dir)
