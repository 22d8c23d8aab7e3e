-- Trees of places: the lists of nodes that spell them, and when they are valid.
use Rattle.std.specs.Prelude.{◌≡◌, ◌↔◌, ℕ, ◌<◌, ℤ, List, [], ◌∷◌, ◌++◌, Option, Some, None}
use Rattle.std.specs.Option.{option_flatten, option_map}
use Rattle.bezier_core.specs.declared.Bez.{Bez}
use Rattle.bezier_core.specs.declared.halves.Place.{Place}
use Rattle.sep_parts.specs.declared.node.Node.{Node}
use Rattle.sep_parts.specs.declared.node.Node.TheVariants.{Split, Leaf}
use Rattle.sep_parts.specs.declared.rules.Rules.{Rules}
use Rattle.sep_parts.specs.Directions.{direction_of}
use Rattle.sep_parts.specs.Levels.{left_half, right_half}
use Rattle.sep_parts.specs.Separates.{Separates}

-- a tree of places: a leaf names a direction by its number, a split has the two halves
pub data Tree : Type 0 where
  leaf : ℕ → Tree
  split : Tree → Tree → Tree

-- the list that spells a tree: its nodes in preorder
abbrev pub preorder : Tree → List Node
preorder (leaf dir) = Leaf dir ∷ []
preorder (split left right) = Split ∷ preorder left ++ preorder right

-- the list spells a tree
abbrev pub IsTree : List Node → Type 0
IsTree nodes = (tree : Tree) × (nodes ≡ preorder tree)

-- a split before trees: the first two are its halves, and without two there is none
abbrev pub split_before : List Tree → Option (List Tree)
split_before [] = None
split_before (left ∷ []) = None
split_before (left ∷ right ∷ trees) = Some (split left right ∷ trees)

-- the trees that a list of nodes spells, one after another; none where a split lacks a half
abbrev pub spelled_trees : List Node → Option (List Tree)
spelled_trees [] = Some []
spelled_trees (Leaf dir ∷ nodes) = option_map (λ trees. leaf dir ∷ trees) (spelled_trees nodes)
spelled_trees (Split ∷ nodes) = option_flatten (option_map split_before (spelled_trees nodes))

-- the first of trees, where it is the only one
abbrev pub only_tree : List Tree → Option Tree
only_tree [] = None
only_tree (tree ∷ []) = Some tree
only_tree (tree ∷ other ∷ trees) = None

-- The tree that a list of nodes spells, where it is the preorder of one.
abbrev pub spelled_tree : List Node → Option Tree
spelled_tree nodes = option_flatten (option_map only_tree (spelled_trees nodes))

-- each leaf of a tree names one of this many directions
abbrev pub IsKnown : ℕ → Node → Type 0
IsKnown m Split = Unit {0}
IsKnown m (Leaf dir) = dir < m

-- nodes spell a tree exactly where they are its preorder
abbrev pub TreeLaw : Type 0
TreeLaw = (nodes : List Node) (tree : Tree) → (spelled_tree nodes ≡ Some tree) ↔ (nodes ≡ preorder tree)

-- ---- places
-- the places that stand after a node's place in preorder, before the others
abbrev pub places_below : Place → Node → List Place
places_below place Split = left_half place ∷ right_half place ∷ []
places_below place (Leaf dir) = []

-- a split stands at a depth below 8
abbrev pub IsShallow : Place → Node → Type 0
IsShallow place Split = place.depth < 8
IsShallow place (Leaf dir) = Unit {0}

-- At a place of a pair and a cue, whose raised differences these are: no split stands at the depth or below it, and
-- each leaf's direction separates its place.
abbrev pub IsValidTree : Rules → List (List ℤ) → List (Bez 8) → Place → Tree → Type 0
IsValidTree rules dirs diff place (leaf dir) = Separates rules.clearance diff place (direction_of dirs dir)
IsValidTree rules dirs diff place (split left right) =
    (place.depth < rules.depth) × IsValidTree rules dirs diff (left_half place) left
    × IsValidTree rules dirs diff (right_half place) right
