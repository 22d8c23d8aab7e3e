-- The search of a fleet: each pair of drones in each cue, in the order of slots.
use Rattle.std.specs.Prelude.{◌≡◌, ℕ, List, [], ◌∷◌, length, map, Option, Some, None, Result, Ok, Err}
use Rattle.std.specs.Option.{option_map, option_or}
use Rattle.std.specs.List.{sum}
use Rattle.bezier_core.specs.declared.halves.Place.{Place}
use Rattle.sep_parts.specs.declared.slot.Slot.{Slot}
use Rattle.sep_parts.specs.declared.node.Node.{Node}
use Rattle.sep_parts.specs.Levels.{root}
use Rattle.fleet_curves.specs.Raised.{Raised, difference}
use Rattle.sep_parts.specs.Rulers.{Measure}
use Rattle.sep_parts.specs.Slots.{slots}
use Rattle.sep_parts.specs.Trees.{Tree, preorder}
use Rattle.pair_search.specs.declared.fleet.SearchFault.{SearchFault}
use Rattle.pair_search.specs.declared.fleet.SearchFault.TheVariants as fault
use Rattle.pair_search.specs.Search.{best_tree, blocked_place, first_by}

-- the first direction of a ruler that separates the pair of a slot in a place of its cue
unfoldable pub direction_at : Measure → Raised → Slot → Place → Option ℕ
direction_at m curves slot = first_by m (difference curves slot.a slot.b slot.cue)

-- The first part of the depth, slot by slot, that no direction separates, named by its slot and its index.
abbrev pub blocked_in : {A : Type 0} → (Slot → ℕ → A) → Measure → ℕ → Raised → List Slot → Option A
blocked_in named m depth curves [] = None
blocked_in named m depth curves (slot ∷ others) =
    option_or (option_map (named slot) (blocked_place (direction_at m curves slot) depth))
    (blocked_in named m depth curves others)

-- a tree's nodes in preorder, where there is a tree
abbrev pub nodes_of : Option Tree → List Node
nodes_of None = []
nodes_of (Some tree) = preorder tree

-- the nodes of the tree with the largest possible leaves, each with its first separating direction
abbrev pub best_nodes : Measure → ℕ → Raised → Slot → List Node
best_nodes m depth curves slot = nodes_of (best_tree (direction_at m curves slot) depth root)

-- how many nodes the trees of slots have
abbrev pub nodes_in : Measure → ℕ → Raised → List Slot → ℕ
nodes_in m depth curves slots = sum (map length (map (best_nodes m depth curves) slots))

-- Why nothing is found: this part is blocked, the first one. Out of memory says nothing.
abbrev pub StopsBy : Option SearchFault → SearchFault → Type 0
StopsBy blocked (fault.Blocked slot index) = blocked ≡ Some (fault.Blocked slot index)
StopsBy blocked fault.Memory = Unit {0}

-- What is wanted, where no part is blocked; else the part that is.
abbrev pub FindsOf : {A : Type 0} → Option SearchFault → A → Result A SearchFault → Type 0
FindsOf blocked wanted (Ok found) = (blocked ≡ None) × (found ≡ wanted)
FindsOf blocked wanted (Err f) = StopsBy blocked f

-- what is searched of a fleet: the slots of its curves
abbrev pub slots_in : Raised → List Slot
slots_in curves = slots curves.drones curves.cues

-- The trees of all slots, where no part is blocked; else the first part that is.
abbrev pub GivesTrees : Measure → ℕ → Raised → Result (List (List Node)) SearchFault → Type 0
GivesTrees m depth curves result =
    FindsOf (blocked_in fault.Blocked m depth curves (slots_in curves))
    (map (best_nodes m depth curves) (slots_in curves)) result

-- How many nodes these trees have, where no part is blocked; else the first part that is.
abbrev pub GivesCount : Measure → ℕ → Raised → Result ℕ SearchFault → Type 0
GivesCount m depth curves result =
    FindsOf (blocked_in fault.Blocked m depth curves (slots_in curves)) (nodes_in m depth curves (slots_in curves))
    result
