-- Words of private steps of the search. No public clause cites them.
use Rattle.std.specs.Prelude.{◌≡◌, ℕ, ◌<◌, nat_lt, Bool, true, List, length, Option, Some, None}
use Rattle.std.specs.Prelude.{is_none, if◌then◌else◌, Result, Ok, Err}
use Rattle.std.specs.Option.{option_map, option_or}
use Rattle.std.specs.declared.alloc.AllocError.{AllocError}
use Rattle.bezier_core.specs.declared.Bez.{Bez}
use Rattle.bezier_core.specs.declared.halves.Place.{Place}
use Rattle.sep_parts.specs.Directions.{direction_of}
use Rattle.sep_parts.specs.Separates.{low_value}
use Rattle.sep_parts.specs.Levels.{root}
use Rattle.fleet_curves.specs.Raised.{Raised, difference}
use Rattle.sep_parts.specs.Rulers.{Measure}
use Rattle.sep_parts.specs.declared.slot.Slot.{Slot}
use Rattle.sep_parts.specs.declared.node.Node.{Node}
use Rattle.sep_parts.specs.declared.node.Node.TheVariants.{Split, Leaf}
use Rattle.sep_parts.specs.Trees.{preorder}
use Rattle.pair_search.specs.declared.walk.Found.{Found}
use Rattle.pair_search.specs.declared.walk.Found.TheVariants.{Clear, Blocked}
use Rattle.pair_search.specs.declared.fleet.SearchFault.{SearchFault}
use Rattle.pair_search.specs.declared.fleet.SearchFault.TheVariants as fault
use Rattle.pair_search.specs.Search.{HasDirection, best_tree, blocked_place}
use Rattle.pair_search.specs.Fleets.{StopsBy, best_nodes, direction_at, nodes_of}

-- The node of a place: a leaf with its first direction, else a split where the place is less deep than the greatest
-- depth.
abbrev pub node_for : (Place → Option ℕ) → ℕ → Place → Option Node
node_for first depth place =
    option_or (option_map Leaf (first place)) (if nat_lt place.depth depth then Some Split else None)

-- whether the direction with this number separates a place
abbrev pub does_separate : Measure → List (Bez 8) → Place → ℕ → Bool
does_separate m diff place dir = is_none (low_value m.clearance diff place (direction_of m.directions dir))

-- the first number below count for which `holds` holds, where `fails` holds for each before it; none where `fails`
-- holds for each
abbrev pub FindsFirst : (ℕ → Type 0) → (ℕ → Type 0) → ℕ → Option ℕ → Type 0
FindsFirst fails holds count None = (k : ℕ) → k < count → fails k
FindsFirst fails holds count (Some dir) = (dir < count) × ((k : ℕ) → k < dir → fails k) × holds dir

-- what a walk gives: as a search, but that nodes may be left where it isn't clear
abbrev pub WalkGives : (Place → Option ℕ) → ℕ → Result Found AllocError → List Node → Type 0
WalkGives first depth (Ok Clear) nodes = (blocked_place first depth ≡ None)
    × (option_map preorder (best_tree first depth root) ≡ Some nodes)
WalkGives first depth (Ok (Blocked index)) nodes = blocked_place first depth ≡ Some index
WalkGives first depth (Err e) nodes = Unit {0}

-- the first part of a slot's cue, of this depth, that no direction separates
abbrev pub blocked_slot : Measure → ℕ → Raised → Slot → Option SearchFault
blocked_slot m depth curves slot = option_map (fault.Blocked slot) (blocked_place (direction_at m curves slot) depth)

-- what is found at a slot: the nodes of its tree
abbrev pub FindsTree : Measure → ℕ → Raised → Slot → List Node → Result (Unit {0}) SearchFault → Type 0
FindsTree m depth curves slot nodes (Ok found) = (blocked_slot m depth curves slot ≡ None)
    × (nodes ≡ best_nodes m depth curves slot)
FindsTree m depth curves slot nodes (Err f) = StopsBy (blocked_slot m depth curves slot) f

-- ---- a count of nodes, with no direction named
-- whether a place has a first direction, and not which one
abbrev pub marked : (Place → Option ℕ) → Place → Option ℕ
marked first place = option_map (λ dir. 0) (first place)

-- How many nodes the best tree has, where no part is blocked; else the first part that is.
abbrev pub CountGives : (Place → Option ℕ) → ℕ → Result ℕ ℕ → Type 0
CountGives first depth (Ok count) = (blocked_place first depth ≡ None)
    × (count ≡ length (nodes_of (best_tree first depth root)))
CountGives first depth (Err index) = blocked_place first depth ≡ Some index

-- how many nodes the tree of a slot has
abbrev pub FindsCount : Measure → ℕ → Raised → Slot → Result ℕ SearchFault → Type 0
FindsCount m depth curves slot (Ok count) = (blocked_slot m depth curves slot ≡ None)
    × (count ≡ length (best_nodes m depth curves slot))
FindsCount m depth curves slot (Err f) = StopsBy (blocked_slot m depth curves slot) f

-- all cues of a slot's pair are to come, and each as a whole has a direction
pub record IsPairFar (m : Measure) (curves : Raised) (slot : Slot) : Type 0 where
  pub begins : slot.cue ≡ 0
  pub each : (cue : ℕ) → cue < curves.cues →
      HasDirection m.clearance (difference curves slot.a slot.b cue) m.directions root

-- ---- whether there is a direction, whichever
-- a direction that separates the place
abbrev pub IsSome : Measure → List (Bez 8) → Place → ℕ → Type 0
IsSome m diff place dir = (dir < length m.directions) × (does_separate m diff place dir ≡ true)
