-- What a search finds: the first direction that separates a place, the tree with the largest possible leaves, and the
-- first place of the greatest depth that no direction separates.
use Rattle.std.specs.Prelude.{◌≡◌, ℕ, zero, suc, ◌^◌, ◌<◌, ℤ, List, [], length, position, Option, Some, None, is_none}
use Rattle.std.specs.Prelude.{if◌then◌else◌, Result, Ok, Err}
use Rattle.std.specs.Option.{option_map, option_or}
use Rattle.std.specs.declared.alloc.AllocError.{AllocError}
use Rattle.bezier_core.specs.declared.Bez.{Bez}
use Rattle.bezier_core.specs.declared.halves.Place.{Place}
use Rattle.sep_parts.specs.declared.clearance.Clearance.{Clearance}
use Rattle.sep_parts.specs.Directions.{direction_of}
use Rattle.sep_parts.specs.Rulers.{Measure}
use Rattle.sep_parts.specs.Separates.{Separates, low_value}
use Rattle.sep_parts.specs.Levels.{left_half, right_half, root}
use Rattle.sep_parts.specs.declared.node.Node.{Node}
use Rattle.sep_parts.specs.Trees.{Tree, leaf, split, preorder}
use Rattle.pair_search.specs.declared.walk.Found.{Found}
use Rattle.pair_search.specs.declared.walk.Found.TheVariants.{Clear, Blocked}

-- the part of the depth with the index: one of 2^depth equal parts of the cue
abbrev pub place_at : ℕ → ℕ → Place
place_at depth index = record { depth = depth; index = index }

-- The number of the first direction of a table that separates a place: along it none of the eight control values is
-- below the threshold.
unfoldable pub first_direction : Clearance → List (Bez 8) → List (List ℤ) → Place → Option ℕ
first_direction c diff dirs place = position (λ n. is_none (low_value c diff place n)) dirs

-- the same by a ruler
abbrev pub first_by : Measure → List (Bez 8) → Place → Option ℕ
first_by m diff = first_direction m.clearance diff m.directions

-- some direction of the table separates the place
abbrev pub HasDirection : Clearance → List (Bez 8) → List (List ℤ) → Place → Type 0
HasDirection c diff dirs place = (dir : ℕ) × (dir < length dirs) × Separates c diff place (direction_of dirs dir)

-- each part of the depth has a separating direction
abbrev pub IsClear : Clearance → List (Bez 8) → List (List ℤ) → ℕ → Type 0
IsClear c diff dirs depth = (index : ℕ) → index < 2 ^ depth → HasDirection c diff dirs (place_at depth index)

-- ---- the tree with the largest possible leaves
-- the split of two trees, where both are there
abbrev pub split_of : Option Tree → Option Tree → Option Tree
split_of None right = None
split_of (Some left) None = None
split_of (Some left) (Some right) = Some (split left right)

-- The best tree of a place that may be halved this many times more, where the first direction of each place is given:
-- a leaf with its first direction where it has one, else the split of the best trees of its halves.
-- There is none where some place is blocked that may not be halved any more.
abbrev pub best_tree : (Place → Option ℕ) → ℕ → Place → Option Tree
best_tree first zero place = option_map leaf (first place)
best_tree first (suc n) place =
    option_or (option_map leaf (first place))
    (split_of (best_tree first n (left_half place)) (best_tree first n (right_half place)))

-- ---- the first place that is blocked
-- the first of n numbers from k on for which nothing is given
abbrev pub first_without : (ℕ → Option ℕ) → ℕ → ℕ → Option ℕ
first_without f zero k = None
first_without f (suc n) k = if is_none (f k) then Some k else first_without f n (suc k)

-- the index of the first part of the depth that has no direction
unfoldable pub blocked_place : (Place → Option ℕ) → ℕ → Option ℕ
blocked_place first depth = first_without (λ index. first (place_at depth index)) (2 ^ depth) 0

-- ---- what a search gives Clear: no part of the depth is blocked, and the nodes are those of the best tree. Blocked:
-- the first part that is, and no node. Out of memory: no node.
abbrev pub SearchGives : (Place → Option ℕ) → ℕ → Result Found AllocError → List Node → Type 0
SearchGives first depth (Ok Clear) nodes = (blocked_place first depth ≡ None)
    × (option_map preorder (best_tree first depth root) ≡ Some nodes)
SearchGives first depth (Ok (Blocked index)) nodes = (blocked_place first depth ≡ Some index) × (nodes ≡ [])
SearchGives first depth (Err e) nodes = nodes ≡ []
