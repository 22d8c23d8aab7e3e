-- What the definitions of a search and of a certificate say of depth.
use Rattle.std.specs.Prelude.{◌≡◌, ℕ, ◌==◌, ◌&&◌, ℤ, pos, negsuc, List, [], ◌∷◌, Option, Some, None, if◌then◌else◌}
use Rattle.bezier_core.specs.declared.Bez.{Bez}
use Rattle.bezier_core.specs.declared.halves.Place.{Place}
use Rattle.traj_codec.specs.declared.traj.Element.TheVariants.{Constant, Cubic}
use Rattle.traj_codec.specs.declared.traj.Traj.{Traj}
use Rattle.fleet_curves.specs.Raised.{difference, raised_of}
use Rattle.sep_parts.specs.Levels.{root}
use Rattle.sep_parts.specs.Trees.{IsValidTree, Tree, leaf, split}
use Rattle.sep_parts.specs.declared.clearance.Clearance.{Clearance}
use Rattle.sep_parts.specs.declared.rules.Rules.{Rules}
use Rattle.pair_search.specs.Search.{IsClear, best_tree, blocked_place}
use Rattle.definition_tests.specs.Flights.{flight}

-- a drone that flies in ten milliseconds from 10 mm on the one side of the origin, behind it, to 10 mm on the other
abbrev pub around : Traj
around = record {
  start = pos 10 ∷ pos 0 ∷ pos 0 ∷ pos 0 ∷ [];
  segments = record {
    ms = 10;
    elements = Cubic (pos 10 ∷ negsuc 9 ∷ negsuc 9 ∷ []) ∷ Cubic (pos 16 ∷ pos 16 ∷ pos 0 ∷ []) ∷ Constant ∷ Constant
        ∷ [];
  } ∷ [];
}

-- from one that stays at the origin to that one
abbrev pub turning : List (Bez 8)
turning = difference (raised_of (flight (pos 0) (pos 0) ∷ around ∷ [])) 0 1 0

-- between x and y, and between x backward and y
abbrev pub slants : List (List ℤ)
slants = (pos 1 ∷ pos 1 ∷ pos 0 ∷ []) ∷ (negsuc 0 ∷ pos 1 ∷ pos 0 ∷ []) ∷ []

-- half axes of 1 mm, without stray and lateness; and this depth
abbrev pub near : Clearance
near = record { r = 1; h = 1; stray = 0; late = 0; reach = 0 ∷ 0 ∷ 0 ∷ [] }

abbrev pub rules : ℕ → Rules
rules depth = record { clearance = near; depth = depth }

abbrev pub halves : Tree
halves = split (leaf 0) (leaf 1)

-- No direction separates the two drones in the whole cue, and each half has one. So the pair is clear by a depth of 1
-- and not of 0, and its tree is split, where the depth lets it be, with each half by its own direction.
pub record DepthRows : Type 0 where
  pub whole : IsClear near turning slants 0 → ⊥
  pub in_halves : IsClear near turning slants 1
  pub one_deep : IsValidTree (rules 1) slants turning root halves
  pub too_deep : IsValidTree (rules 0) slants turning root halves → ⊥
  pub first_leaf : IsValidTree (rules 1) slants turning root (leaf 0) → ⊥
  pub second_leaf : IsValidTree (rules 1) slants turning root (leaf 1) → ⊥
  pub exchanged : IsValidTree (rules 1) slants turning root (split (leaf 1) (leaf 0)) → ⊥
  pub deeper : IsValidTree (rules 1) slants turning root (split (split (leaf 0) (leaf 0)) (leaf 1)) → ⊥
  pub two_deep : IsValidTree (rules 2) slants turning root (split (split (leaf 0) (leaf 0)) (leaf 1))

-- a part of a cue has its index as its direction, but for the whole and for the second half and its first quarter
abbrev pub first_of : Place → Option ℕ
first_of place =
    if place.depth == 0 then None else
    if place.depth == 1 && place.index == 1 then None else
    if place.depth == 2 && place.index == 2 then None else Some place.index

-- The first part of a depth without a direction blocks it, and a greater depth where each has one is clear. The best
-- tree has the largest parts that have a direction as its leaves.
pub record SearchRows : Type 0 where
  pub whole : blocked_place first_of 0 ≡ Some 0
  pub second_half : blocked_place first_of 1 ≡ Some 1
  pub third_quarter : blocked_place first_of 2 ≡ Some 2
  pub clear : blocked_place first_of 3 ≡ None
  pub no_tree : best_tree first_of 0 root ≡ None
  pub no_tree_of_halves : best_tree first_of 1 root ≡ None
  pub no_tree_of_quarters : best_tree first_of 2 root ≡ None
  pub tree : best_tree first_of 3 root ≡ Some (split (leaf 0) (split (split (leaf 4) (leaf 5)) (leaf 3)))
  pub one_leaf : best_tree (λ place. Some place.index) 3 root ≡ Some (leaf 0)
