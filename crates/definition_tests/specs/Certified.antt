-- What the definition of a valid certificate says of small flights.
use Rattle.std.specs.Prelude.{ℕ, ℤ, pos, List, [], ◌∷◌}
use Rattle.sep_parts.specs.declared.clearance.Clearance.{Clearance}
use Rattle.sep_parts.specs.declared.node.Node.{Node}
use Rattle.sep_parts.specs.declared.node.Node.TheVariants.{Leaf, Split}
use Rattle.fleet_curves.specs.Raised.{raised_of}
use Rattle.sep_certificate.specs.declared.certificate.Certificate.{Certificate}
use Rattle.sep_certificate.specs.Certificates.{IsValid}
use Rattle.definition_tests.specs.Apart.{behind, beside}

-- the direction of x
abbrev pub along_x : List ℤ
along_x = pos 1 ∷ pos 0 ∷ pos 0 ∷ []

-- half axes of 1 mm, with a stray, a lateness, and a reach on x
abbrev pub kept : ℕ → ℕ → ℕ → Clearance
kept stray late reach_x = record { r = 1; h = 1; stray = stray; late = late; reach = reach_x ∷ 0 ∷ 0 ∷ [] }

-- a certificate with these trees, none of which is split
abbrev pub with_trees : List (List Node) → Certificate
with_trees trees = record { version = 2; depth = 0; trees = trees }

-- Two drones that are 7 mm apart are separated along x by one leaf where 3 mm are wanted for the ellipsoids and 4 mm
-- for lateness or strays. They aren't where more is wanted, or where a tree is missing, half there, or too many.
pub record ValidRows : Type 0 where
  pub behind_by_four : IsValid (along_x ∷ []) (raised_of behind) (kept 0 4 4) (with_trees ((Leaf 0 ∷ []) ∷ []))
  pub behind_by_five : IsValid (along_x ∷ []) (raised_of behind) (kept 0 5 5) (with_trees ((Leaf 0 ∷ []) ∷ [])) → ⊥
  pub strayed_by_two : IsValid (along_x ∷ []) (raised_of beside) (kept 2 0 0) (with_trees ((Leaf 0 ∷ []) ∷ []))
  pub strayed_by_three : IsValid (along_x ∷ []) (raised_of beside) (kept 3 0 0) (with_trees ((Leaf 0 ∷ []) ∷ [])) → ⊥
  pub no_tree : IsValid (along_x ∷ []) (raised_of behind) (kept 0 4 4) (with_trees []) → ⊥
  pub half_a_tree : IsValid (along_x ∷ []) (raised_of behind) (kept 0 4 4) (with_trees ((Split ∷ Leaf 0 ∷ []) ∷ [])) → ⊥
  pub two_trees : IsValid (along_x ∷ []) (raised_of behind) (kept 0 4 4)
      (with_trees ((Leaf 0 ∷ []) ∷ (Leaf 0 ∷ []) ∷ [])) → ⊥
