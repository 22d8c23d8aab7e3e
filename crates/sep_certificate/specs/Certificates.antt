-- Certificates: when one is whole, when it is valid, and its first fault.
use Rattle.std.specs.Prelude.{◌≡◌, ℕ, suc, ◌^◌, ◌≤◌, ◌<◌, ℤ, nat_lt, List, [], ◌∷◌, length, Option, Some, None}
use Rattle.std.specs.Prelude.{if◌then◌else◌, All}
use Rattle.std.specs.Option.{option_flatten, option_map, option_or}
use Rattle.bezier_core.specs.declared.Bez.{Bez}
use Rattle.bezier_core.specs.declared.halves.Place.{Place}
use Rattle.sep_parts.specs.declared.node.Node.{Node}
use Rattle.sep_parts.specs.declared.node.Node.TheVariants.{Split, Leaf}
use Rattle.sep_certificate.specs.declared.certificate.CertFault.{CertFault}
use Rattle.sep_certificate.specs.declared.certificate.CertFault.TheVariants.{Missing, Extra, TooDeep, Fails}
use Rattle.sep_certificate.specs.declared.certificate.Certificate.{Certificate}
use Rattle.sep_parts.specs.declared.slot.Slot.{Slot}
use Rattle.sep_parts.specs.declared.clearance.Clearance.{Clearance}
use Rattle.sep_parts.specs.declared.rules.Rules.{Rules}
use Rattle.sep_parts.specs.Directions.{direction_of}
use Rattle.sep_parts.specs.Versions.{IsVersion, known_in}
use Rattle.sep_parts.specs.Separates.{low_value}
use Rattle.sep_parts.specs.Slots.{IsSlot, slot_at, slots}
use Rattle.sep_parts.specs.Levels.{left_half, right_half, root}
use Rattle.fleet_curves.specs.Raised.{Raised, difference}
use Rattle.sep_parts.specs.Trees.{IsKnown, IsTree, IsValidTree, Tree, preorder, spelled_tree}
use Rattle.sep_parts.specs.Trees.Tree.{leaf, split}

-- A certificate is whole among this many directions: its depth is at most 8, it has fewer than 2^31 trees, each of them
-- is one whole tree in preorder, and each leaf names one of the directions.
pub record IsWholeIn (m : ℕ) (cert : Certificate) : Type 0 where
  pub depth : cert.depth ≤ 8
  pub few : length cert.trees < 2 ^ 31
  pub trees : All IsTree cert.trees
  pub leaves : All (All (IsKnown m)) cert.trees

-- A certificate is whole: its version is 1 or 2, and it is whole among the directions of that version.
pub record IsWhole (cert : Certificate) : Type 0 where
  pub version : IsVersion cert.version
  pub whole : IsWholeIn (known_in cert.version) cert

-- ---- validity
-- the list spells a tree that is valid for the slot
abbrev pub IsValidAt : Rules → List (List ℤ) → Raised → Slot → List Node → Type 0
IsValidAt rules dirs curves slot nodes =
    (tree : Tree) × (nodes ≡ preorder tree)
    × IsValidTree rules dirs (difference curves slot.a slot.b slot.cue) root tree

-- there is one tree for each slot, and each is valid
abbrev pub AreValid : Rules → List (List ℤ) → Raised → List Slot → List (List Node) → Type 0
AreValid rules dirs curves [] [] = Unit {0}
AreValid rules dirs curves [] (nodes ∷ trees) = ⊥
AreValid rules dirs curves (slot ∷ slots) [] = ⊥
AreValid rules dirs curves (slot ∷ slots) (nodes ∷ trees) =
    IsValidAt rules dirs curves slot nodes × AreValid rules dirs curves slots trees

-- ---- the first fault
-- what is wrong with a split at a place, where no part may be deeper than this
abbrev pub split_fault : ℕ → Slot → Place → Option CertFault
split_fault depth slot place = if nat_lt place.depth depth then None else Some (TooDeep slot.a slot.b slot.cue)

-- what is wrong with a node at a place
abbrev pub node_fault : Rules → List (List ℤ) → List (Bez 8) → Slot → Place → Node → Option CertFault
node_fault rules dirs diff slot place Split = split_fault rules.depth slot place
node_fault rules dirs diff slot place (Leaf dir) =
    option_map (Fails slot.a slot.b slot.cue place dir) (low_value rules.clearance diff place (direction_of dirs dir))

-- The first fault of a tree at a place: of a leaf its own; of a split its own, else that of the first half, else that
-- of the second.
abbrev pub tree_fault : Rules → List (List ℤ) → List (Bez 8) → Slot → Place → Tree → Option CertFault
tree_fault rules dirs diff slot place (leaf dir) = node_fault rules dirs diff slot place (Leaf dir)
tree_fault rules dirs diff slot place (split left right) =
    option_or (node_fault rules dirs diff slot place Split)
    (option_or (tree_fault rules dirs diff slot (left_half place) left)
    (tree_fault rules dirs diff slot (right_half place) right))

-- The first fault of the tree that a list of nodes spells.
unfoldable pub spelled_fault : Rules → List (List ℤ) → List (Bez 8) → Slot → List Node → Option CertFault
spelled_fault rules dirs diff slot nodes =
    option_flatten (option_map (tree_fault rules dirs diff slot root) (spelled_tree nodes))

-- The first fault of trees against slots: that of the trees in order, then the first slot without a tree,
-- or the first tree too many, whose number is n and more.
unfoldable pub first_fault_of : Rules → List (List ℤ) → Raised → List Slot → ℕ → List (List Node) → Option CertFault
first_fault_of rules dirs curves [] n [] = None
first_fault_of rules dirs curves [] n (nodes ∷ trees) = Some (Extra n)
first_fault_of rules dirs curves (slot ∷ slots) n [] = Some (Missing slot.a slot.b slot.cue)
first_fault_of rules dirs curves (slot ∷ slots) n (nodes ∷ trees) =
    option_or (spelled_fault rules dirs (difference curves slot.a slot.b slot.cue) slot nodes)
    (first_fault_of rules dirs curves slots (suc n) trees)

-- ---- the certificate as a whole
abbrev pub rules_of : Clearance → Certificate → Rules
rules_of c cert = record { clearance = c; depth = cert.depth }

-- A certificate is valid for curves: one tree for each pair and cue, no tree deeper than its depth,
-- and each leaf's direction separates its place.
abbrev pub IsValid : List (List ℤ) → Raised → Clearance → Certificate → Type 0
IsValid dirs curves c cert = AreValid (rules_of c cert) dirs curves (slots curves.drones curves.cues) cert.trees

abbrev pub fault_of : List (List ℤ) → Raised → Clearance → Certificate → Option CertFault
fault_of dirs curves c cert =
    first_fault_of (rules_of c cert) dirs curves (slots curves.drones curves.cues) 0 cert.trees

-- What a fault names is there: a pair of drones and a cue of the curves, a tree of the certificate, a direction of
-- its version, one of eight control values.
abbrev pub IsFaultOf : Raised → Certificate → CertFault → Type 0
IsFaultOf curves cert (Missing a b cue) = IsSlot curves.drones curves.cues (slot_at a b cue)
IsFaultOf curves cert (Extra tree) = tree < length cert.trees
IsFaultOf curves cert (TooDeep a b cue) = IsSlot curves.drones curves.cues (slot_at a b cue)
IsFaultOf curves cert (Fails a b cue place dir control) =
    IsSlot curves.drones curves.cues (slot_at a b cue) × (dir < known_in cert.version) × (control < 8)
