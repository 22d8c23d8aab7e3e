-- Words of private steps of the checker and of the reader. No public clause cites them.
use Rattle.std.specs.Prelude.{ℕ, zero, suc, ◌-◌, ◌<◌, ◌==◌, ℤ, Bool, true, false, List, [], ◌∷◌, ◌++◌, Option, Some}
use Rattle.std.specs.Prelude.{None, if◌then◌else◌}
use Rattle.std.specs.Option.{option_or}
use Rattle.bezier_core.specs.declared.Bez.{Bez}
use Rattle.bezier_core.specs.declared.halves.Place.{Place}
use Rattle.sep_parts.specs.declared.node.Node.{Node}
use Rattle.sep_parts.specs.declared.node.Node.TheVariants.{Split, Leaf}
use Rattle.sep_certificate.specs.declared.certificate.CertFault.{CertFault}
use Rattle.sep_parts.specs.declared.rules.Rules.{Rules}
use Rattle.sep_parts.specs.declared.slot.Slot.{Slot}
use Rattle.sep_certificate.specs.Certificates.{node_fault}
use Rattle.sep_parts.specs.Trees.{places_below}
use Rattle.sep_certificate.specs.Texts.{is_letter, is_wide_leaf, two_digits}

-- The first fault of a list of nodes in preorder, whose trees stand at these places: what the checker finds with its
-- stack.
unfoldable pub first_fault : Rules → List (List ℤ) → List (Bez 8) → Slot → List Place → List Node → Option CertFault
first_fault rules dirs diff slot places [] = None
first_fault rules dirs diff slot [] (node ∷ nodes) = None
first_fault rules dirs diff slot (place ∷ places) (node ∷ nodes) =
    option_or (node_fault rules dirs diff slot place node)
    (first_fault rules dirs diff slot (places_below place node ++ places) nodes)

-- a control value has one of eight numbers
abbrev pub IsControl : Option ℕ → Type 0
IsControl None = Unit {0}
IsControl (Some k) = k < 8

-- the bytes spell n trees of version 1, one after another, and nothing more: what the reader counts
abbrev pub is_spelled : ℕ → List ℕ → Bool
is_spelled zero [] = true
is_spelled zero (b ∷ bytes) = false
is_spelled (suc n) [] = false
is_spelled (suc n) (b ∷ bytes) =
    if b == 46 then is_spelled (suc (suc n)) bytes else if is_letter b then is_spelled n bytes else false

-- the same of version 2
abbrev pub is_spelled_wide : ℕ → List ℕ → Bool
is_spelled_wide zero [] = true
is_spelled_wide zero (b ∷ bytes) = false
is_spelled_wide (suc n) [] = false
is_spelled_wide (suc n) (b ∷ []) = false
is_spelled_wide (suc n) (b ∷ c ∷ bytes) =
    if b == 46 then is_spelled_wide (suc (suc n)) (c ∷ bytes) else if is_wide_leaf b c then is_spelled_wide n bytes
    else false

-- the nodes that a line of version 2 spells
abbrev pub wide_nodes : List ℕ → List Node
wide_nodes [] = []
wide_nodes (b ∷ []) = if b == 46 then Split ∷ [] else []
wide_nodes (b ∷ c ∷ bytes) =
    if b == 46 then Split ∷ wide_nodes (c ∷ bytes) else Leaf (two_digits b c) ∷ wide_nodes bytes

-- the node that a byte of a line is
abbrev pub node_of_byte : ℕ → Node
node_of_byte b = if b == 46 then Split else Leaf (b - 97)
