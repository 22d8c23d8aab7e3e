-- No fault is found exactly where a certificate is valid.
use Rattle.sep_certificate.proofs.Prelude.{◌≡◌, ℕ, suc, ◌<◌, Bool, true, false, cond, nat_lt, arith, refl, sym, ◌∙◌, ap, List, [], ◌∷◌, Option, Some, None, ℤ, All, option_or, option_map, nat_tests, All-head, All-tail, Bez, Place, Slot, Rules, Node, CertFault, TooDeep, Fails, direction_of, threshold, low_value, least_value, part_along, left_half, right_half, root, Raised, difference, AreValid, first_fault_of, spelled_fault, tree_fault, Tree, IsTree, IsValidTree, leaf, split, first_low-values, first_low-none}
use Rattle.sep_certificate.proofs.Trees.{fault_of_tree}

or_none : {X : Type 0} (a b : Option X) → option_or a b ≡ None → (a ≡ None) × (b ≡ None)
or_none None b e = (refl, e)
or_none (Some x) b e = cc

or_first : {X : Type 0} (a b : Option X) → a ≡ None → b ≡ None → option_or a b ≡ None
or_first None b p q = q
or_first (Some x) b p q = cc

map_none : {X Y : Type 0} (f : X → Y) (o : Option X) → option_map f o ≡ None → o ≡ None
map_none f None e = refl
map_none f (Some x) e = cc

module _ (rules : Rules) (dirs : List (List ℤ)) (diff : List (Bez 8)) (slot : Slot) where
  -- ---- no fault is validity
  depth_told : (d e : ℕ) (f : CertFault) → cond (nat_lt d e) None (Some f) ≡ None → d < e
  depth_told d e f is = go (nat_lt d e) refl is
    where
      go : (b : Bool) → nat_lt d e ≡ b → cond b None (Some f) ≡ None → d < e
      go true test is = grind (arith, nat_tests)
      go false test is = cc

  pub valid_from : (tree : Tree) (place : Place) → tree_fault rules dirs diff slot place tree ≡ None → IsValidTree rules dirs diff place tree
  valid_from (leaf dir) place none =
      first_low-values (part_along rules.clearance.r rules.clearance.h diff place (direction_of dirs dir)) (least_value (threshold rules.clearance (direction_of dirs dir)) place.depth)
      (map_none (Fails slot.a slot.b slot.cue place dir) (low_value rules.clearance diff place (direction_of dirs dir)) none)
  valid_from (split left right) place none =
      let first : _ × _ = or_none (cond (nat_lt place.depth rules.depth) None (Some (TooDeep slot.a slot.b slot.cue))) (option_or (tree_fault rules dirs diff slot (left_half place) left) (tree_fault rules dirs diff slot (right_half place) right)) none in
      let second : _ × _ = or_none (tree_fault rules dirs diff slot (left_half place) left) (tree_fault rules dirs diff slot (right_half place) right) first.1 in
      (depth_told place.depth rules.depth (TooDeep slot.a slot.b slot.cue) first.0, valid_from left (left_half place) second.0, valid_from right (right_half place) second.1)

  pub none_from : (tree : Tree) (place : Place) → IsValidTree rules dirs diff place tree → tree_fault rules dirs diff slot place tree ≡ None
  none_from (leaf dir) place valid =
      ap (λ (o : Option ℕ). option_map (Fails slot.a slot.b slot.cue place dir) o)
      (first_low-none (part_along rules.clearance.r rules.clearance.h diff place (direction_of dirs dir)) (least_value (threshold rules.clearance (direction_of dirs dir)) place.depth) valid)
  none_from (split left right) place valid =
      or_first (cond (nat_lt place.depth rules.depth) None (Some (TooDeep slot.a slot.b slot.cue))) (option_or (tree_fault rules dirs diff slot (left_half place) left) (tree_fault rules dirs diff slot (right_half place) right))
      (let test : nat_lt place.depth rules.depth ≡ true = shallow place.depth rules.depth valid.0 in rw test refl)
      (or_first (tree_fault rules dirs diff slot (left_half place) left) (tree_fault rules dirs diff slot (right_half place) right) (none_from left (left_half place) valid.1) (none_from right (right_half place) valid.2))
    where
      shallow : (d e : ℕ) → d < e → nat_lt d e ≡ true
      shallow d e less = grind (arith, nat_tests)

-- ---- over all trees
pub valid_of : (rules : Rules) (dirs : List (List ℤ)) (curves : Raised) (slots : List Slot) (n : ℕ) (trees : List (List Node)) → All IsTree trees →
    first_fault_of rules dirs curves slots n trees ≡ None → AreValid rules dirs curves slots trees
unfolding first_fault_of
valid_of rules dirs curves [] n [] whole none = tt
valid_of rules dirs curves [] n (nodes ∷ trees) whole none = absurd (cc)
valid_of rules dirs curves (slot ∷ slots) n [] whole none = absurd (cc)
valid_of rules dirs curves (slot ∷ slots) n (nodes ∷ trees) whole none =
    let diff : List (Bez 8) = difference curves slot.a slot.b slot.cue in
    let parts : _ × _ = or_none (spelled_fault rules dirs diff slot nodes) (first_fault_of rules dirs curves slots (suc n) trees) none in
    let tree : IsTree nodes = All-head IsTree nodes trees whole in (
      (tree.0, tree.1, valid_from rules dirs diff slot tree.0 root (sym (fault_of_tree rules dirs diff slot tree.0 nodes tree.1) ∙ parts.0)),
      valid_of rules dirs curves slots (suc n) trees (All-tail IsTree nodes trees whole) parts.1,
    )

pub none_of_valid : (rules : Rules) (dirs : List (List ℤ)) (curves : Raised) (slots : List Slot) (n : ℕ) (trees : List (List Node)) →
    AreValid rules dirs curves slots trees → first_fault_of rules dirs curves slots n trees ≡ None
unfolding first_fault_of
none_of_valid rules dirs curves [] n [] valid = refl
none_of_valid rules dirs curves [] n (nodes ∷ trees) valid = absurd valid
none_of_valid rules dirs curves (slot ∷ slots) n [] valid = absurd valid
none_of_valid rules dirs curves (slot ∷ slots) n (nodes ∷ trees) valid =
    let diff : List (Bez 8) = difference curves slot.a slot.b slot.cue in
    or_first (spelled_fault rules dirs diff slot nodes) (first_fault_of rules dirs curves slots (suc n) trees)
    (fault_of_tree rules dirs diff slot valid.0.0 nodes valid.0.1 ∙ none_from rules dirs diff slot valid.0.0 root valid.0.2)
    (none_of_valid rules dirs curves slots (suc n) trees valid.1)
