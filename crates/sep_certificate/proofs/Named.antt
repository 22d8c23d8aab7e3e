-- What a fault of a certificate names is there.
use Rattle.sep_certificate.proofs.Prelude.{◌≡◌, ℕ, suc, ◌+◌, ◌≤◌, ℤ, Bool, true, false, cond, nat_lt, All, List, [], ◌∷◌, ◌++◌, length, Option, Some, None, refl, subst, arith, option_flatten, option_map, option_or, All-nil, All-cons, All-head, All-tail, Bez, Place, Slot, direction_of, threshold, left_half, right_half, root, Raised, difference, least_value, low_value, part_along, IsSlot, slots, known_in, first_low-small, Certificate, Rules, Node, Split, Leaf, CertFault, Missing, Extra, TooDeep, Fails, IsFaultOf, first_fault_of, node_fault, spelled_fault, tree_fault, IsKnown, Tree, preorder, spelled_tree, leaf, split, tree_told}
use Rattle.sep_parts.proofs.Orders.{slots_named}

pub all_front : {X : Type 0} (P : X → Type 0) (xs ys : List X) → All P (xs ++ ys) → All P xs
all_front P [] ys all = All-nil P
all_front P (x ∷ xs) ys all = All-cons P x xs (All-head P x (xs ++ ys) all) (all_front P xs ys (All-tail P x (xs ++ ys) all))

pub all_rest : {X : Type 0} (P : X → Type 0) (xs ys : List X) → All P (xs ++ ys) → All P ys
all_rest P [] ys all = all
all_rest P (x ∷ xs) ys all = all_rest P xs ys (All-tail P x (xs ++ ys) all)

-- the first of two faults, where what holds of each holds of it
either : (P : CertFault → Type 0) (o p : Option CertFault) (f : CertFault) → (o ≡ Some f → P f) → (p ≡ Some f → P f) → option_or o p ≡ Some f → P f
either P None p f first second e = second e
either P (Some g) p f first second e = first e

module _ (curves : Raised) (cert : Certificate) (rules : Rules) (dirs : List (List ℤ)) where
  node_named : (diff : List (Bez 8)) (s : Slot) (place : Place) (node : Node) (f : CertFault) → IsSlot curves.drones curves.cues s → IsKnown (known_in cert.version) node →
      node_fault rules dirs diff s place node ≡ Some f → IsFaultOf curves cert f
  node_named diff s place Split f here known e = by_test (nat_lt place.depth rules.depth) e
    where
      by_test : (b : Bool) → cond b None (Some (TooDeep s.a s.b s.cue)) ≡ Some f → IsFaultOf curves cert f
      by_test true e = cc
      by_test false e = let is : TooDeep s.a s.b s.cue ≡ f = cc in subst (IsFaultOf curves cert) is here
  node_named diff s place (Leaf dir) f here known e = by_value (low_value rules.clearance diff place (direction_of dirs dir)) refl e
    where
      by_value : (o : Option ℕ) → low_value rules.clearance diff place (direction_of dirs dir) ≡ o → option_map (Fails s.a s.b s.cue place dir) o ≡ Some f → IsFaultOf curves cert f
      by_value None low e = cc
      by_value (Some k) low e =
          let is : Fails s.a s.b s.cue place dir k ≡ f = cc in
          subst (IsFaultOf curves cert) is
          (here, known, first_low-small (part_along rules.clearance.r rules.clearance.h diff place (direction_of dirs dir)) (least_value (threshold rules.clearance (direction_of dirs dir)) place.depth) k low)

  tree_named : (diff : List (Bez 8)) (s : Slot) (place : Place) (tree : Tree) (f : CertFault) → IsSlot curves.drones curves.cues s → All (IsKnown (known_in cert.version)) (preorder tree) →
      tree_fault rules dirs diff s place tree ≡ Some f → IsFaultOf curves cert f
  tree_named diff s place (leaf dir) f here known e = node_named diff s place (Leaf dir) f here (All-head (IsKnown (known_in cert.version)) (Leaf dir) [] known) e
  tree_named diff s place (split left right) f here known e =
      let both : All (IsKnown (known_in cert.version)) (preorder left ++ preorder right) = All-tail (IsKnown (known_in cert.version)) Split (preorder left ++ preorder right) known in
      either (IsFaultOf curves cert) (node_fault rules dirs diff s place Split)
      (option_or (tree_fault rules dirs diff s (left_half place) left) (tree_fault rules dirs diff s (right_half place) right)) f
      (node_named diff s place Split f here tt)
      (either (IsFaultOf curves cert) (tree_fault rules dirs diff s (left_half place) left) (tree_fault rules dirs diff s (right_half place) right) f
      (tree_named diff s (left_half place) left f here (all_front (IsKnown (known_in cert.version)) (preorder left) (preorder right) both))
      (tree_named diff s (right_half place) right f here (all_rest (IsKnown (known_in cert.version)) (preorder left) (preorder right) both))) e

  spelled_named : (diff : List (Bez 8)) (s : Slot) (nodes : List Node) (f : CertFault) → IsSlot curves.drones curves.cues s → All (IsKnown (known_in cert.version)) nodes →
      spelled_fault rules dirs diff s nodes ≡ Some f → IsFaultOf curves cert f
  unfolding spelled_fault
  spelled_named diff s nodes f here known e = go (spelled_tree nodes) refl e
    where
      go : (o : Option Tree) → spelled_tree nodes ≡ o → option_flatten (option_map (tree_fault rules dirs diff s root) o) ≡ Some f → IsFaultOf curves cert f
      go None is e = cc
      go (Some tree) is e = tree_named diff s root tree f here (subst (λ (ns : List Node). All (IsKnown (known_in cert.version)) ns) (tree_told nodes tree is) known) e

  trees_named : (ss : List Slot) (n : ℕ) (trees : List (List Node)) (f : CertFault) → All (IsSlot curves.drones curves.cues) ss → n + length trees ≤ length cert.trees →
      All (All (IsKnown (known_in cert.version))) trees → first_fault_of rules dirs curves ss n trees ≡ Some f → IsFaultOf curves cert f
  unfolding first_fault_of
  trees_named [] n [] f here few known e = cc
  trees_named [] n (nodes ∷ trees) f here few known e = let is : Extra n ≡ f = cc in subst (IsFaultOf curves cert) is (omega arith)
  trees_named (s ∷ ss) n [] f here few known e =
      let is : Missing s.a s.b s.cue ≡ f = cc in subst (IsFaultOf curves cert) is (All-head (IsSlot curves.drones curves.cues) s ss here)
  trees_named (s ∷ ss) n (nodes ∷ trees) f here few known e =
      either (IsFaultOf curves cert) (spelled_fault rules dirs (difference curves s.a s.b s.cue) s nodes) (first_fault_of rules dirs curves ss (suc n) trees) f
      (spelled_named (difference curves s.a s.b s.cue) s nodes f (All-head (IsSlot curves.drones curves.cues) s ss here) (All-head (All (IsKnown (known_in cert.version))) nodes trees known))
      (trees_named ss (suc n) trees f (All-tail (IsSlot curves.drones curves.cues) s ss here) (omega arith) (All-tail (All (IsKnown (known_in cert.version))) nodes trees known)) e

  -- the first fault of a certificate
  pub fault_named : (f : CertFault) → All (All (IsKnown (known_in cert.version))) cert.trees →
      first_fault_of rules dirs curves (slots curves.drones curves.cues) 0 cert.trees ≡ Some f → IsFaultOf curves cert f
  fault_named f known e = trees_named (slots curves.drones curves.cues) 0 cert.trees f (slots_named curves.drones curves.cues) (omega arith) known e
