-- The first fault that the machine finds in trees is that of the definition.
use Rattle.certificate_checker.proofs.Prelude.{◌≡◌, inl, inr, ℕ, suc, ◌+◌, ◌≤◌, ◌<◌, Bool, true, false, cond, nat_lt, arith, refl, sym, ◌∙◌, ap, subst, List, [], ◌∷◌, ◌++◌, append-nil, append_assoc, length, All, Option, Some, None, ℤ, nat_tests, All-head, All-tail, Node, Split, Leaf, Rules, Raised, difference, following, IsTree, Tree, preorder, IsAhead, next_ahead, CertFault, Missing, Extra, first_fault_of, node_fault, spelled_fault, tree_fault, Judged, Clear, Wrong, after_node, at_places, before_tree, with_node, with_tree}
use Rattle.std.specs.Option.{option_or}
use Rattle.bezier_core.specs.declared.halves.Place.{Place}
use Rattle.sep_parts.specs.declared.slot.Slot.{Slot}
use Rattle.sep_parts.specs.Levels.{left_half, right_half, root}
use Rattle.sep_parts.specs.Trees.Tree.{leaf, split}
use Rattle.sep_certificate.proofs.Trees.{fault_of_tree}
use Rattle.certificate_checker.proofs.Folds.{nodes_judged, trees_judged, wrong_nodes, wrong_trees}

-- the fault that is found, where the text ends here
abbrev pub fault_in : Raised → Judged → Option CertFault
fault_in curves (Wrong f) = Some f
fault_in curves (Clear slot places n) = cond (nat_lt slot.b curves.drones) (Some (Missing slot.a slot.b slot.cue)) None

below : (m n : ℕ) → m < n → nat_lt m n ≡ true
below m n less = grind (arith, nat_tests)

above : (m n : ℕ) → n ≤ m → nat_lt m n ≡ false
above m n more = grind (arith, nat_tests)

module _ (rules : Rules) (dirs : List (List ℤ)) (curves : Raised) where
  -- ---- one tree
  here : (slot : Slot) (place : Place) (rest : List Place) (n : ℕ) (node : Node) → nat_lt slot.b curves.drones ≡ true →
      with_node rules dirs curves (Clear slot (place ∷ rest) n) node ≡ after_node slot place rest n node (node_fault rules dirs (difference curves slot.a slot.b slot.cue) slot place node)
  here slot place rest n node is = rw is refl

  past : (slot : Slot) (places : List Place) (n : ℕ) (nodes : List Node) → nat_lt slot.b curves.drones ≡ false → nodes_judged rules dirs curves (Clear slot places n) nodes ≡ Clear slot places n
  past slot places n [] is = refl
  past slot places n (node ∷ nodes) is = rw is (past slot places n nodes is)

  -- after a tree: its fault, or what follows
  abbrev pub after_tree : Slot → List Place → ℕ → List Node → Option CertFault → Judged
  after_tree slot rest n nodes None = nodes_judged rules dirs curves (Clear slot rest n) nodes
  after_tree slot rest n nodes (Some f) = Wrong f

  tree_judged : (slot : Slot) (n : ℕ) → nat_lt slot.b curves.drones ≡ true → (tree : Tree) (place : Place) (rest : List Place) (nodes : List Node) →
      nodes_judged rules dirs curves (Clear slot (place ∷ rest) n) (preorder tree ++ nodes)
      ≡ after_tree slot rest n nodes (tree_fault rules dirs (difference curves slot.a slot.b slot.cue) slot place tree)
  tree_judged slot n is (leaf dir) place rest nodes =
      ap (λ (j : Judged). nodes_judged rules dirs curves j nodes) (here slot place rest n (Leaf dir) is)
      ∙ go (node_fault rules dirs (difference curves slot.a slot.b slot.cue) slot place (Leaf dir))
    where
      go : (o : Option CertFault) → nodes_judged rules dirs curves (after_node slot place rest n (Leaf dir) o) nodes ≡ after_tree slot rest n nodes o
      go None = refl
      go (Some f) = wrong_nodes rules dirs curves f nodes
  tree_judged slot n is (split left right) place rest nodes =
      ap (λ (j : Judged). nodes_judged rules dirs curves j ((preorder left ++ preorder right) ++ nodes)) (here slot place rest n Split is)
      ∙ own (tree_judged slot n is left (left_half place) (right_half place ∷ rest) (preorder right ++ nodes)
      ∙ halves (tree_judged slot n is right (right_half place) rest nodes) (tree_fault rules dirs (difference curves slot.a slot.b slot.cue) slot (left_half place) left))
      (node_fault rules dirs (difference curves slot.a slot.b slot.cue) slot place Split)
    where
      halves : nodes_judged rules dirs curves (Clear slot (right_half place ∷ rest) n) (preorder right ++ nodes)
          ≡ after_tree slot rest n nodes (tree_fault rules dirs (difference curves slot.a slot.b slot.cue) slot (right_half place) right) →
          (o : Option CertFault) → after_tree slot (right_half place ∷ rest) n (preorder right ++ nodes) o
          ≡ after_tree slot rest n nodes (option_or o (tree_fault rules dirs (difference curves slot.a slot.b slot.cue) slot (right_half place) right))
      halves whole None = whole
      halves whole (Some f) = refl

      own : nodes_judged rules dirs curves (Clear slot (left_half place ∷ right_half place ∷ rest) n) (preorder left ++ (preorder right ++ nodes))
          ≡ after_tree slot rest n nodes (option_or (tree_fault rules dirs (difference curves slot.a slot.b slot.cue) slot (left_half place) left) (tree_fault rules dirs (difference curves slot.a slot.b slot.cue) slot (right_half place) right)) →
          (o : Option CertFault) → nodes_judged rules dirs curves (after_node slot place rest n Split o) ((preorder left ++ preorder right) ++ nodes)
          ≡ after_tree slot rest n nodes (option_or o (option_or (tree_fault rules dirs (difference curves slot.a slot.b slot.cue) slot (left_half place) left) (tree_fault rules dirs (difference curves slot.a slot.b slot.cue) slot (right_half place) right)))
      own halves (Some f) = wrong_nodes rules dirs curves f ((preorder left ++ preorder right) ++ nodes)
      own halves None =
          ap (λ (ns : List Node). nodes_judged rules dirs curves (Clear slot (left_half place ∷ right_half place ∷ rest) n) ns) (append_assoc (preorder left) (preorder right) nodes) ∙ halves

  whole_judged : (slot : Slot) (n : ℕ) (nodes : List Node) → nat_lt slot.b curves.drones ≡ true → IsTree nodes →
      nodes_judged rules dirs curves (before_tree slot n) nodes ≡ after_tree slot [] n [] (spelled_fault rules dirs (difference curves slot.a slot.b slot.cue) slot nodes)
  whole_judged slot n nodes is (tree, nodes_are) =
      ap (nodes_judged rules dirs curves (before_tree slot n)) (nodes_are ∙ sym (append-nil (preorder tree)))
      ∙ tree_judged slot n is tree root [] []
      ∙ ap (after_tree slot [] n []) (sym (fault_of_tree rules dirs (difference curves slot.a slot.b slot.cue) slot tree nodes nodes_are))

  -- ---- all trees
  pub faults_told : (slots : List Slot) (slot : Slot) (n : ℕ) (trees : List (List Node)) → IsAhead curves.drones curves.cues slot slots → All IsTree trees →
      fault_in curves (trees_judged rules dirs curves (before_tree slot n) trees) ≡ first_fault_of rules dirs curves slots n trees
  unfolding first_fault_of
  faults_told slots slot n [] (inr over) whole = rw (above slot.b curves.drones over.0, over.1) refl
  faults_told slots slot n [] (inl from) whole =
      let next = next_ahead curves.drones curves.cues slot slots from in
      rw (below slot.b curves.drones from.is_slot.second, next.1) refl
  faults_told slots slot n (nodes ∷ trees) (inr over) whole =
      let out : nat_lt slot.b curves.drones ≡ false = above slot.b curves.drones over.0 in
      rw (past slot (root ∷ []) n nodes out, out, over.1) (ap (fault_in curves) (wrong_trees rules dirs curves (Extra n) trees))
  faults_told slots slot n (nodes ∷ trees) (inl from) whole =
      let next = next_ahead curves.drones curves.cues slot slots from in
      let inside : nat_lt slot.b curves.drones ≡ true = below slot.b curves.drones from.is_slot.second in
      ap (λ (j : Judged). fault_in curves (trees_judged rules dirs curves (with_tree curves j) trees)) (whole_judged slot n nodes inside (All-head IsTree nodes trees whole))
      ∙ by_fault next.0 inside (faults_told next.0 (following curves.drones curves.cues slot) (suc n) trees next.2 (All-tail IsTree nodes trees whole))
      (spelled_fault rules dirs (difference curves slot.a slot.b slot.cue) slot nodes)
      ∙ sym (ap (λ (ss : List Slot). first_fault_of rules dirs curves ss n (nodes ∷ trees)) next.1)
    where
      by_fault : (next : List Slot) → nat_lt slot.b curves.drones ≡ true →
          fault_in curves (trees_judged rules dirs curves (before_tree (following curves.drones curves.cues slot) (suc n)) trees) ≡ first_fault_of rules dirs curves next (suc n) trees →
          (o : Option CertFault) → fault_in curves (trees_judged rules dirs curves (with_tree curves (after_tree slot [] n [] o)) trees) ≡ option_or o (first_fault_of rules dirs curves next (suc n) trees)
      by_fault next inside more None = rw inside more
      by_fault next inside more (Some f) = ap (fault_in curves) (wrong_trees rules dirs curves f trees)

  -- ---- how many trees are whole, where none has a fault
  abbrev pub IsCount : ℕ → Judged → Type 0
  IsCount n (Wrong f) = Unit {0}
  IsCount n (Clear slot places m) = m ≡ n

  count_node : (n : ℕ) (j : Judged) (node : Node) → IsCount n j → IsCount n (with_node rules dirs curves j node)
  count_node n (Wrong f) node is = tt
  count_node n (Clear slot places m) node is = by_slot (nat_lt slot.b curves.drones) places
    where
      by_fault : (place : Place) (rest : List Place) (o : Option CertFault) → IsCount n (after_node slot place rest m node o)
      by_fault place rest None = is
      by_fault place rest (Some f) = tt

      by_place : (places : List Place) → IsCount n (at_places rules dirs (difference curves slot.a slot.b slot.cue) slot places m node)
      by_place [] = is
      by_place (place ∷ rest) = by_fault place rest (node_fault rules dirs (difference curves slot.a slot.b slot.cue) slot place node)

      by_slot : (b : Bool) (places : List Place) → IsCount n (cond b (at_places rules dirs (difference curves slot.a slot.b slot.cue) slot places m node) (Clear slot places m))
      by_slot true places = by_place places
      by_slot false places = is

  count_nodes : (n : ℕ) (j : Judged) (nodes : List Node) → IsCount n j → IsCount n (nodes_judged rules dirs curves j nodes)
  count_nodes n j [] is = is
  count_nodes n j (node ∷ nodes) is = count_nodes n (with_node rules dirs curves j node) nodes (count_node n j node is)

  count_tree : (n : ℕ) (j : Judged) → IsCount n j → IsCount (suc n) (with_tree curves j)
  count_tree n (Wrong f) is = tt
  count_tree n (Clear slot places m) is = by_slot (nat_lt slot.b curves.drones)
    where
      by_slot : (b : Bool) → IsCount (suc n) (cond b (before_tree (following curves.drones curves.cues slot) (suc m)) (Wrong (Extra m)))
      by_slot true = ap (λ (k : ℕ). suc k) is
      by_slot false = tt

  pub count_trees : (n : ℕ) (j : Judged) (trees : List (List Node)) → IsCount n j → IsCount (n + length trees) (trees_judged rules dirs curves j trees)
  count_trees n j [] is = let e : n + 0 ≡ n = omega arith in subst (λ (k : ℕ). IsCount k j) (sym e) is
  count_trees n j (nodes ∷ trees) is =
      let e : n + length (nodes ∷ trees) ≡ suc n + length trees = omega arith in
      subst (λ (k : ℕ). IsCount k (trees_judged rules dirs curves (with_tree curves (nodes_judged rules dirs curves j nodes)) trees)) (sym e)
      (count_trees (suc n) (with_tree curves (nodes_judged rules dirs curves j nodes)) trees (count_tree n (nodes_judged rules dirs curves j nodes) (count_nodes n j nodes is)))
