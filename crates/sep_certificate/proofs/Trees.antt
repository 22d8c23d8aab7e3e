-- What the checker finds with its stack is the fault of the tree.
use Rattle.sep_certificate.proofs.Prelude.{◌≡◌, refl, sym, ◌∙◌, ap, List, [], ◌∷◌, ◌++◌, append_assoc, append-nil, Option, Some, None, ℤ, option_flatten, option_map, option_or, Bez, Place, Slot, left_half, right_half, root, Rules, Node, Split, CertFault, node_fault, spelled_fault, tree_fault, Tree, IsTree, preorder, spelled_tree, leaf, split, first_fault, tree_back}

-- ---- the fault of a tree
module _ (rules : Rules) (dirs : List (List ℤ)) (diff : List (Bez 8)) (slot : Slot) where
  or_assoc : (a b c : Option CertFault) → option_or (option_or a b) c ≡ option_or a (option_or b c)
  or_assoc None b c = refl
  or_assoc (Some x) b c = refl

  -- the walk over the nodes of a tree finds its fault, and then what stands after them
  walked : (tree : Tree) (place : Place) (places : List Place) (nodes : List Node) →
      first_fault rules dirs diff slot (place ∷ places) (preorder tree ++ nodes) ≡ option_or (tree_fault rules dirs diff slot place tree) (first_fault rules dirs diff slot places nodes)
  unfolding first_fault
  walked (leaf dir) place places nodes = refl
  walked (split left right) place places nodes =
      let own : Option CertFault = node_fault rules dirs diff slot place Split in
      let first : Option CertFault = tree_fault rules dirs diff slot (left_half place) left in
      let second : Option CertFault = tree_fault rules dirs diff slot (right_half place) right in
      ap (λ (ns : List Node). option_or own (first_fault rules dirs diff slot (left_half place ∷ right_half place ∷ places) ns)) (append_assoc (preorder left) (preorder right) nodes)
      ∙ ap (λ (o : Option CertFault). option_or own o)
      (walked left (left_half place) (right_half place ∷ places) (preorder right ++ nodes)
      ∙ ap (λ (o : Option CertFault). option_or first o) (walked right (right_half place) places nodes)
      ∙ sym (or_assoc first second (first_fault rules dirs diff slot places nodes)))
      ∙ sym (or_assoc own (option_or first second) (first_fault rules dirs diff slot places nodes))

  walked_whole : (tree : Tree) → first_fault rules dirs diff slot (root ∷ []) (preorder tree) ≡ tree_fault rules dirs diff slot root tree
  unfolding first_fault
  walked_whole tree =
      ap (λ (ns : List Node). first_fault rules dirs diff slot (root ∷ []) ns) (sym (append-nil (preorder tree)))
      ∙ walked tree root [] [] ∙ or_nothing (tree_fault rules dirs diff slot root tree)
    where
      or_nothing : (o : Option CertFault) → option_or o None ≡ o
      or_nothing None = refl
      or_nothing (Some x) = refl

  pub fault_of_tree : (tree : Tree) (nodes : List Node) → nodes ≡ preorder tree → spelled_fault rules dirs diff slot nodes ≡ tree_fault rules dirs diff slot root tree
  unfolding spelled_fault
  fault_of_tree tree nodes is = ap (λ (o : Option Tree). option_flatten (option_map (tree_fault rules dirs diff slot root) o)) (ap spelled_tree is ∙ tree_back tree)

  -- what the checker finds in the nodes of a tree is its fault
  pub walk_told : (nodes : List Node) → IsTree nodes → first_fault rules dirs diff slot (root ∷ []) nodes ≡ spelled_fault rules dirs diff slot nodes
  walk_told nodes (tree, is) = ap (first_fault rules dirs diff slot (root ∷ [])) is ∙ walked_whole tree ∙ sym (fault_of_tree tree nodes is)
