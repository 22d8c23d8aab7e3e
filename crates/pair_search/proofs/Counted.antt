-- How many slots a fleet has at most, and how many nodes their trees.
use Rattle.pair_search.proofs.Prelude.{◌≡◌, ℕ, zero, suc, ◌+◌, ◌*◌, ◌^◌, ◌≤◌, ◌<◌, arith, refl, ap, List, [], ◌∷◌, length, length-append, map, Option, Some, None, option_map, option_or, sum_by-cons, Place, Slot, left_half, right_half, root, Raised, cues_from, drones_from, pairs_from, slots, Tree, leaf, split, preorder, best_tree, split_of, Measure, best_nodes, direction_at, nodes_in, nodes_of}

-- ---- how many slots there are

cues_counted : (n a b k : ℕ) → length (cues_from n a b k) ≡ n
cues_counted zero a b k = refl
cues_counted (suc n) a b k = ap suc (cues_counted n a b (suc k))

few_pairs : (n cues a b : ℕ) → cues ≤ 1000 → length (pairs_from n cues a b) ≤ n * 1000
few_pairs zero cues a b few = omega arith
few_pairs (suc n) cues a b few =
    omega (arith, length-append (cues_from cues a b 0) (pairs_from n cues a (suc b)), cues_counted cues a b 0, few_pairs n cues a (suc b) few, few)

pub few_drones : (n cues a : ℕ) → n ≤ 32 → cues ≤ 1000 → length (drones_from n cues a) ≤ n * 32000
few_drones zero cues a small few = omega arith
few_drones (suc n) cues a small few =
    let others : length (drones_from n cues (suc a)) ≤ n * 32000 = few_drones n cues (suc a) (omega arith) few in
    omega (arith, length-append (pairs_from n cues a (suc a)) (drones_from n cues (suc a)), few_pairs n cues a (suc a) few, others, small)

pub few_slots : (drones cues : ℕ) → drones ≤ 32 → cues ≤ 1000 → length (slots drones cues) < 2 ^ 31
unfolding slots
few_slots drones cues small few = omega (arith, few_drones drones cues 0 small few, small)

-- ---- how many nodes a tree has

-- the most nodes of a tree whose place may be halved this many times more
abbrev most_nodes : ℕ → ℕ
most_nodes zero = 1
most_nodes (suc n) = suc (most_nodes n + most_nodes n)

most_at_eight : (n : ℕ) → n ≤ 8 → most_nodes n ≤ 511
most_at_eight zero few = omega arith
most_at_eight (suc zero) few = omega arith
most_at_eight (suc (suc zero)) few = omega arith
most_at_eight (suc (suc (suc zero))) few = omega arith
most_at_eight (suc (suc (suc (suc zero)))) few = omega arith
most_at_eight (suc (suc (suc (suc (suc zero))))) few = omega arith
most_at_eight (suc (suc (suc (suc (suc (suc zero)))))) few = omega arith
most_at_eight (suc (suc (suc (suc (suc (suc (suc zero))))))) few = omega arith
most_at_eight (suc (suc (suc (suc (suc (suc (suc (suc zero)))))))) few = omega arith
most_at_eight (suc (suc (suc (suc (suc (suc (suc (suc (suc n))))))))) few = absurd (omega arith)

most_some : (n : ℕ) → 1 ≤ most_nodes n
most_some zero = omega arith
most_some (suc n) = omega arith

module _ (first : Place → Option ℕ) where
  leaf_counted : (o : Option ℕ) (tree : Tree) → option_map leaf o ≡ Some tree → length (preorder tree) ≡ 1
  leaf_counted None tree is = absurd (cc)
  leaf_counted (Some dir) tree is = let tree_is : leaf dir ≡ tree = cc in rw (sym-tree tree_is) refl
    where
      sym-tree : {t u : Tree} → t ≡ u → u ≡ t
      sym-tree same = rw same refl

  split_counted : (m : ℕ) (left right : Option Tree) (tree : Tree) → ((t : Tree) → left ≡ Some t → length (preorder t) ≤ m) → ((t : Tree) → right ≡ Some t → length (preorder t) ≤ m) →
      split_of left right ≡ Some tree → length (preorder tree) ≤ suc (m + m)
  split_counted m None right tree on_left on_right is = absurd (cc)
  split_counted m (Some left) None tree on_left on_right is = absurd (cc)
  split_counted m (Some left) (Some right) tree on_left on_right is =
      let tree_is : split left right ≡ tree = cc in
      omega (arith, ap (λ (t : Tree). length (preorder t)) tree_is, length-append (preorder left) (preorder right), on_left left refl, on_right right refl)

  either_counted : (m : ℕ) → 1 ≤ m → (o : Option ℕ) (left right : Option Tree) (tree : Tree) → ((t : Tree) → left ≡ Some t → length (preorder t) ≤ m) → ((t : Tree) → right ≡ Some t → length (preorder t) ≤ m) →
      option_or (option_map leaf o) (split_of left right) ≡ Some tree → length (preorder tree) ≤ suc (m + m)
  either_counted m some None left right tree on_left on_right is = split_counted m left right tree on_left on_right is
  either_counted m some (Some dir) left right tree on_left on_right is = omega (arith, leaf_counted (Some dir) tree is, some)

  tree_counted : (n : ℕ) (place : Place) (tree : Tree) → best_tree first n place ≡ Some tree → length (preorder tree) ≤ most_nodes n
  tree_counted zero place tree is = omega (arith, leaf_counted (first place) tree is)
  tree_counted (suc n) place tree is =
      either_counted (most_nodes n) (most_some n) (first place) (best_tree first n (left_half place)) (best_tree first n (right_half place)) tree
      (tree_counted n (left_half place)) (tree_counted n (right_half place)) is

of_option : (m : ℕ) (o : Option Tree) → ((t : Tree) → o ≡ Some t → length (preorder t) ≤ m) → length (nodes_of o) ≤ m
of_option m None each = omega arith
of_option m (Some tree) each = each tree refl

module _ (m : Measure) (depth : ℕ) (curves : Raised) (shallow : depth ≤ 8) where
  slot_counted : (slot : Slot) → length (best_nodes m depth curves slot) ≤ 511
  slot_counted slot =
      omega (arith, of_option (most_nodes depth) (best_tree (direction_at m curves slot) depth root) (tree_counted (direction_at m curves slot) depth root), most_at_eight depth shallow)

  nodes_counted : (ss : List Slot) → nodes_in m depth curves ss ≤ 511 * length ss
  nodes_counted [] = omega arith
  nodes_counted (slot ∷ ss) =
      let one : nodes_in m depth curves (slot ∷ ss) ≡ length (best_nodes m depth curves slot) + nodes_in m depth curves ss = sum_by-cons (λ (n : ℕ). n) (length (best_nodes m depth curves slot)) (map length (map (best_nodes m depth curves) ss)) in
      let more : length (slot ∷ ss) ≡ suc (length ss) = refl in
      omega (arith, one, more, slot_counted slot, nodes_counted ss)

  -- The nodes of all trees of a fleet are counted in 32 bits.
  pub nodes_fit : (drones cues : ℕ) → drones ≤ 32 → cues ≤ 1000 → nodes_in m depth curves (slots drones cues) < 2 ^ 32
  unfolding slots
  nodes_fit drones cues few_drones_is few_cues = omega (arith, nodes_counted (slots drones cues), few_drones drones cues 0 few_drones_is few_cues, few_drones_is)
