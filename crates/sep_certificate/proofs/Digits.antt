-- Bytes that spell trees of version 2: leaves are two digits.
use Rattle.sep_certificate.proofs.Prelude.{common_steps, ◌≡◌, ℕ, zero, suc, ◌+◌, ◌-◌, ◌*◌, ◌/◌, ◌%◌, ◌≤◌, ◌<◌, Bool, true, false, cond, ◌&&◌, ◌==◌, nat_le, arith, refl, sym, ◌∙◌, ap, List, [], ◌∷◌, ◌++◌, append-nil, All, nat_tests, All-nil, All-cons, Node, Split, Leaf, Tree, IsTree, IsKnown, preorder, leaf, is_spelled_wide, wide_nodes, is_digit, is_wide_leaf, tree_line, two_digits}
use Rattle.sep_certificate.proofs.Spelled.{IsForest, dot_told, two_in_one}

-- ---- two digits
tens : (x y : ℕ) → x ≤ 9 → y ≤ 9 → ((x * 10 + y) / 10 ≡ x) × ((x * 10 + y) % 10 ≡ y)
tens x y small also = (omega arith, omega arith)

both : (a b : Bool) → (a && b) ≡ true → (a ≡ true) × (b ≡ true)
both true true e = (refl, refl)
both true false e = cc
both false b e = cc

digit_told : (b : ℕ) → is_digit b ≡ true → (48 ≤ b) × (b ≤ 57)
digit_told b e = grind (arith, common_steps, both, nat_le, nat_tests)

-- two digits that name a direction
pub record IsLeafOf (b c : ℕ) : Type 0 where
  pub first_low : 48 ≤ b
  pub first_high : b ≤ 57
  pub second_low : 48 ≤ c
  pub second_high : c ≤ 57
  pub small : two_digits b c < 98

pub leaf_told : (b c : ℕ) → is_wide_leaf b c ≡ true → IsLeafOf b c
leaf_told b c e = grind (arith, common_steps, both, digit_told, nat_tests)

-- they are the word of the direction
pub word_is : (b c : ℕ) → IsLeafOf b c → (48 + two_digits b c / 10 ≡ b) × (48 + two_digits b c % 10 ≡ c)
word_is b c is =
    let parts = tens (b - 48) (c - 48) (omega (arith, is.first_high)) (omega (arith, is.second_high)) in
    (omega (arith, parts.0, is.first_low), omega (arith, parts.1, is.second_low))

-- ---- what bytes that pass spell
record SpellsWide (n : ℕ) (line : List ℕ) (nodes : List Node) : Type 0 where
  is : line ≡ tree_line 2 nodes
  forest : IsForest n nodes
  known : All (IsKnown 98) nodes

dot_first : (n b : ℕ) (bytes : List ℕ) (nodes : List Node) → b ≡ 46 → SpellsWide (suc (suc n)) bytes nodes → SpellsWide (suc n) (b ∷ bytes) (Split ∷ nodes)
dot_first n b bytes nodes e spells = grind (arith, common_steps, two_in_one, All-cons)

leaf_first : (n b c : ℕ) (bytes : List ℕ) (nodes : List Node) → IsLeafOf b c → SpellsWide n bytes nodes → SpellsWide (suc n) (b ∷ c ∷ bytes) (Leaf (two_digits b c) ∷ nodes)
leaf_first n b c bytes nodes is spells =
    let word = word_is b c is in
    record {
      is = ap (λ (x : ℕ). x ∷ c ∷ bytes) (sym word.0) ∙ ap (λ (x : ℕ). (48 + two_digits b c / 10) ∷ x ∷ bytes) (sym word.1)
          ∙ ap (λ (xs : List ℕ). (48 + two_digits b c / 10) ∷ (48 + two_digits b c % 10) ∷ xs) spells.is;
      forest = (leaf (two_digits b c), nodes, refl, spells.forest);
      known = All-cons (IsKnown 98) (Leaf (two_digits b c)) nodes is.small spells.known;
    }

wide_forest : (line : List ℕ) (n : ℕ) → is_spelled_wide n line ≡ true → SpellsWide n line (wide_nodes line)
wide_forest [] zero e = record { is = refl; forest = refl; known = All-nil (IsKnown 98) }
wide_forest [] (suc n) e = absurd (cc)
wide_forest (b ∷ []) zero e = absurd (cc)
wide_forest (b ∷ []) (suc n) e = absurd (cc)
wide_forest (b ∷ c ∷ bytes) zero e = absurd (cc)
wide_forest (b ∷ c ∷ bytes) (suc n) e = go (b == 46) (is_wide_leaf b c) refl refl e (wide_forest (c ∷ bytes) (suc (suc n))) (wide_forest bytes n)
  where
    go : (s t : Bool) → (b == 46) ≡ s → is_wide_leaf b c ≡ t → cond s (is_spelled_wide (suc (suc n)) (c ∷ bytes)) (cond t (is_spelled_wide n bytes) false) ≡ true →
        (is_spelled_wide (suc (suc n)) (c ∷ bytes) ≡ true → SpellsWide (suc (suc n)) (c ∷ bytes) (wide_nodes (c ∷ bytes))) →
        (is_spelled_wide n bytes ≡ true → SpellsWide n bytes (wide_nodes bytes)) →
        SpellsWide (suc n) (b ∷ c ∷ bytes) (cond s (Split ∷ wide_nodes (c ∷ bytes)) (Leaf (two_digits b c) ∷ wide_nodes bytes))
    go true t p q e two one = dot_first n b (c ∷ bytes) (wide_nodes (c ∷ bytes)) (dot_told b p) (two e)
    go false true p q e two one = leaf_first n b c bytes (wide_nodes bytes) (leaf_told b c q) (one e)
    go false false p q e two one = absurd (cc)

-- a line that passes is one whole tree
pub wide_nodes_told : (line : List ℕ) → is_spelled_wide 1 line ≡ true → (line ≡ tree_line 2 (wide_nodes line)) × IsTree (wide_nodes line) × All (IsKnown 98) (wide_nodes line)
wide_nodes_told line e = close (wide_nodes line) (wide_forest line 1 e)
  where
    close : (nodes : List Node) → SpellsWide 1 line nodes → (line ≡ tree_line 2 nodes) × IsTree nodes × All (IsKnown 98) nodes
    close nodes spells =
        let tree : Tree = spells.forest.0 in
        (spells.is, (tree, spells.forest.2 ∙ ap (λ (ns : List Node). preorder tree ++ ns) spells.forest.3 ∙ append-nil (preorder tree)), spells.known)

-- a split in front
dot_step : (n : ℕ) (bytes : List ℕ) → (is_spelled_wide (suc n) (46 ∷ bytes) ≡ is_spelled_wide (suc (suc n)) bytes) × (wide_nodes (46 ∷ bytes) ≡ Split ∷ wide_nodes bytes)
dot_step n [] = (refl, refl)
dot_step n (c ∷ bytes) = (refl, refl)

pub not_dot : (b : ℕ) → (b ≡ 46 → ⊥) → (b == 46) ≡ false
not_dot b other = grind (arith, common_steps, dot_told)

-- ---- from nodes to bytes and back
pub word_back : (dir : ℕ) → two_digits (48 + dir / 10) (48 + dir % 10) ≡ dir
word_back dir = omega arith

pub word_no_dot : (dir : ℕ) → ((48 + dir / 10) == 46) ≡ false
word_no_dot dir = not_dot (48 + dir / 10) (λ e. absurd (omega (arith, e)))

pub wide_back : (nodes : List Node) → wide_nodes (tree_line 2 nodes) ≡ nodes
wide_back [] = refl
wide_back (Split ∷ nodes) = (dot_step 0 (tree_line 2 nodes)).1 ∙ ap (λ (ns : List Node). Split ∷ ns) (wide_back nodes)
wide_back (Leaf dir ∷ nodes) = grind (arith, common_steps, cond, word_no_dot, word_back, (wide_back nodes))

digit_is : (d : ℕ) → d ≤ 9 → is_digit (48 + d) ≡ true
digit_is d small = grind (arith, common_steps, nat_le, nat_tests)

pub leaf_is : (dir : ℕ) → dir < 98 → is_wide_leaf (48 + dir / 10) (48 + dir % 10) ≡ true
leaf_is dir small = grind (arith, common_steps, digit_is, word_back, nat_tests)

-- the word of a known direction spells one tree more
pub word_spelled : (n dir : ℕ) (rest : List ℕ) → dir < 98 → is_spelled_wide (suc n) ((48 + dir / 10) ∷ (48 + dir % 10) ∷ rest) ≡ is_spelled_wide n rest
word_spelled n dir rest small = rw (word_no_dot dir, leaf_is dir small) refl

pub dot_spelled : (n : ℕ) (rest : List ℕ) → is_spelled_wide (suc n) (46 ∷ rest) ≡ is_spelled_wide (suc (suc n)) rest
dot_spelled n rest = (dot_step n rest).0
