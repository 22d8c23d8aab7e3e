-- A line is one whole tree by its grammar exactly where what the reader counts says so.
use Rattle.sep_certificate.proofs.Prelude.{common_steps, ◌≡◌, inl, inr, ℕ, suc, ◌+◌, ◌-◌, ◌/◌, ◌%◌, ◌<◌, Bool, true, false, cond, ◌==◌, arith, refl, sym, ◌∙◌, ap, subst, List, [], ◌∷◌, ◌++◌, append_assoc, append-nil, Option, Some, None, All, is_some, option_flatten, option_map, All-nil, All-cons, All-head, All-tail, IsVersion, known_in, Node, Split, Leaf, IsKnown, IsTree, Tree, preorder, spelled_tree, leaf, split, is_spelled, is_spelled_wide, IsTreeLine, digit_nodes, is_letter, is_tree_line, is_wide_leaf, letter_nodes, node_text, tree_line, two_digits, tree_back, tree_told}
use Rattle.std.proofs.lemmas.List.Concat.{flat_map-append}
use Rattle.sep_certificate.proofs.Digits.{IsLeafOf, dot_spelled, leaf_is, leaf_told, not_dot, wide_nodes_told, word_back, word_is, word_no_dot, word_spelled}
use Rattle.sep_certificate.proofs.Named.{all_front, all_rest}
use Rattle.sep_certificate.proofs.Spelled.{dot_told, leaf_test, letter_is, letter_told, tree_of_line}

-- ---- nodes that a line spells
-- what a line is that spells these nodes
abbrev IsLineOf : ℕ → List ℕ → List Node → Type 0
IsLineOf version line nodes = (line ≡ tree_line version nodes) × All (IsKnown (known_in version)) nodes

letters_told : (line : List ℕ) (nodes : List Node) → letter_nodes line ≡ Some nodes → IsLineOf 1 line nodes
letters_told [] nodes e = let is : [] ≡ nodes = cc in rw (sym is) (refl, All-nil (IsKnown 26))
letters_told (b ∷ bytes) nodes e = go (b == 46) (is_letter b) refl refl (letter_nodes bytes) (letters_told bytes) e
  where
    go : (s t : Bool) → (b == 46) ≡ s → is_letter b ≡ t → (o : Option (List Node)) → ((found : List Node) → o ≡ Some found → IsLineOf 1 bytes found) →
        cond s (option_map (λ ns. Split ∷ ns) o) (cond t (option_map (λ ns. Leaf (b - 97) ∷ ns) o) None) ≡ Some nodes → IsLineOf 1 (b ∷ bytes) nodes
    go true t p q None told e = cc
    go true t p q (Some found) told e =
        let is : Split ∷ found ≡ nodes = cc in
        let more = told found refl in
        let dot : b ≡ 46 = dot_told b p in
        rw (sym is) (ap (λ (x : ℕ). x ∷ bytes) dot ∙ ap (λ (xs : List ℕ). 46 ∷ xs) more.0, All-cons (IsKnown 26) Split found tt more.1)
    go false true p q None told e = cc
    go false true p q (Some found) told e =
        let is : Leaf (b - 97) ∷ found ≡ nodes = cc in
        let more = told found refl in
        let letter = letter_told b q in
        let back : b ≡ 97 + (b - 97) = omega (arith, letter.0) in
        rw (sym is) (ap (λ (x : ℕ). x ∷ bytes) back ∙ ap (λ (xs : List ℕ). (97 + (b - 97)) ∷ xs) more.0, All-cons (IsKnown 26) (Leaf (b - 97)) found (omega (arith, letter.0, letter.1)) more.1)
    go false false p q o told e = cc

letters_back : (nodes : List Node) → All (IsKnown 26) nodes → letter_nodes (tree_line 1 nodes) ≡ Some nodes
letters_back [] known = refl
letters_back (Split ∷ nodes) known = ap (λ (o : Option (List Node)). option_map (λ ns. Split ∷ ns) o) (letters_back nodes (All-tail (IsKnown 26) Split nodes known))
letters_back (Leaf dir ∷ nodes) known =
    go ((97 + dir) == 46) (is_letter (97 + dir)) (97 + dir - 97) (not_dot (97 + dir) (λ e. absurd (omega (arith, e)))) (letter_is dir (All-head (IsKnown 26) (Leaf dir) nodes known)) (omega arith)
    (letters_back nodes (All-tail (IsKnown 26) (Leaf dir) nodes known))
  where
    go : (s t : Bool) (d : ℕ) → s ≡ false → t ≡ true → d ≡ dir → letter_nodes (tree_line 1 nodes) ≡ Some nodes →
        cond s (option_map (λ ns. Split ∷ ns) (letter_nodes (tree_line 1 nodes))) (cond t (option_map (λ ns. Leaf d ∷ ns) (letter_nodes (tree_line 1 nodes))) None) ≡ Some (Leaf dir ∷ nodes)
    go s t d p q same more = rw (p, q, same, more) refl

digits_told : (line : List ℕ) (nodes : List Node) → digit_nodes line ≡ Some nodes → IsLineOf 2 line nodes
digits_told [] nodes e = let is : [] ≡ nodes = cc in rw (sym is) (refl, All-nil (IsKnown 98))
digits_told (b ∷ []) nodes e = grind (arith, common_steps, cond, dot_told, All-cons, All-nil)
digits_told (b ∷ c ∷ bytes) nodes e = go (b == 46) (is_wide_leaf b c) refl refl (digit_nodes (c ∷ bytes)) (digit_nodes bytes) (digits_told (c ∷ bytes)) (digits_told bytes) e
  where
    go : (s t : Bool) → (b == 46) ≡ s → is_wide_leaf b c ≡ t → (o u : Option (List Node)) → ((found : List Node) → o ≡ Some found → IsLineOf 2 (c ∷ bytes) found) →
        ((found : List Node) → u ≡ Some found → IsLineOf 2 bytes found) →
        cond s (option_map (λ ns. Split ∷ ns) o) (cond t (option_map (λ ns. Leaf (two_digits b c) ∷ ns) u) None) ≡ Some nodes → IsLineOf 2 (b ∷ c ∷ bytes) nodes
    go true t p q None u told also e = cc
    go true t p q (Some found) u told also e =
        let is : Split ∷ found ≡ nodes = cc in
        let more = told found refl in
        rw (sym is) (ap (λ (x : ℕ). x ∷ c ∷ bytes) (dot_told b p) ∙ ap (λ (xs : List ℕ). 46 ∷ xs) more.0, All-cons (IsKnown 98) Split found tt more.1)
    go false true p q o None told also e = cc
    go false true p q o (Some found) told also e =
        let is : Leaf (two_digits b c) ∷ found ≡ nodes = cc in
        let more = also found refl in
        let digits : IsLeafOf b c = leaf_told b c q in
        let word = word_is b c digits in
        rw (sym is) (
          ap (λ (x : ℕ). x ∷ c ∷ bytes) (sym word.0) ∙ ap (λ (x : ℕ). (48 + two_digits b c / 10) ∷ x ∷ bytes) (sym word.1)
              ∙ ap (λ (xs : List ℕ). (48 + two_digits b c / 10) ∷ (48 + two_digits b c % 10) ∷ xs) more.0,
          All-cons (IsKnown 98) (Leaf (two_digits b c)) found digits.small more.1,
        )
    go false false p q o u told also e = cc

dot_digits : (bytes : List ℕ) → digit_nodes (46 ∷ bytes) ≡ option_map (λ ns. Split ∷ ns) (digit_nodes bytes)
dot_digits [] = refl
dot_digits (c ∷ bytes) = refl

digits_back : (nodes : List Node) → All (IsKnown 98) nodes → digit_nodes (tree_line 2 nodes) ≡ Some nodes
digits_back [] known = refl
digits_back (Split ∷ nodes) known =
    dot_digits (tree_line 2 nodes) ∙ ap (λ (o : Option (List Node)). option_map (λ ns. Split ∷ ns) o) (digits_back nodes (All-tail (IsKnown 98) Split nodes known))
digits_back (Leaf dir ∷ nodes) known =
    go ((48 + dir / 10) == 46) (is_wide_leaf (48 + dir / 10) (48 + dir % 10)) (two_digits (48 + dir / 10) (48 + dir % 10))
    (digit_nodes ((48 + dir % 10) ∷ tree_line 2 nodes)) (word_no_dot dir) (leaf_is dir (All-head (IsKnown 98) (Leaf dir) nodes known)) (word_back dir)
    (digits_back nodes (All-tail (IsKnown 98) (Leaf dir) nodes known))
  where
    go : (s t : Bool) (d : ℕ) (o : Option (List Node)) → s ≡ false → t ≡ true → d ≡ dir → digit_nodes (tree_line 2 nodes) ≡ Some nodes →
        cond s (option_map (λ ns. Split ∷ ns) o) (cond t (option_map (λ ns. Leaf d ∷ ns) (digit_nodes (tree_line 2 nodes))) None) ≡ Some (Leaf dir ∷ nodes)
    go s t d o p q same more = rw (p, q, same, more) refl

-- ---- the line of a tree
tree_line_of : (o : Option (List Node)) (version : ℕ) (line : List ℕ) → ((nodes : List Node) → o ≡ Some nodes → IsLineOf version line nodes) →
    is_some (option_flatten (option_map spelled_tree o)) ≡ true → IsTreeLine version line
tree_line_of None version line told e = cc
tree_line_of (Some nodes) version line told e = go (spelled_tree nodes) refl e
  where
    go : (t : Option Tree) → spelled_tree nodes ≡ t → is_some t ≡ true → IsTreeLine version line
    go None is e = cc
    go (Some tree) is e =
        let parts = told nodes refl in
        let nodes_are : nodes ≡ preorder tree = tree_told nodes tree is in
        (tree, parts.0 ∙ ap (tree_line version) nodes_are, subst (λ (ns : List Node). All (IsKnown (known_in version)) ns) nodes_are parts.1)

one_tree : (o : Option (List Node)) (tree : Tree) → o ≡ Some (preorder tree) → is_some (option_flatten (option_map spelled_tree o)) ≡ true
one_tree o tree e = ap (λ (o : Option (List Node)). is_some (option_flatten (option_map spelled_tree o))) e ∙ ap (λ (t : Option Tree). is_some t) (tree_back tree)

-- a line passes exactly where it is the line of a tree
pub told_line : (version : ℕ) (line : List ℕ) → IsVersion version → is_tree_line version line ≡ true → IsTreeLine version line
unfolding is_tree_line
told_line version line is e = elim is [
  | inl v ↦ subst (λ (w : ℕ). IsTreeLine w line) (sym v) (tree_line_of (letter_nodes line) 1 line (letters_told line) (subst (λ (w : ℕ). is_tree_line w line ≡ true) v e))
  | inr v ↦ subst (λ (w : ℕ). IsTreeLine w line) (sym v) (tree_line_of (digit_nodes line) 2 line (digits_told line) (subst (λ (w : ℕ). is_tree_line w line ≡ true) v e))
]

pub line_told_back : (version : ℕ) (line : List ℕ) → IsVersion version → IsTreeLine version line → is_tree_line version line ≡ true
unfolding is_tree_line
line_told_back version line is (tree, line_is, known) = elim is [
  | inl v ↦
      let line_is : line ≡ tree_line 1 (preorder tree) = subst (λ (w : ℕ). line ≡ tree_line w (preorder tree)) v line_is in
      let known : All (IsKnown 26) (preorder tree) = subst (λ (w : ℕ). All (IsKnown (known_in w)) (preorder tree)) v known in
      subst (λ (w : ℕ). is_tree_line w line ≡ true) (sym v) (one_tree (letter_nodes line) tree (ap letter_nodes line_is ∙ letters_back (preorder tree) known))
  | inr v ↦
      let line_is : line ≡ tree_line 2 (preorder tree) = subst (λ (w : ℕ). line ≡ tree_line w (preorder tree)) v line_is in
      let known : All (IsKnown 98) (preorder tree) = subst (λ (w : ℕ). All (IsKnown (known_in w)) (preorder tree)) v known in
      subst (λ (w : ℕ). is_tree_line w line ≡ true) (sym v) (one_tree (digit_nodes line) tree (ap digit_nodes line_is ∙ digits_back (preorder tree) known))
]

pub line_spelled : (version : ℕ) → IsVersion version → (nodes : List Node) → IsTree nodes → All (IsKnown (known_in version)) nodes → is_tree_line version (tree_line version nodes) ≡ true
line_spelled version is nodes (tree, nodes_are) known =
    line_told_back version (tree_line version nodes) is (tree, ap (tree_line version) nodes_are, subst (λ (ns : List Node). All (IsKnown (known_in version)) ns) nodes_are known)

-- ---- what the reader counts
-- the line of a tree of version 1 spells one tree more
tree_spelled : (tree : Tree) (n : ℕ) (rest : List ℕ) → All (IsKnown 26) (preorder tree) → is_spelled (suc n) (tree_line 1 (preorder tree) ++ rest) ≡ is_spelled n rest
tree_spelled (leaf dir) n rest known =
    let small : dir < 26 = All-head (IsKnown 26) (Leaf dir) [] known in
    leaf_test n (97 + dir) rest (omega arith) (omega arith)
tree_spelled (split left right) n rest known =
    let both : All (IsKnown 26) (preorder left ++ preorder right) = All-tail (IsKnown 26) Split (preorder left ++ preorder right) known in
    ap (λ (bytes : List ℕ). is_spelled (suc (suc n)) bytes)
    (ap (λ (bytes : List ℕ). bytes ++ rest) (flat_map-append (node_text 1) (preorder left) (preorder right)) ∙ append_assoc (tree_line 1 (preorder left)) (tree_line 1 (preorder right)) rest)
    ∙ tree_spelled left (suc n) (tree_line 1 (preorder right) ++ rest) (all_front (IsKnown 26) (preorder left) (preorder right) both)
    ∙ tree_spelled right n rest (all_rest (IsKnown 26) (preorder left) (preorder right) both)

-- so does that of a tree of version 2
wide_spelled : (tree : Tree) (n : ℕ) (rest : List ℕ) → All (IsKnown 98) (preorder tree) → is_spelled_wide (suc n) (tree_line 2 (preorder tree) ++ rest) ≡ is_spelled_wide n rest
wide_spelled (leaf dir) n rest known = word_spelled n dir rest (All-head (IsKnown 98) (Leaf dir) [] known)
wide_spelled (split left right) n rest known =
    let both : All (IsKnown 98) (preorder left ++ preorder right) = All-tail (IsKnown 98) Split (preorder left ++ preorder right) known in
    dot_spelled n (tree_line 2 (preorder left ++ preorder right) ++ rest)
    ∙ ap (λ (bytes : List ℕ). is_spelled_wide (suc (suc n)) bytes)
    (ap (λ (bytes : List ℕ). bytes ++ rest) (flat_map-append (node_text 2) (preorder left) (preorder right)) ∙ append_assoc (tree_line 2 (preorder left)) (tree_line 2 (preorder right)) rest)
    ∙ wide_spelled left (suc n) (tree_line 2 (preorder right) ++ rest) (all_front (IsKnown 98) (preorder left) (preorder right) both)
    ∙ wide_spelled right n rest (all_rest (IsKnown 98) (preorder left) (preorder right) both)

same_test : (a b : Bool) → (a ≡ true → b ≡ true) → (b ≡ true → a ≡ true) → a ≡ b
same_test true b to from = sym (to refl)
same_test false true to from = from refl
same_test false false to from = refl

pub counted_old : (line : List ℕ) → is_spelled 1 line ≡ is_tree_line 1 line
counted_old line = same_test (is_spelled 1 line) (is_tree_line 1 line) to from
  where
    to : is_spelled 1 line ≡ true → is_tree_line 1 line ≡ true
    to e = go (tree_of_line line e)
      where
        go : (nodes : List Node) × (line ≡ tree_line 1 nodes) × IsTree nodes × All (IsKnown 26) nodes → is_tree_line 1 line ≡ true
        go (nodes, is, tree, known) = subst (λ (xs : List ℕ). is_tree_line 1 xs ≡ true) (sym is) (line_spelled 1 (inl refl) nodes tree known)

    from : is_tree_line 1 line ≡ true → is_spelled 1 line ≡ true
    from e = go (told_line 1 line (inl refl) e)
      where
        go : IsTreeLine 1 line → is_spelled 1 line ≡ true
        go (tree, is, known) = ap (is_spelled 1) (is ∙ sym (append-nil (tree_line 1 (preorder tree)))) ∙ tree_spelled tree 0 [] known

pub counted_wide : (line : List ℕ) → is_spelled_wide 1 line ≡ is_tree_line 2 line
counted_wide line = same_test (is_spelled_wide 1 line) (is_tree_line 2 line) to from
  where
    to : is_spelled_wide 1 line ≡ true → is_tree_line 2 line ≡ true
    to e = let told = wide_nodes_told line e in subst (λ (xs : List ℕ). is_tree_line 2 xs ≡ true) (sym told.0) (line_spelled 2 (inr refl) _ told.1 told.2)

    from : is_tree_line 2 line ≡ true → is_spelled_wide 1 line ≡ true
    from e = go (told_line 2 line (inr refl) e)
      where
        go : IsTreeLine 2 line → is_spelled_wide 1 line ≡ true
        go (tree, is, known) = ap (is_spelled_wide 1) (is ∙ sym (append-nil (tree_line 2 (preorder tree)))) ∙ wide_spelled tree 0 [] known
