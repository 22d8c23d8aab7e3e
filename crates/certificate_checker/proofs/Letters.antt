-- One line of a tree, byte by byte.
use Rattle.certificate_checker.proofs.Prelude.{◌≡◌, inl, inr, ℕ, zero, suc, ◌-◌, Bool, true, false, cond, ◌==◌, arith, refl, sym, ◌∙◌, ap, subst, List, [], ◌∷◌, map, Some, None, nat_tests, Clearance, Node, Split, Leaf, Raised, IsVersion, table_of, is_spelled, is_spelled_wide, node_of_byte, wide_nodes, is_digit, is_letter, is_tree_line, is_wide_leaf, two_digits, counted_old, counted_wide, Judged, Reading, TreeLine, Faulty, byte_read, line_read, node_read, with_node, with_tree}
use Rattle.certificate_checker.proofs.Folds.{bytes_read, faulty_bytes, line_at, nodes_in, nodes_judged}

owes : (n : ℕ) → (suc n == 0) ≡ false
owes n = grind (arith, nat_tests)

no_wide : (b c : ℕ) → is_digit b ≡ false → is_wide_leaf b c ≡ false
no_wide b c p = rw p refl

module _ (clearance : Clearance) (curves : Raised) (depth n : ℕ) where
  -- after a line
  abbrev pub next_line : ℕ → Judged → Reading
  next_line version j = TreeLine (line_at version depth (suc n) 1 None (with_tree curves j))

  abbrev judged_nodes : ℕ → Judged → List Node → Judged
  judged_nodes version j nodes = nodes_judged (record { clearance = clearance; depth = depth }) (table_of version) curves j nodes

  -- a line that ends while it owes a tree
  short_line : (version k : ℕ) (digit : _) (j : Judged) → line_read curves (TreeLine (line_at version depth n (suc k) digit j)) ≡ Faulty n
  short_line version k digit j = rw (owes k) refl

  faulty_line : (bytes : List ℕ) → line_read curves (bytes_read clearance curves (Faulty n) bytes) ≡ Faulty n
  faulty_line bytes = ap (line_read curves) (faulty_bytes clearance curves n bytes)

  letters_read : (line : List ℕ) (owed : ℕ) (j : Judged) →
      line_read curves (bytes_read clearance curves (TreeLine (line_at 1 depth n owed None j)) line)
      ≡ cond (is_spelled owed line) (next_line 1 (judged_nodes 1 j (map node_of_byte line))) (Faulty n)
  letters_read [] zero j = refl
  letters_read [] (suc k) j = short_line 1 k None j
  letters_read (b ∷ bytes) zero j = faulty_line bytes
  letters_read (b ∷ bytes) (suc k) j = go (λ owed next. letters_read bytes owed next) (b == 46) (is_letter b)
    where
      go : ((owed : ℕ) (next : Judged) → line_read curves (bytes_read clearance curves (TreeLine (line_at 1 depth n owed None next)) bytes)
          ≡ cond (is_spelled owed bytes) (next_line 1 (judged_nodes 1 next (map node_of_byte bytes))) (Faulty n)) →
          (s t : Bool) →
          line_read curves (bytes_read clearance curves
          (cond s (node_read clearance curves (line_at 1 depth n (suc k) None j) Split (suc (suc k))) (cond t (node_read clearance curves (line_at 1 depth n (suc k) None j) (Leaf (b - 97)) k) (Faulty n))) bytes)
          ≡ cond (cond s (is_spelled (suc (suc k)) bytes) (cond t (is_spelled k bytes) false))
          (next_line 1 (judged_nodes 1 (with_node (record { clearance = clearance; depth = depth }) (table_of 1) curves j (cond s Split (Leaf (b - 97)))) (map node_of_byte bytes))) (Faulty n)
      go more true t = more (suc (suc k)) (with_node (record { clearance = clearance; depth = depth }) (table_of 1) curves j Split)
      go more false true = more k (with_node (record { clearance = clearance; depth = depth }) (table_of 1) curves j (Leaf (b - 97)))
      go more false false = faulty_line bytes

  digits_read : (line : List ℕ) (owed : ℕ) (j : Judged) →
      line_read curves (bytes_read clearance curves (TreeLine (line_at 2 depth n owed None j)) line)
      ≡ cond (is_spelled_wide owed line) (next_line 2 (judged_nodes 2 j (wide_nodes line))) (Faulty n)
  digits_read [] zero j = refl
  digits_read [] (suc k) j = short_line 2 k None j
  digits_read (b ∷ []) zero j = refl
  digits_read (b ∷ []) (suc k) j = go (b == 46) (is_digit b)
    where
      go : (s t : Bool) →
          line_read curves (cond s (node_read clearance curves (line_at 2 depth n (suc k) None j) Split (suc (suc k))) (cond t (TreeLine (line_at 2 depth n (suc k) (Some b) j)) (Faulty n))) ≡ Faulty n
      go true t = short_line 2 (suc k) None (with_node (record { clearance = clearance; depth = depth }) (table_of 2) curves j Split)
      go false true = short_line 2 k (Some b) j
      go false false = refl
  digits_read (b ∷ c ∷ bytes) zero j = faulty_line (c ∷ bytes)
  digits_read (b ∷ c ∷ bytes) (suc k) j =
      go (digits_read (c ∷ bytes) (suc (suc k)) (with_node (record { clearance = clearance; depth = depth }) (table_of 2) curves j Split))
      (second (digits_read bytes k (with_node (record { clearance = clearance; depth = depth }) (table_of 2) curves j (Leaf (two_digits b c)))) (is_wide_leaf b c))
      (b == 46) (is_digit b) refl
    where
      second : line_read curves (bytes_read clearance curves (node_read clearance curves (line_at 2 depth n (suc k) (Some b) j) (Leaf (two_digits b c)) k) bytes)
          ≡ cond (is_spelled_wide k bytes)
          (next_line 2 (judged_nodes 2 (with_node (record { clearance = clearance; depth = depth }) (table_of 2) curves j (Leaf (two_digits b c))) (wide_nodes bytes))) (Faulty n) →
          (t : Bool) →
          line_read curves (bytes_read clearance curves (cond t (node_read clearance curves (line_at 2 depth n (suc k) (Some b) j) (Leaf (two_digits b c)) k) (Faulty n)) bytes)
          ≡ cond (cond t (is_spelled_wide k bytes) false)
          (next_line 2 (judged_nodes 2 (with_node (record { clearance = clearance; depth = depth }) (table_of 2) curves j (Leaf (two_digits b c))) (wide_nodes bytes))) (Faulty n)
      second more true = more
      second more false = faulty_line bytes

      go : line_read curves (bytes_read clearance curves (TreeLine (line_at 2 depth n (suc (suc k)) None (with_node (record { clearance = clearance; depth = depth }) (table_of 2) curves j Split))) (c ∷ bytes))
          ≡ cond (is_spelled_wide (suc (suc k)) (c ∷ bytes))
          (next_line 2 (judged_nodes 2 (with_node (record { clearance = clearance; depth = depth }) (table_of 2) curves j Split) (wide_nodes (c ∷ bytes)))) (Faulty n) →
          line_read curves (bytes_read clearance curves (cond (is_wide_leaf b c) (node_read clearance curves (line_at 2 depth n (suc k) (Some b) j) (Leaf (two_digits b c)) k) (Faulty n)) bytes)
          ≡ cond (cond (is_wide_leaf b c) (is_spelled_wide k bytes) false)
          (next_line 2 (judged_nodes 2 (with_node (record { clearance = clearance; depth = depth }) (table_of 2) curves j (Leaf (two_digits b c))) (wide_nodes bytes))) (Faulty n) →
          (s t : Bool) → is_digit b ≡ t →
          line_read curves (bytes_read clearance curves (byte_read clearance curves
          (cond s (node_read clearance curves (line_at 2 depth n (suc k) None j) Split (suc (suc k))) (cond t (TreeLine (line_at 2 depth n (suc k) (Some b) j)) (Faulty n))) c) bytes)
          ≡ cond (cond s (is_spelled_wide (suc (suc k)) (c ∷ bytes)) (cond (is_wide_leaf b c) (is_spelled_wide k bytes) false))
          (next_line 2 (judged_nodes 2 j (cond s (Split ∷ wide_nodes (c ∷ bytes)) (Leaf (two_digits b c) ∷ wide_nodes bytes)))) (Faulty n)
      go split leaf true t p = split
      go split leaf false true p = leaf
      go split leaf false false p =
          faulty_line bytes
          ∙ sym (ap (λ (w : Bool). cond (cond w (is_spelled_wide k bytes) false) (next_line 2 (judged_nodes 2 j (Leaf (two_digits b c) ∷ wide_nodes bytes))) (Faulty n)) (no_wide b c p))

  -- a line is read as the definition judges it
  pub line_told : (version : ℕ) → IsVersion version → (line : List ℕ) (j : Judged) →
      line_read curves (bytes_read clearance curves (TreeLine (line_at version depth n 1 None j)) line)
      ≡ cond (is_tree_line version line) (next_line version (judged_nodes version j (nodes_in version line))) (Faulty n)
  line_told version (inl e) line j =
      subst (λ (v : ℕ). line_read curves (bytes_read clearance curves (TreeLine (line_at v depth n 1 None j)) line) ≡ cond (is_tree_line v line) (next_line v (judged_nodes v j (nodes_in v line))) (Faulty n)) (sym e)
      (letters_read line 1 j ∙ ap (λ (s : Bool). cond s (next_line 1 (judged_nodes 1 j (map node_of_byte line))) (Faulty n)) (counted_old line))
  line_told version (inr e) line j =
      subst (λ (v : ℕ). line_read curves (bytes_read clearance curves (TreeLine (line_at v depth n 1 None j)) line) ≡ cond (is_tree_line v line) (next_line v (judged_nodes v j (nodes_in v line))) (Faulty n)) (sym e)
      (digits_read line 1 j ∙ ap (λ (s : Bool). cond s (next_line 2 (judged_nodes 2 j (wide_nodes line))) (Faulty n)) (counted_wide line))
