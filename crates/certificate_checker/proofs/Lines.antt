-- The machine over the lines of a text: it stops at the first faulty one, and else has judged each tree.
use Rattle.certificate_checker.proofs.Prelude.{◌≡◌, inl, inr, ℕ, suc, ◌+◌, ◌-◌, ◌≤◌, Bool, true, false, cond, bytes_eq, arith, refl, sym, ◌∙◌, ap, subst, List, [], ◌∷◌, ◌++◌, map, slice_index, Some, None, All, All-head, All-tail, Clearance, Node, Raised, slot_at, IsKnown, IsTree, IsVersion, known_in, table_of, Certificate, IsWhole, bad_from, bad_line, bad_tree, depth_line, head_lines, is_depth_line, is_tree_line, tree_line, version_line, line_spelled, header_told, Line, Judged, Reading, DepthLine, Faulty, FirstLine, TreeLine, before_tree, depth_read, first_tree, line_read, verdict_of, with_tree}
use Rattle.sep_certificate.proofs.Digits.{wide_back}
use Rattle.sep_certificate.proofs.Spelled.{all_back}
use Rattle.certificate_checker.proofs.Folds.{bytes_read, faulty_lines, line_at, lines_read, nodes_in, nodes_judged, trees_judged}
use Rattle.certificate_checker.proofs.Heads.{depth_bytes, depth_line_read, first_bytes, first_line}
use Rattle.certificate_checker.proofs.Letters.{line_told, next_line}

-- the nodes of a written line
nodes_back : (version : ℕ) → IsVersion version → (nodes : List Node) → nodes_in version (tree_line version nodes) ≡ nodes
nodes_back version (inl e) nodes = subst (λ (v : ℕ). nodes_in v (tree_line v nodes) ≡ nodes) (sym e) (all_back nodes)
nodes_back version (inr e) nodes = subst (λ (v : ℕ). nodes_in v (tree_line v nodes) ≡ nodes) (sym e) (wide_back nodes)

module _ (clearance : Clearance) (curves : Raised) where
  -- ---- a faulty line
  trees_faulty : (version depth : ℕ) → IsVersion version → (lines : List (List ℕ)) (n k : ℕ) (j : Judged) → bad_tree version n lines ≡ Some k →
      lines_read clearance curves (TreeLine (line_at version depth n 1 None j)) lines ≡ Faulty k
  trees_faulty version depth is [] n k j e = cc
  trees_faulty version depth is (line ∷ more) n k j e =
      ap (λ (reading : Reading). lines_read clearance curves reading more) (line_told clearance curves depth n version is line j)
      ∙ go (λ next e. trees_faulty version depth is more (suc n) k (with_tree curves next) e) (is_tree_line version line) (nodes_judged (record { clearance = clearance; depth = depth }) (table_of version) curves j (nodes_in version line)) e
    where
      go : ((next : Judged) → bad_tree version (suc n) more ≡ Some k → lines_read clearance curves (next_line clearance curves depth n version next) more ≡ Faulty k) →
          (s : Bool) (next : Judged) → cond s (bad_tree version (suc n) more) (Some n) ≡ Some k →
          lines_read clearance curves (cond s (next_line clearance curves depth n version next) (Faulty n)) more ≡ Faulty k
      go later true next e = later next e
      go later false next e = let same : n ≡ k = cc in ap (λ (m : ℕ). lines_read clearance curves (Faulty m) more) same ∙ faulty_lines clearance curves k more

  depth_faulty : (version : ℕ) → IsVersion version → (line : List ℕ) (more : List (List ℕ)) (n k : ℕ) → bad_from version n (line ∷ more) ≡ Some k →
      lines_read clearance curves (depth_read version n line) more ≡ Faulty k
  depth_faulty version is line more n k e = go (is_depth_line line) e
    where
      go : (s : Bool) → cond s (bad_tree version (suc n) more) (Some n) ≡ Some k →
          lines_read clearance curves (cond s (TreeLine (first_tree version (slice_index line 12 - 48) (suc n))) (Faulty n)) more ≡ Faulty k
      go true e = trees_faulty version (slice_index line 12 - 48) is more (suc n) k (before_tree (slot_at 0 1 0) 0) e
      go false e = let same : n ≡ k = cc in ap (λ (m : ℕ). lines_read clearance curves (Faulty m) more) same ∙ faulty_lines clearance curves k more

  -- the first line, and the one that says the depth, are read from what is kept of them
  first_read : (line : List ℕ) → line_read curves (bytes_read clearance curves (FirstLine []) line) ≡ line_read curves (FirstLine line)
  first_read line = ap (line_read curves) (first_bytes clearance curves [] line) ∙ first_line curves line

  second_read : (line : List ℕ) → line_read curves (bytes_read clearance curves (DepthLine []) line) ≡ depth_read 2 2 line
  second_read line = ap (line_read curves) (depth_bytes clearance curves [] line) ∙ depth_line_read curves 2 2 line

  second_faulty : (more : List (List ℕ)) (k : ℕ) → bad_from 2 2 more ≡ Some k → verdict_of curves (lines_read clearance curves (DepthLine []) more) ≡ Line k
  second_faulty [] k e = let same : 2 ≡ k = cc in ap (λ (n : ℕ). Line n) same
  second_faulty (line ∷ more) k e =
      ap (λ (reading : Reading). verdict_of curves (lines_read clearance curves reading more)) (second_read line)
      ∙ ap (verdict_of curves) (depth_faulty 2 (inr refl) line more 2 k e)

  pub faulty_told : (lines : List (List ℕ)) (k : ℕ) → bad_line lines ≡ Some k → verdict_of curves (lines_read clearance curves (FirstLine []) lines) ≡ Line k
  faulty_told [] k e = let same : 1 ≡ k = cc in ap (λ (n : ℕ). Line n) same
  faulty_told (line ∷ more) k e =
      ap (λ (reading : Reading). verdict_of curves (lines_read clearance curves reading more)) (first_read line) ∙ go (bytes_eq line version_line) e
    where
      go : (s : Bool) → cond s (bad_from 2 2 more) (bad_from 1 1 (line ∷ more)) ≡ Some k →
          verdict_of curves (lines_read clearance curves (cond s (DepthLine []) (depth_read 1 1 line)) more) ≡ Line k
      go true e = second_faulty more k e
      go false e = ap (verdict_of curves) (depth_faulty 1 (inl refl) line more 1 k e)

  -- ---- no faulty line
  trees_told : (version depth : ℕ) → IsVersion version → (trees : List (List Node)) → All IsTree trees → All (All (IsKnown (known_in version))) trees → (n : ℕ) (j : Judged) →
      (m : ℕ) × (lines_read clearance curves (TreeLine (line_at version depth n 1 None j)) (map (tree_line version) trees)
      ≡ TreeLine (line_at version depth m 1 None (trees_judged (record { clearance = clearance; depth = depth }) (table_of version) curves j trees)))
  trees_told version depth is [] whole known n j = (n, refl)
  trees_told version depth is (nodes ∷ trees) whole known n j =
      let next : Judged = with_tree curves (nodes_judged (record { clearance = clearance; depth = depth }) (table_of version) curves j nodes) in
      let rest = trees_told version depth is trees (All-tail IsTree nodes trees whole) (All-tail (All (IsKnown (known_in version))) nodes trees known) (suc n) next in (
        rest.0,
        ap (λ (reading : Reading). lines_read clearance curves reading (map (tree_line version) trees))
            (line_told clearance curves depth n version is (tree_line version nodes) j
            ∙ ap (λ (s : Bool). cond s (next_line clearance curves depth n version (nodes_judged (record { clearance = clearance; depth = depth }) (table_of version) curves j (nodes_in version (tree_line version nodes)))) (Faulty n))
            (line_spelled version is nodes (All-head IsTree nodes trees whole) (All-head (All (IsKnown (known_in version))) nodes trees known))
            ∙ ap (λ (ns : List Node). next_line clearance curves depth n version (nodes_judged (record { clearance = clearance; depth = depth }) (table_of version) curves j ns)) (nodes_back version is nodes))
            ∙ rest.1,
      )

  depth_told : (version n depth : ℕ) → depth ≤ 8 → depth_read version n (depth_line depth) ≡ TreeLine (first_tree version depth (suc n))
  depth_told version n depth small =
      let same : 48 + depth - 48 ≡ depth = omega arith in
      ap (λ (s : Bool). cond s (TreeLine (first_tree version (48 + depth - 48) (suc n))) (Faulty n)) (header_told depth small)
      ∙ ap (λ (d : ℕ). TreeLine (first_tree version d (suc n))) same

  -- what is judged of the trees of a certificate
  abbrev pub all_judged : Certificate → Judged
  all_judged cert = trees_judged (record { clearance = clearance; depth = cert.depth }) (table_of cert.version) curves (before_tree (slot_at 0 1 0) 0) cert.trees

  abbrev pub ReadsAll : Certificate → List (List ℕ) → Type 0
  ReadsAll cert lines = (m : ℕ) × (lines_read clearance curves (FirstLine []) lines ≡ TreeLine (line_at cert.version cert.depth m 1 None (all_judged cert)))

  old_told : (depth : ℕ) (more : List (List ℕ)) → depth ≤ 8 →
      lines_read clearance curves (FirstLine []) (depth_line depth ∷ more) ≡ lines_read clearance curves (TreeLine (first_tree 1 depth 2)) more
  old_told depth more small = ap (λ (reading : Reading). lines_read clearance curves reading more) (first_read (depth_line depth) ∙ depth_told 1 1 depth small)

  wide_told : (depth : ℕ) (more : List (List ℕ)) → depth ≤ 8 →
      lines_read clearance curves (FirstLine []) (version_line ∷ depth_line depth ∷ more) ≡ lines_read clearance curves (TreeLine (first_tree 2 depth 3)) more
  wide_told depth more small =
      ap (λ (reading : Reading). lines_read clearance curves reading (depth_line depth ∷ more)) (first_read version_line)
      ∙ ap (λ (reading : Reading). lines_read clearance curves reading more) (second_read (depth_line depth) ∙ depth_told 2 2 depth small)

  abbrev Judges : Certificate → ℕ → Type 0
  Judges cert version = (n : ℕ) → (m : ℕ) × (lines_read clearance curves (TreeLine (line_at version cert.depth n 1 None (before_tree (slot_at 0 1 0) 0))) (map (tree_line version) cert.trees)
      ≡ TreeLine (line_at version cert.depth m 1 None (trees_judged (record { clearance = clearance; depth = cert.depth }) (table_of version) curves (before_tree (slot_at 0 1 0) 0) cert.trees)))

  abbrev Told : Certificate → ℕ → Type 0
  Told cert version = (m : ℕ) × (lines_read clearance curves (FirstLine []) (head_lines version cert.depth ++ map (tree_line version) cert.trees)
      ≡ TreeLine (line_at version cert.depth m 1 None (trees_judged (record { clearance = clearance; depth = cert.depth }) (table_of version) curves (before_tree (slot_at 0 1 0) 0) cert.trees)))

  by_version : (cert : Certificate) → cert.depth ≤ 8 → (version : ℕ) → IsVersion version → Judges cert version → Told cert version
  by_version cert small version (inl e) judges =
      subst (λ (v : ℕ). Judges cert v → Told cert v) (sym e) (λ (js : Judges cert 1). ((js 2).0, old_told cert.depth (map (tree_line 1) cert.trees) small ∙ (js 2).1)) judges
  by_version cert small version (inr e) judges =
      subst (λ (v : ℕ). Judges cert v → Told cert v) (sym e) (λ (js : Judges cert 2). ((js 3).0, wide_told cert.depth (map (tree_line 2) cert.trees) small ∙ (js 3).1)) judges

  pub said_told : (cert : Certificate) → IsWhole cert → ReadsAll cert (head_lines cert.version cert.depth ++ map (tree_line cert.version) cert.trees)
  said_told cert whole =
      by_version cert whole.whole.depth cert.version whole.version
      (λ n. trees_told cert.version cert.depth whole.version cert.trees whole.whole.trees whole.whole.leaves n (before_tree (slot_at 0 1 0) 0))
