-- The law of certificate texts.
use Rattle.sep_certificate.proofs.Prelude.{common_steps, ◌≡◌, ℕ, zero, suc, ◌+◌, ◌/◌, ◌%◌, ◌≤◌, inl, inr, Bool, true, false, cond, not, ◌&&◌, ◌==◌, slice_index, take, arith, refl, sym, ◌∙◌, ap, List, [], ◌∷◌, ◌++◌, append_assoc, append-nil, map, Some, None, All, flat_map, lines, nat_tests, slice_split_at, length-slice_split, All-cons, All-head, All-tail, IsVersion, known_in, Node, Split, Leaf, Certificate, IsWhole, IsKnown, IsTree, node_of_byte, wide_nodes, Says, bad_from, bad_line, bad_tree, depth_line, fed, head_lines, text_of, tree_line, version_line}
use Rattle.sep_certificate.specs.Readings.{TextLaw}
use Rattle.sep_certificate.proofs.FirstLines.{strip_first}
use Rattle.sep_certificate.proofs.Readers.{header_told}
use Rattle.sep_certificate.proofs.Spelled.{all_back}
use Rattle.sep_certificate.proofs.Digits.{wide_back}
use Rattle.sep_certificate.proofs.Grammar.{line_spelled, line_told_back, told_line}
use Rattle.sep_certificate.proofs.Sayings.{said}

-- ---- lines without a line feed or a carriage return
abbrev are_plain : List ℕ → Bool
are_plain [] = true
are_plain (b ∷ bytes) = (not (b == 10) && not (b == 13)) && are_plain bytes

plain_first : (s t u : Bool) → ((not s && not t) && u) ≡ true → (s ≡ false) × (t ≡ false) × (u ≡ true)
plain_first true t u e = cc
plain_first false true u e = cc
plain_first false false u e = (refl, refl, e)

no_feed : (bytes : List ℕ) → are_plain bytes ≡ true → All (λ b. (b == 10) ≡ false) bytes
no_feed [] e = λ k d inside. absurd (omega arith)
no_feed (b ∷ bytes) e =
    let told = plain_first (b == 10) (b == 13) (are_plain bytes) e in
    All-cons (λ b. (b == 10) ≡ false) b bytes told.0 (no_feed bytes told.2)

no_return : (bytes : List ℕ) (k : ℕ) → are_plain bytes ≡ true → (slice_index bytes k == 13) ≡ false
no_return [] k e = refl
no_return (b ∷ bytes) zero e = (plain_first (b == 10) (b == 13) (are_plain bytes) e).1
no_return (b ∷ bytes) (suc k) e = no_return bytes k (plain_first (b == 10) (b == 13) (are_plain bytes) e).2

-- a plain line with its line feed is the first line
first_plain : (line text : List ℕ) → are_plain line ≡ true → lines ((line ++ 10 ∷ []) ++ text) ≡ line ∷ lines text
first_plain line text plain =
    grind (arith, common_steps, cond, take, no_return, append_assoc, slice_split_at, no_feed, strip_first, length-slice_split)

plain_byte : (b : ℕ) → 14 ≤ b → ((b == 10) ≡ false) × ((b == 13) ≡ false)
plain_byte b above = (grind (arith, nat_tests), grind (arith, nat_tests))

plain_more : (b : ℕ) (bytes : List ℕ) → 14 ≤ b → are_plain bytes ≡ true → are_plain (b ∷ bytes) ≡ true
plain_more b bytes above plain = let told = plain_byte b above in rw (told.0, told.1) plain

node_plain : (b : Bool) (dir : ℕ) (rest : List ℕ) → are_plain rest ≡ true → are_plain (cond b ((97 + dir) ∷ []) ((48 + dir / 10) ∷ (48 + dir % 10) ∷ []) ++ rest) ≡ true
node_plain true dir rest plain = plain_more (97 + dir) rest (omega arith) plain
node_plain false dir rest plain = plain_more (48 + dir / 10) ((48 + dir % 10) ∷ rest) (omega arith) (plain_more (48 + dir % 10) rest (omega arith) plain)

tree_plain : (version : ℕ) (nodes : List Node) → are_plain (tree_line version nodes) ≡ true
tree_plain version [] = refl
tree_plain version (Split ∷ nodes) = tree_plain version nodes
tree_plain version (Leaf dir ∷ nodes) = node_plain (version == 1) dir (tree_line version nodes) (tree_plain version nodes)

depth_plain : (depth : ℕ) → are_plain (depth_line depth) ≡ true
depth_plain depth = plain_more (48 + depth) [] (omega arith) refl

-- the lines of written trees
tree_lines : (version : ℕ) (trees : List (List Node)) → lines (flat_map (λ nodes. fed (tree_line version nodes)) trees) ≡ map (tree_line version) trees
tree_lines version [] = refl
tree_lines version (nodes ∷ trees) =
    first_plain (tree_line version nodes) (flat_map (λ nodes. fed (tree_line version nodes)) trees) (tree_plain version nodes)
    ∙ ap (λ (ls : List (List ℕ)). tree_line version nodes ∷ ls) (tree_lines version trees)

-- the lines in front
depth_first : (depth : ℕ) (text : List ℕ) → lines ((fed (depth_line depth) ++ []) ++ text) ≡ depth_line depth ∷ lines text
depth_first depth text =
    ap (λ (bytes : List ℕ). lines (bytes ++ text)) (append-nil (fed (depth_line depth))) ∙ first_plain (depth_line depth) text (depth_plain depth)

head_first : (b : Bool) (depth : ℕ) (text : List ℕ) →
    lines (flat_map fed (cond b (depth_line depth ∷ []) (version_line ∷ depth_line depth ∷ [])) ++ text) ≡ cond b (depth_line depth ∷ []) (version_line ∷ depth_line depth ∷ []) ++ lines text
head_first true depth text = depth_first depth text
head_first false depth text = grind (arith, common_steps, append_assoc, first_plain, depth_first)

-- What is written says its certificate.
written : (cert : Certificate) → IsWhole cert → Says (text_of cert) cert
unfolding text_of
written cert whole = record {
  whole = whole;
  lines_are = head_first (cert.version == 1) cert.depth (flat_map (λ nodes. fed (tree_line cert.version nodes)) cert.trees)
      ∙ ap (λ (ls : List (List ℕ)). head_lines cert.version cert.depth ++ ls) (tree_lines cert.version cert.trees);
}

-- ---- no line is faulty
no_bad : (version n : ℕ) → IsVersion version → (trees : List (List Node)) → All IsTree trees → All (All (IsKnown (known_in version))) trees → bad_tree version n (map (tree_line version) trees) ≡ None
no_bad version n is [] whole known = refl
no_bad version n is (nodes ∷ trees) whole known =
    ap (λ (b : Bool). cond b (bad_tree version (suc n) (map (tree_line version) trees)) (Some n))
    (line_spelled version is nodes (All-head IsTree nodes trees whole) (All-head (All (IsKnown (known_in version))) nodes trees known))
    ∙ no_bad version (suc n) is trees (All-tail IsTree nodes trees whole) (All-tail (All (IsKnown (known_in version))) nodes trees known)

no_bad_from : (version n depth : ℕ) (more : List (List ℕ)) → depth ≤ 8 → bad_tree version (suc n) more ≡ None → bad_from version n (depth_line depth ∷ more) ≡ None
no_bad_from version n depth more small none = ap (λ (b : Bool). cond b (bad_tree version (suc n) more) (Some n)) (header_told depth small) ∙ none

-- A text that says a certificate has no faulty line.
clean : (text : List ℕ) (cert : Certificate) → Says text cert → bad_line (lines text) ≡ None
clean text cert says = grind (arith, common_steps, no_bad, no_bad_from)

-- ---- one certificate
trees_back : (back : List ℕ → List Node) (version : ℕ) → ((nodes : List Node) → back (tree_line version nodes) ≡ nodes) → (trees : List (List Node)) → map back (map (tree_line version) trees) ≡ trees
trees_back back version each [] = refl
trees_back back version each (nodes ∷ trees) =
    ap (λ (ns : List Node). ns ∷ map back (map (tree_line version) trees)) (each nodes) ∙ ap (λ (ts : List (List Node)). nodes ∷ ts) (trees_back back version each trees)

abbrev first_of : List (List ℕ) → List ℕ
first_of [] = []
first_of (line ∷ more) = line

abbrev others_of : List (List ℕ) → List (List ℕ)
others_of [] = []
others_of (line ∷ more) = more

digit_at : (depth : ℕ) → slice_index (depth_line depth) 12 ≡ 48 + depth
digit_at depth = refl

digits : (depth other : ℕ) → 48 + depth ≡ 48 + other → depth ≡ other
digits depth other same = omega (arith, same)

-- the lines from the one on that says the depth say one depth and one list of trees
same_lines : (back : List ℕ → List Node) (version : ℕ) → ((nodes : List Node) → back (tree_line version nodes) ≡ nodes) → (depth other : ℕ) (trees others : List (List Node)) →
    depth_line depth ∷ map (tree_line version) trees ≡ depth_line other ∷ map (tree_line version) others → (depth ≡ other) × (trees ≡ others)
same_lines back version each depth other trees others same = (
  digits depth other (sym (digit_at depth) ∙ ap (λ (ls : List (List ℕ)). slice_index (first_of ls) 12) same ∙ digit_at other),
  sym (trees_back back version each trees) ∙ ap (λ (ls : List (List ℕ)). map back (others_of ls)) same ∙ trees_back back version each others,
)

same_cert : (cert other : Certificate) → cert.version ≡ other.version → cert.depth ≡ other.depth → cert.trees ≡ other.trees → cert ≡ other
same_cert cert other version depth trees = grind (arith, common_steps)

-- a text of one version is none of the other
differ : (depth : ℕ) (more others : List (List ℕ)) → depth_line depth ∷ more ≡ version_line ∷ others → ⊥
differ depth more others same = grind (arith, common_steps, first_of)

-- the lines of two certificates
abbrev lines_by : ℕ → Certificate → List (List ℕ)
lines_by version cert = head_lines version cert.depth ++ map (tree_line version) cert.trees

by_versions : (v w : ℕ) (cert other : Certificate) → IsVersion v → IsVersion w → lines_by v cert ≡ lines_by w other → (v ≡ w) × (cert.depth ≡ other.depth) × (cert.trees ≡ other.trees)
by_versions v w cert other v_is w_is same = elim v_is [
  | inl e ↦ elim w_is [
    | inl f ↦
        let parts = same_lines (map node_of_byte) 1 all_back cert.depth other.depth cert.trees other.trees (rw (e, f) at same) in
        (e ∙ sym f, parts.0, parts.1)
    | inr f ↦ absurd (differ cert.depth (map (tree_line 1) cert.trees) (depth_line other.depth ∷ map (tree_line 2) other.trees) (rw (e, f) at same))
  ]
  | inr e ↦ elim w_is [
    | inl f ↦ absurd (differ other.depth (map (tree_line 1) other.trees) (depth_line cert.depth ∷ map (tree_line 2) cert.trees) (sym (rw (e, f) at same)))
    | inr f ↦
        let parts = same_lines wide_nodes 2 wide_back cert.depth other.depth cert.trees other.trees (ap others_of (rw (e, f) at same)) in
        (e ∙ sym f, parts.0, parts.1)
  ]
]

-- A text says one certificate alone.
one : (text : List ℕ) (cert other : Certificate) → Says text cert → Says text other → cert ≡ other
one text cert other says also =
    let parts = by_versions cert.version other.version cert other says.whole.version also.whole.version (sym says.lines_are ∙ also.lines_are) in
    same_cert cert other parts.0 parts.1 parts.2

pub texts : TextLaw
texts = record { tree = λ version line is. (told_line version line is, line_told_back version line is); written = written; clean = clean; said = said; one = one }
