-- A text without a faulty line says a certificate.
use Rattle.sep_certificate.proofs.Prelude.{common_steps, ◌≡◌, inl, inr, ℕ, suc, ◌+◌, ◌^◌, ◌≤◌, ◌<◌, Bool, true, false, cond, ◌==◌, arith, refl, ◌∙◌, ap, List, [], ◌∷◌, length, map, Some, None, All, slice_split, bytes_eq, lines, lines_of_parts, length-map, length-slice_split, All-nil, All-cons, IsVersion, known_in, IsKnown, IsTree, preorder, Node, Certificate, Says, bad_from, bad_line, bad_tree, depth_line, is_tree_line, tree_line, version_line}
use Rattle.std.proofs.lemmas.List.Sums.{count_by-le-length}
use Rattle.sep_certificate.proofs.Grammar.{told_line}
use Rattle.sep_certificate.proofs.Readers.{header_from, same_told}

-- what lines are that say trees of a version
record AreTrees (version : ℕ) (ls : List (List ℕ)) (trees : List (List Node)) : Type 0 where
  lines_are : ls ≡ map (tree_line version) trees
  whole : All IsTree trees
  known : All (All (IsKnown (known_in version))) trees

trees_said : (version n : ℕ) → IsVersion version → (ls : List (List ℕ)) → bad_tree version n ls ≡ None → (trees : List (List Node)) × AreTrees version ls trees
trees_said version n is [] e = ([], record { lines_are = refl; whole = All-nil IsTree; known = All-nil (All (IsKnown (known_in version))) })
trees_said version n is (line ∷ more) e = go (is_tree_line version line) refl e (trees_said version (suc n) is more)
  where
    go : (s : Bool) → is_tree_line version line ≡ s → cond s (bad_tree version (suc n) more) (Some n) ≡ None →
        (bad_tree version (suc n) more ≡ None → (trees : List (List Node)) × AreTrees version more trees) → (trees : List (List Node)) × AreTrees version (line ∷ more) trees
    go true p e later =
        let here = told_line version line is p in
        let rest = later e in (
          preorder here.0 ∷ rest.0,
          record {
            lines_are = ap (λ (l : List ℕ). l ∷ more) here.1 ∙ ap (λ (ls : List (List ℕ)). tree_line version (preorder here.0) ∷ ls) rest.1.lines_are;
            whole = All-cons IsTree (preorder here.0) rest.0 (here.0, refl) rest.1.whole;
            known = All-cons (All (IsKnown (known_in version))) (preorder here.0) rest.0 here.2 rest.1.known;
          },
        )
    go false p e later = cc

-- what lines are that say a depth and then trees
record AreBody (version : ℕ) (ls : List (List ℕ)) (depth : ℕ) (trees : List (List Node)) : Type 0 where
  small : depth ≤ 8
  lines_are : ls ≡ depth_line depth ∷ map (tree_line version) trees
  whole : All IsTree trees
  known : All (All (IsKnown (known_in version))) trees

body_said : (version n : ℕ) → IsVersion version → (ls : List (List ℕ)) → bad_from version n ls ≡ None → (depth : ℕ) × (trees : List (List Node)) × AreBody version ls depth trees
body_said version n is [] e = cc
body_said version n is (line ∷ more) e = grind (arith, common_steps, cond, header_from, trees_said)

-- the certificate of these lines has no more trees than there are lines
count_trees : (version depth : ℕ) (ls : List (List ℕ)) (trees : List (List Node)) → ls ≡ depth_line depth ∷ map (tree_line version) trees → length trees < length ls
count_trees version depth ls trees is = grind (arith, common_steps, length-map)

-- a text has at most one line more than bytes
parts_few : (parts : List (List ℕ)) → length (lines_of_parts parts) ≤ length parts
parts_few [] = omega arith
parts_few (x ∷ []) = grind (arith, common_steps, cond)
parts_few (x ∷ y ∷ more) = omega (arith, parts_few (y ∷ more))

lines_few : (text : List ℕ) → length (lines text) ≤ length text + 1
lines_few text =
    omega (arith, parts_few (slice_split (λ b. b == 10) text), length-slice_split (λ b. b == 10) text, count_by-le-length (λ b. b == 10) text)

-- A text of fewer than 2^30 bytes without a faulty line says a certificate.
pub said : (text : List ℕ) → length text < 2 ^ 30 → bad_line (lines text) ≡ None → (cert : Certificate) × Says text cert
said text short none = go (lines text) refl (omega (arith, lines_few text, short)) none
  where
    old : (ls : List (List ℕ)) → lines text ≡ ls → length ls < 2 ^ 31 → bad_from 1 1 ls ≡ None → (cert : Certificate) × Says text cert
    old ls are few none =
        let body = body_said 1 1 (inl refl) ls none in
        let count : length body.1 < length ls = count_trees 1 body.0 ls body.1 body.2.lines_are in (
          record { version = 1; depth = body.0; trees = body.1 },
          record {
            whole = record {
              version = inl refl;
              whole = record { depth = body.2.small; few = omega (arith, count, few); trees = body.2.whole; leaves = body.2.known };
            };
            lines_are = are ∙ body.2.lines_are;
          },
        )

    new : (more : List (List ℕ)) → lines text ≡ version_line ∷ more → length more < 2 ^ 31 → bad_from 2 2 more ≡ None → (cert : Certificate) × Says text cert
    new more are few none =
        let body = body_said 2 2 (inr refl) more none in
        let count : length body.1 < length more = count_trees 2 body.0 more body.1 body.2.lines_are in (
          record { version = 2; depth = body.0; trees = body.1 },
          record {
            whole = record {
              version = inr refl;
              whole = record { depth = body.2.small; few = omega (arith, count, few); trees = body.2.whole; leaves = body.2.known };
            };
            lines_are = are ∙ ap (λ (ls : List (List ℕ)). version_line ∷ ls) body.2.lines_are;
          },
        )

    go : (ls : List (List ℕ)) → lines text ≡ ls → length ls < 2 ^ 31 → bad_line ls ≡ None → (cert : Certificate) × Says text cert
    go [] are few none = cc
    go (line ∷ more) are few none = by_first (bytes_eq line version_line) refl none
      where
        by_first : (s : Bool) → bytes_eq line version_line ≡ s → cond s (bad_from 2 2 more) (bad_from 1 1 (line ∷ more)) ≡ None → (cert : Certificate) × Says text cert
        by_first true p none = new more (are ∙ ap (λ (l : List ℕ). l ∷ more) (same_told line version_line p)) (omega (arith, few)) none
        by_first false p none = old (line ∷ more) are few none
