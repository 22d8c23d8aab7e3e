-- Bytes that spell trees.
use Rattle.sep_certificate.proofs.Prelude.{common_steps, ◌≡◌, ℕ, zero, suc, ◌+◌, ◌-◌, ◌≤◌, ◌<◌, Bool, true, false, cond, ◌==◌, nat_le, arith, refl, sym, ◌∙◌, ap, List, [], ◌∷◌, ◌++◌, append_assoc, append-nil, map, All, nat_tests, All-cons, Node, Split, Leaf, Tree, IsTree, IsKnown, preorder, leaf, split, is_spelled, node_of_byte, is_letter, tree_line}

letter_tests : (b : ℕ) → 97 ≤ b → b ≤ 122 → ((b == 46) ≡ false) × (nat_le 97 b ≡ true) × (nat_le b 122 ≡ true)
letter_tests b low high = (grind (arith, nat_tests), grind (arith, nat_tests), grind (arith, nat_tests))

pub letter_is : (dir : ℕ) → dir < 26 → is_letter (97 + dir) ≡ true
letter_is dir small = let tests = letter_tests (97 + dir) (omega arith) (omega arith) in rw (tests.1, tests.2) refl

pub leaf_test : (n b : ℕ) (rest : List ℕ) → 97 ≤ b → b ≤ 122 → is_spelled (suc n) (b ∷ rest) ≡ is_spelled n rest
leaf_test n b rest low high = let tests = letter_tests b low high in rw (tests.0, tests.1, tests.2) refl

-- ---- what bytes that pass spell
-- the nodes are this many trees, one after the other
abbrev pub IsForest : ℕ → List Node → Type 0
IsForest zero nodes = nodes ≡ []
IsForest (suc n) nodes = (tree : Tree) × (rest : List Node) × (nodes ≡ preorder tree ++ rest) × IsForest n rest

pub two_in_one : (n : ℕ) (nodes : List Node) → IsForest (suc (suc n)) nodes → IsForest (suc n) (Split ∷ nodes)
two_in_one n nodes (left, rest, is, (right, more, rest_is, forest)) = (
  split left right,
  more,
  ap (λ (ns : List Node). Split ∷ ns) (is ∙ ap (λ (ns : List Node). preorder left ++ ns) rest_is ∙ sym (append_assoc (preorder left) (preorder right) more)),
  forest,
)

-- the nodes that bytes spell as this many trees
abbrev IsSpelling : ℕ → List ℕ → Type 0
IsSpelling n line = (nodes : List Node) × (line ≡ tree_line 1 nodes) × IsForest n nodes × All (IsKnown 26) nodes

pub letter_told : (b : ℕ) → is_letter b ≡ true → (97 ≤ b) × (b ≤ 122)
letter_told b e = grind (arith, common_steps, nat_le, nat_tests)

pub dot_told : (b : ℕ) → (b == 46) ≡ true → b ≡ 46
dot_told b e = grind (arith, nat_tests)

dot_first : (n b : ℕ) (bytes : List ℕ) → b ≡ 46 → IsSpelling (suc (suc n)) bytes → IsSpelling (suc n) (b ∷ bytes)
dot_first n b bytes e (nodes, is, forest, known) = (Split ∷ nodes, cc, two_in_one n nodes forest, All-cons (IsKnown 26) Split nodes tt known)

leaf_first : (n b : ℕ) (bytes : List ℕ) → 97 ≤ b → b ≤ 122 → IsSpelling n bytes → IsSpelling (suc n) (b ∷ bytes)
leaf_first n b bytes low high (nodes, is, forest, known) =
    let e : b ≡ 97 + (b - 97) = omega arith in
    (Leaf (b - 97) ∷ nodes, cc, (leaf (b - 97), nodes, refl, forest), All-cons (IsKnown 26) (Leaf (b - 97)) nodes (omega arith) known)

pub forest_of : (line : List ℕ) (n : ℕ) → is_spelled n line ≡ true → IsSpelling n line
forest_of [] zero e = ([], refl, refl, λ k d inside. absurd (omega arith))
forest_of [] (suc n) e = absurd (cc)
forest_of (b ∷ bytes) zero e = absurd (cc)
forest_of (b ∷ bytes) (suc n) e = go (b == 46) (is_letter b) refl refl e (forest_of bytes (suc (suc n))) (forest_of bytes n)
  where
    go : (s t : Bool) → (b == 46) ≡ s → is_letter b ≡ t → cond s (is_spelled (suc (suc n)) bytes) (cond t (is_spelled n bytes) false) ≡ true →
        (is_spelled (suc (suc n)) bytes ≡ true → IsSpelling (suc (suc n)) bytes) → (is_spelled n bytes ≡ true → IsSpelling n bytes) → IsSpelling (suc n) (b ∷ bytes)
    go true t p q e two one = dot_first n b bytes (dot_told b p) (two e)
    go false true p q e two one = leaf_first n b bytes (letter_told b q).0 (letter_told b q).1 (one e)
    go false false p q e two one = absurd (cc)

-- a line that passes is one whole tree
pub tree_of_line : (line : List ℕ) → is_spelled 1 line ≡ true → (nodes : List Node) × (line ≡ tree_line 1 nodes) × IsTree nodes × All (IsKnown 26) nodes
tree_of_line line e = close (forest_of line 1 e)
  where
    close : IsSpelling 1 line → (nodes : List Node) × (line ≡ tree_line 1 nodes) × IsTree nodes × All (IsKnown 26) nodes
    close (nodes, is, (tree, rest, nodes_are, none), known) =
        (nodes, is, (tree, nodes_are ∙ ap (λ (ns : List Node). preorder tree ++ ns) none ∙ append-nil (preorder tree)), known)

-- ---- from bytes to nodes
back : (dir : ℕ) → node_of_byte (97 + dir) ≡ Leaf dir
back dir = let e : ((97 + dir) == 46) ≡ false = grind (arith, nat_tests) in let f : 97 + dir - 97 ≡ dir = omega arith in rw e (ap (λ (n : ℕ). Leaf n) f)

pub all_back : (nodes : List Node) → map node_of_byte (tree_line 1 nodes) ≡ nodes
all_back [] = refl
all_back (Split ∷ nodes) = ap (λ (ns : List Node). Split ∷ ns) (all_back nodes)
all_back (Leaf dir ∷ nodes) = two (back dir) (all_back nodes)
  where
    two : {x y : Node} {xs ys : List Node} → x ≡ y → xs ≡ ys → x ∷ xs ≡ y ∷ ys
    two {x} {y} {xs} {ys} p q = cc

-- the nodes of a line
pub line_told : (line : List ℕ) → is_spelled 1 line ≡ true → (line ≡ tree_line 1 (map node_of_byte line)) × IsTree (map node_of_byte line) × All (IsKnown 26) (map node_of_byte line)
line_told line e = grind (arith, common_steps, tree_of_line, all_back)
