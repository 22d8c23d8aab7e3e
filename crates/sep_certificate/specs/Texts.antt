-- The text of a certificate.
use Rattle.std.specs.Prelude.{◌≡◌, ℕ, suc, ◌+◌, ◌-◌, ◌*◌, Bool, ◌&&◌, nat_le, nat_lt, ◌==◌, bytes_eq, List, [], ◌∷◌}
use Rattle.std.specs.Prelude.{◌++◌, map, flat_map, slice_index, All, Option, Some, None, codes, if◌then◌else◌}
use Rattle.std.specs.Option.{is_some, option_flatten, option_map}
use Rattle.std.specs.Str.Lines.{lines}
use Rattle.sep_parts.specs.Versions.{direction_word, known_in}
use Rattle.sep_parts.specs.declared.node.Node.{Node}
use Rattle.sep_parts.specs.declared.node.Node.TheVariants.{Split, Leaf}
use Rattle.sep_certificate.specs.declared.certificate.Certificate.{Certificate}
use Rattle.sep_certificate.specs.Certificates.{IsWhole}
use Rattle.sep_parts.specs.Trees.{IsKnown, Tree, preorder, spelled_tree}

-- `.` is a split, and a leaf is the word of its direction in the version: a letter in version 1, two digits in version
-- 2
abbrev pub node_text : ℕ → Node → List ℕ
node_text version Split = 46 ∷ []
node_text version (Leaf dir) = direction_word version dir

-- the line of a tree
abbrev pub tree_line : ℕ → List Node → List ℕ
tree_line version nodes = flat_map (node_text version) nodes

-- the line that says version 2
abbrev pub version_line : List ℕ
version_line = codes "version 2"

-- the line that says the depth
abbrev pub depth_line : ℕ → List ℕ
depth_line depth = codes "certificate " ++ (48 + depth) ∷ []

-- the lines in front of the trees: version 1 says its depth alone
abbrev pub head_lines : ℕ → ℕ → List (List ℕ)
head_lines version depth = if version == 1 then depth_line depth ∷ [] else version_line ∷ depth_line depth ∷ []

-- a line with its line feed
abbrev pub fed : List ℕ → List ℕ
fed line = line ++ 10 ∷ []

-- the text that is written
unfoldable pub text_of : Certificate → List ℕ
text_of cert =
    flat_map fed (head_lines cert.version cert.depth)
    ++ flat_map (λ nodes. fed (tree_line cert.version nodes)) cert.trees

-- The text says the certificate: its lines are those in front and a line for each tree.
pub record Says (text : List ℕ) (cert : Certificate) : Type 0 where
  pub whole : IsWhole cert
  pub lines_are : lines text ≡ head_lines cert.version cert.depth ++ map (tree_line cert.version) cert.trees

-- ---- faulty lines
abbrev pub is_letter : ℕ → Bool
is_letter b = nat_le 97 b && nat_le b 122

-- the nodes that the bytes of a line of version 1 spell: `.` is a split, and a letter a leaf with the direction of
-- its number
abbrev pub letter_nodes : List ℕ → Option (List Node)
letter_nodes [] = Some []
letter_nodes (b ∷ bytes) =
    if b == 46 then option_map (λ nodes. Split ∷ nodes) (letter_nodes bytes)
    else if is_letter b then option_map (λ nodes. Leaf (b - 97) ∷ nodes) (letter_nodes bytes) else None

abbrev pub is_digit : ℕ → Bool
is_digit b = nat_le 48 b && nat_le b 57

-- the number that two digits are
abbrev pub two_digits : ℕ → ℕ → ℕ
two_digits b c = (b - 48) * 10 + (c - 48)

-- two digits that are a number below 98
abbrev pub is_wide_leaf : ℕ → ℕ → Bool
is_wide_leaf b c = is_digit b && is_digit c && nat_lt (two_digits b c) 98

-- the nodes that the bytes of a line of version 2 spell: `.` is a split, and two digits below 98 are a leaf
abbrev pub digit_nodes : List ℕ → Option (List Node)
digit_nodes [] = Some []
digit_nodes (b ∷ []) = if b == 46 then Some (Split ∷ []) else None
digit_nodes (b ∷ c ∷ bytes) =
    if b == 46 then option_map (λ nodes. Split ∷ nodes) (digit_nodes (c ∷ bytes))
    else if is_wide_leaf b c then option_map (λ nodes. Leaf (two_digits b c) ∷ nodes) (digit_nodes bytes) else None

-- the nodes that a line spells, by the version
abbrev pub line_nodes : ℕ → List ℕ → Option (List Node)
line_nodes version line = if version == 1 then letter_nodes line else digit_nodes line

-- Whether a line is one whole tree of the version: its bytes spell nodes, and these spell one tree.
unfoldable pub is_tree_line : ℕ → List ℕ → Bool
is_tree_line version line = is_some (option_flatten (option_map spelled_tree (line_nodes version line)))

-- The line is that of a tree whose leaves name directions of the version.
abbrev pub IsTreeLine : ℕ → List ℕ → Type 0
IsTreeLine version line =
    (tree : Tree) × (line ≡ tree_line version (preorder tree)) × All (IsKnown (known_in version)) (preorder tree)

-- the line says some depth from 0 to 8
abbrev pub is_depth_line : List ℕ → Bool
is_depth_line line =
    nat_le 48 (slice_index line 12) && nat_le (slice_index line 12) 56
    && bytes_eq line (depth_line (slice_index line 12 - 48))

-- the first line from number n on that isn't one whole tree
abbrev pub bad_tree : ℕ → ℕ → List (List ℕ) → Option ℕ
bad_tree version n [] = None
bad_tree version n (line ∷ more) = if is_tree_line version line then bad_tree version (suc n) more else Some n

-- the first faulty line from the one on that says the depth, whose number is n
abbrev pub bad_from : ℕ → ℕ → List (List ℕ) → Option ℕ
bad_from version n [] = Some n
bad_from version n (line ∷ more) = if is_depth_line line then bad_tree version (suc n) more else Some n

-- The first faulty line. A text whose first line is `version 2` is one of version 2; every other one, an empty one too,
-- is judged as one of version 1.
abbrev pub bad_line : List (List ℕ) → Option ℕ
bad_line [] = Some 1
bad_line (line ∷ more) = if bytes_eq line version_line then bad_from 2 2 more else bad_from 1 1 (line ∷ more)
