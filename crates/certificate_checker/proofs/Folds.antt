-- The machine over lists: nodes, trees, the bytes of a line, lines.
use Rattle.certificate_checker.proofs.Prelude.{◌≡◌, ℕ, ◌==◌, cond, refl, List, [], ◌∷◌, ◌++◌, map, Option, ℤ, Clearance, Node, Rules, Raised, node_of_byte, wide_nodes, CertFault, Judged, Wrong, Reading, Faulty, TreesRead, byte_read, line_read, with_node, with_tree}

-- ---- nodes and trees
abbrev pub nodes_judged : Rules → List (List ℤ) → Raised → Judged → List Node → Judged
nodes_judged rules dirs curves j [] = j
nodes_judged rules dirs curves j (node ∷ nodes) = nodes_judged rules dirs curves (with_node rules dirs curves j node) nodes

abbrev pub trees_judged : Rules → List (List ℤ) → Raised → Judged → List (List Node) → Judged
trees_judged rules dirs curves j [] = j
trees_judged rules dirs curves j (nodes ∷ trees) = trees_judged rules dirs curves (with_tree curves (nodes_judged rules dirs curves j nodes)) trees

pub wrong_nodes : (rules : Rules) (dirs : List (List ℤ)) (curves : Raised) (f : CertFault) (nodes : List Node) → nodes_judged rules dirs curves (Wrong f) nodes ≡ Wrong f
wrong_nodes rules dirs curves f [] = refl
wrong_nodes rules dirs curves f (node ∷ nodes) = wrong_nodes rules dirs curves f nodes

pub wrong_trees : (rules : Rules) (dirs : List (List ℤ)) (curves : Raised) (f : CertFault) (trees : List (List Node)) → trees_judged rules dirs curves (Wrong f) trees ≡ Wrong f
wrong_trees rules dirs curves f [] = refl
wrong_trees rules dirs curves f (nodes ∷ trees) = rw (wrong_nodes rules dirs curves f nodes) (wrong_trees rules dirs curves f trees)

-- ---- bytes and lines
abbrev pub bytes_read : Clearance → Raised → Reading → List ℕ → Reading
bytes_read clearance curves reading [] = reading
bytes_read clearance curves reading (b ∷ bytes) = bytes_read clearance curves (byte_read clearance curves reading b) bytes

abbrev pub lines_read : Clearance → Raised → Reading → List (List ℕ) → Reading
lines_read clearance curves reading [] = reading
lines_read clearance curves reading (line ∷ more) = lines_read clearance curves (line_read curves (bytes_read clearance curves reading line)) more

pub faulty_bytes : (clearance : Clearance) (curves : Raised) (n : ℕ) (bytes : List ℕ) → bytes_read clearance curves (Faulty n) bytes ≡ Faulty n
faulty_bytes clearance curves n [] = refl
faulty_bytes clearance curves n (b ∷ bytes) = faulty_bytes clearance curves n bytes

pub faulty_lines : (clearance : Clearance) (curves : Raised) (n : ℕ) (more : List (List ℕ)) → lines_read clearance curves (Faulty n) more ≡ Faulty n
faulty_lines clearance curves n [] = refl
faulty_lines clearance curves n (line ∷ more) = rw (faulty_bytes clearance curves n line) (faulty_lines clearance curves n more)

pub bytes_more : (clearance : Clearance) (curves : Raised) (reading : Reading) (xs : List ℕ) (b : ℕ) →
    bytes_read clearance curves reading (xs ++ b ∷ []) ≡ byte_read clearance curves (bytes_read clearance curves reading xs) b
bytes_more clearance curves reading [] b = refl
bytes_more clearance curves reading (x ∷ xs) b = bytes_more clearance curves (byte_read clearance curves reading x) xs b

-- the nodes of a line, by the version
abbrev pub nodes_in : ℕ → List ℕ → List Node
nodes_in version line = cond (version == 1) (map node_of_byte line) (wide_nodes line)

-- in a line of a tree in which this many trees are still to come
abbrev pub line_at : ℕ → ℕ → ℕ → ℕ → Option ℕ → Judged → TreesRead
line_at version depth n owed digit j = record { version = version; depth = depth; line = n; owed = owed; digit = digit; judged = j }
