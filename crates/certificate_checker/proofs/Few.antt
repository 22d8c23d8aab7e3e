-- The numbers that are kept of a text are small: a byte adds at most two trees that are still to come, three lines and one whole tree.
use Rattle.certificate_checker.proofs.Prelude.{common_steps, ◌≡◌, ℕ, zero, suc, ◌+◌, ◌*◌, ◌≤◌, ◌==◌, Bool, true, false, cond, nat_lt, bytes_eq, arith, subst, List, [], ◌∷◌, length, ℤ, Option, Some, None, slice_index, ◌-◌, Clearance, Node, Split, Leaf, Rules, Raised, table_of, is_depth_line, is_digit, is_letter, is_wide_leaf, two_digits, version_line, Checking, Clear, DepthLine, Faulty, FirstLine, Judged, Reading, TreeLine, TreesRead, Wrong, byte_read, checked, checked_all, depth_read, digit_read, first_tree, fresh, letter_read, line_byte, line_read, node_read, rules_in, with_node, with_return, with_tree, AreFew, AreWithin, HasAtMost}

-- ---- trees
few_node : (rules : Rules) (dirs : List (List ℤ)) (curves : Raised) (most : ℕ) (j : Judged) (node : Node) → HasAtMost most j → HasAtMost most (with_node rules dirs curves j node)
few_node rules dirs curves most (Wrong fault) node few = tt
few_node rules dirs curves most (Clear slot places n) node few = grind (arith, common_steps, nat_lt, cond)

few_tree : (curves : Raised) (most : ℕ) (j : Judged) → HasAtMost most j → HasAtMost (suc most) (with_tree curves j)
few_tree curves most (Wrong fault) few = tt
few_tree curves most (Clear slot places n) few = grind (arith, common_steps, nat_lt, cond)

pub few_wider : (m n : ℕ) (j : Judged) → m ≤ n → HasAtMost m j → HasAtMost n j
few_wider m n (Wrong fault) less few = tt
few_wider m n (Clear slot places k) less few = omega (arith, less, few)

-- ---- lines
within_wider : (o l k o' l' k' : ℕ) (reading : Reading) → o ≤ o' → l ≤ l' → k ≤ k' → AreWithin o l k reading → AreWithin o' l' k' reading
within_wider o l k o' l' k' (FirstLine head) owed line trees within = tt
within_wider o l k o' l' k' (DepthLine head) owed line trees within = tt
within_wider o l k o' l' k' (Faulty n) owed line trees within = tt
within_wider o l k o' l' k' (TreeLine t) owed line trees (t_owed, t_line, t_trees) =
    (omega (arith, owed, t_owed), omega (arith, line, t_line), few_wider k k' t.judged trees t_trees)

pub few_within : (m n : ℕ) (reading : Reading) → m ≤ n → AreFew m reading → AreFew n reading
few_within m n reading less few =
    within_wider (1 + 2 * m) (1 + 3 * m) m (1 + 2 * n) (1 + 3 * n) n reading (omega (arith, less)) (omega (arith, less)) less few

module _ (clearance : Clearance) (curves : Raised) where
  -- a node after which this many trees are still to come
  within_node : (o l k : ℕ) (t : TreesRead) (node : Node) (owed : ℕ) → owed ≤ o → t.line ≤ l → HasAtMost k t.judged → AreWithin o l k (node_read clearance curves t node owed)
  within_node o l k t node owed few line trees = (few, line, few_node (rules_in clearance t) (table_of t.version) curves k t.judged node trees)

  within_letter : (o l k : ℕ) (t : TreesRead) (n b : ℕ) → n ≤ o → t.line ≤ l → HasAtMost k t.judged → AreWithin (suc o) l k (letter_read clearance curves t n b)
  within_letter o l k t zero b owed line trees = tt
  within_letter o l k t (suc n) b owed line trees = go (b == 46) (is_letter b)
    where
      go : (s u : Bool) → AreWithin (suc o) l k (cond s (node_read clearance curves t Split (suc (suc n))) (cond u (node_read clearance curves t (Leaf (b - 97)) n) (Faulty t.line)))
      go true u = within_node (suc o) l k t Split (suc (suc n)) (omega (arith, owed)) line trees
      go false true = within_node (suc o) l k t (Leaf (b - 97)) n (omega (arith, owed)) line trees
      go false false = tt

  within_digit : (o l k : ℕ) (t : TreesRead) (n : ℕ) (digit : Option ℕ) (b : ℕ) → n ≤ o → t.owed ≤ o → t.line ≤ l → HasAtMost k t.judged → AreWithin (suc o) l k (digit_read clearance curves t n digit b)
  within_digit o l k t zero digit b owed of_line line trees = tt
  within_digit o l k t (suc n) None b owed of_line line trees = go (b == 46) (is_digit b)
    where
      go : (s u : Bool) → AreWithin (suc o) l k (cond s (node_read clearance curves t Split (suc (suc n))) (cond u (TreeLine (record t { digit = Some b })) (Faulty t.line)))
      go true u = within_node (suc o) l k t Split (suc (suc n)) (omega (arith, owed)) line trees
      go false true = (omega (arith, of_line), line, trees)
      go false false = tt
  within_digit o l k t (suc n) (Some first) b owed of_line line trees = go (is_wide_leaf first b)
    where
      go : (s : Bool) → AreWithin (suc o) l k (cond s (node_read clearance curves t (Leaf (two_digits first b)) n) (Faulty t.line))
      go true = within_node (suc o) l k t (Leaf (two_digits first b)) n (omega (arith, owed)) line trees
      go false = tt

  within_byte : (o l k : ℕ) (reading : Reading) (b : ℕ) → AreWithin o l k reading → AreWithin (suc o) l k (byte_read clearance curves reading b)
  within_byte o l k (FirstLine head) b within = tt
  within_byte o l k (DepthLine head) b within = tt
  within_byte o l k (Faulty n) b within = tt
  within_byte o l k (TreeLine t) b (owed, line, trees) = go (t.version == 1)
    where
      go : (s : Bool) → AreWithin (suc o) l k (cond s (letter_read clearance curves t t.owed b) (digit_read clearance curves t t.owed t.digit b))
      go true = within_letter o l k t t.owed b owed line trees
      go false = within_digit o l k t t.owed t.digit b owed owed line trees

  pub within_return : (o l k : ℕ) (reading : Reading) (is_returned : Bool) → AreWithin o l k reading → AreWithin (suc o) l k (with_return clearance curves is_returned reading)
  within_return o l k reading true within = within_byte o l k reading 13 within
  within_return o l k reading false within = within_wider o l k (suc o) l k reading (omega arith) (omega arith) (omega arith) within

  within_depth : (o l k version n : ℕ) (head : List ℕ) → n ≤ 2 → AreWithin (suc o) (3 + l) k (depth_read version n head)
  within_depth o l k version n head small = go (is_depth_line head)
    where
      go : (s : Bool) → AreWithin (suc o) (3 + l) k (cond s (TreeLine (first_tree version (slice_index head 12 - 48) (suc n))) (Faulty n))
      go true = (omega arith, omega (arith, small), omega arith)
      go false = tt

  within_line : (o l k : ℕ) (reading : Reading) → AreWithin o l k reading → AreWithin (suc o) (3 + l) (suc k) (line_read curves reading)
  within_line o l k (DepthLine head) within = within_depth o l (suc k) 2 2 head (omega arith)
  within_line o l k (Faulty n) within = tt
  within_line o l k (FirstLine head) within = go (bytes_eq head version_line)
    where
      go : (s : Bool) → AreWithin (suc o) (3 + l) (suc k) (cond s (DepthLine []) (depth_read 1 1 head))
      go true = tt
      go false = within_depth o l (suc k) 1 1 head (omega arith)
  within_line o l k (TreeLine t) (owed, line, trees) = go (t.owed == 0)
    where
      go : (s : Bool) → AreWithin (suc o) (3 + l) (suc k) (cond s (TreeLine (record t { line = suc t.line; owed = 1; judged = with_tree curves t.judged })) (Faulty t.line))
      go true = (omega arith, omega (arith, line), few_tree curves k t.judged trees)
      go false = tt

  -- ---- the bytes of a text
  few_byte : (n : ℕ) (c : Checking) (b : ℕ) → AreFew n c.reading → AreFew (suc n) (line_byte clearance curves c b).reading
  few_byte n c b few = go (b == 13)
    where
      returned : AreWithin (suc (1 + 2 * n)) (1 + 3 * n) n (with_return clearance curves c.is_returned c.reading)
      returned = within_return (1 + 2 * n) (1 + 3 * n) n c.reading c.is_returned few

      go : (s : Bool) → AreFew (suc n) (cond {A = Checking} s (record { reading = with_return clearance curves c.is_returned c.reading; is_returned = true; is_begun = true })
          (record { reading = byte_read clearance curves (with_return clearance curves c.is_returned c.reading) b; is_returned = false; is_begun = true })).reading
      go true = within_wider (suc (1 + 2 * n)) (1 + 3 * n) n (1 + 2 * suc n) (1 + 3 * suc n) (suc n) (with_return clearance curves c.is_returned c.reading) (omega arith) (omega arith) (omega arith) returned
      go false =
          within_wider (suc (suc (1 + 2 * n))) (1 + 3 * n) n (1 + 2 * suc n) (1 + 3 * suc n) (suc n) (byte_read clearance curves (with_return clearance curves c.is_returned c.reading) b) (omega arith) (omega arith) (omega arith)
          (within_byte (suc (1 + 2 * n)) (1 + 3 * n) n (with_return clearance curves c.is_returned c.reading) b returned)

  few_more : (n : ℕ) (c : Checking) (b : ℕ) → AreFew n c.reading → AreFew (suc n) (checked clearance curves c b).reading
  few_more n c b few = go (b == 10)
    where
      go : (s : Bool) → AreFew (suc n) (cond {A = Checking} s (fresh (line_read curves c.reading)) (line_byte clearance curves c b)).reading
      go true =
          within_wider (suc (1 + 2 * n)) (3 + (1 + 3 * n)) (suc n) (1 + 2 * suc n) (1 + 3 * suc n) (suc n) (line_read curves c.reading) (omega arith) (omega arith) (omega arith)
          (within_line (1 + 2 * n) (1 + 3 * n) n c.reading few)
      go false = few_byte n c b few

  pub few_read : (bytes : List ℕ) (n : ℕ) (c : Checking) → AreFew n c.reading → AreFew (length bytes + n) (checked_all clearance curves c bytes).reading
  unfolding checked_all
  few_read [] n c few = let same : n ≡ length {A = ℕ} [] + n = omega arith in subst (λ (m : ℕ). AreFew m c.reading) same few
  few_read (b ∷ bytes) n c few =
      let same : length bytes + suc n ≡ length (b ∷ bytes) + n = omega arith in
      subst (λ (m : ℕ). AreFew m (checked_all clearance curves (checked clearance curves c b) bytes).reading) same (few_read bytes (suc n) (checked clearance curves c b) (few_more n c b few))
