-- The walk over the places of a tree: what is pending, what is done, and what is found at the end.
use Rattle.pair_search.proofs.Prelude.{common_steps, ◌≡◌, ℕ, zero, suc, ◌+◌, ◌-◌, ◌*◌, ◌^◌, ◌≤◌, ◌<◌, Bool, true, false, cond, nat_lt, arith, refl, sym, ◌∙◌, ap, subst, List, [], ◌∷◌, ◌++◌, append_assoc, append-nil, Option, Some, None, option_map, pow-suc, nat_tests, Place, Level, left_half, places_of, right_half, root, Node, Split, Leaf, Tree, leaf, preorder, places_below, best_tree, blocked_place, first_without, place_at, split_of, node_for}

-- something is given for the place
abbrev pub Has : (Place → Option ℕ) → Place → Type 0
Has first p = (dir : ℕ) × (first p ≡ Some dir)

-- the index of the first part of a place of index m, after n more halvings
abbrev pub start : ℕ → ℕ → ℕ
start zero m = m
start (suc n) m = start n (2 * m)

-- the places follow one on another, from the part b of the depth to the last
abbrev pub AreNext : ℕ → ℕ → List Place → Type 0
AreNext depth b [] = b ≡ 2 ^ depth
AreNext depth b (p ∷ ps) = (p.depth ≤ depth) × (b ≡ start (depth - p.depth) p.index) × AreNext depth (start (depth - p.depth) (p.index + 1)) ps

-- each part of the depth before b has a direction
abbrev pub AreDone : (Place → Option ℕ) → ℕ → ℕ → Type 0
AreDone first depth b = (j : ℕ) → j < b → Has first (place_at depth j)

-- a tree in front of nodes
abbrev joined : Option Tree → Option (List Node) → Option (List Node)
joined None nodes = None
joined (Some tree) None = None
joined (Some tree) (Some nodes) = Some (preorder tree ++ nodes)

-- the nodes of the best trees of places
abbrev forest : (Place → Option ℕ) → ℕ → List Place → Option (List Node)
forest first depth [] = Some []
forest first depth (p ∷ ps) = joined (best_tree first (depth - p.depth) p) (forest first depth ps)

-- nodes in front of others
abbrev behind : List Node → Option (List Node) → Option (List Node)
behind nodes rest = option_map (λ more. nodes ++ more) rest

-- The state of a walk: the places that are pending follow on the parts that are done, and the nodes so far with those of
-- the pending places are the nodes of the best tree.
pub record IsWalk (first : Place → Option ℕ) (depth : ℕ) (places : List Place) (nodes : List Node) : Type 0 where
  pub b : ℕ
  pub next : AreNext depth b places
  pub done : AreDone first depth b
  pub same : behind nodes (forest first depth places) ≡ option_map preorder (best_tree first depth root)

-- how many nodes a tree has at most, after n more halvings
abbrev pub size : ℕ → ℕ
size zero = 1
size (suc n) = suc (size n + size n)

-- how many nodes are left at most
abbrev pub work : ℕ → List Place → ℕ
work depth [] = 0
work depth (p ∷ ps) = size (depth - p.depth) + work depth ps

size-some : (n : ℕ) → 1 ≤ size n
size-some zero = omega arith
size-some (suc n) = omega arith

pub start-zero : (n : ℕ) → start n 0 ≡ 0
start-zero zero = refl
start-zero (suc n) = start-zero n

pub start-is : (n m : ℕ) → start n m ≡ 2 ^ n * m
start-is zero m = omega arith
start-is (suc n) m = start-is n (2 * m) ∙ rw (pow-suc 2 n) (twice (2 ^ n) m)
  where
    twice : (p m : ℕ) → p * (2 * m) ≡ p * 2 * m
    twice p m = grind arith

-- what a node is for
pub leaf_for : (first : Place → Option ℕ) (depth : ℕ) (p : Place) (dir : ℕ) → node_for first depth p ≡ Some (Leaf dir) → first p ≡ Some dir
leaf_for first depth p dir e = grind (arith, common_steps, nat_lt, cond)

pub split_for : (first : Place → Option ℕ) (depth : ℕ) (p : Place) → node_for first depth p ≡ Some Split → (first p ≡ None) × (p.depth < depth)
split_for first depth p e = grind (arith, common_steps, nat_lt, cond, nat_tests)

pub none_for : (first : Place → Option ℕ) (depth : ℕ) (p : Place) → node_for first depth p ≡ None → (first p ≡ None) × (depth ≤ p.depth)
none_for first depth p e = grind (arith, common_steps, nat_lt, cond, nat_tests)

-- ---- nodes
-- the best tree of a place with a direction is a leaf
best-leaf : (first : Place → Option ℕ) (n : ℕ) (p : Place) (dir : ℕ) → first p ≡ Some dir → best_tree first n p ≡ Some (leaf dir)
best-leaf first zero p dir e = rw e refl
best-leaf first (suc n) p dir e = rw e refl

best-split : (first : Place → Option ℕ) (n : ℕ) (p : Place) → first p ≡ None → best_tree first (suc n) p ≡ split_of (best_tree first n (left_half p)) (best_tree first n (right_half p))
best-split first n p e = rw e refl

leaf-behind : (nodes : List Node) (dir : ℕ) (rest : Option (List Node)) → behind nodes (joined (Some (leaf dir)) rest) ≡ behind (nodes ++ Leaf dir ∷ []) rest
leaf-behind nodes dir None = refl
leaf-behind nodes dir (Some more) = ap Some (sym (append_assoc nodes (Leaf dir ∷ []) more))

split-behind : (nodes : List Node) (left right : Option Tree) (rest : Option (List Node)) → behind nodes (joined (split_of left right) rest) ≡ behind (nodes ++ Split ∷ []) (joined left (joined right rest))
split-behind nodes None right rest = refl
split-behind nodes (Some left) None rest = refl
split-behind nodes (Some left) (Some right) None = refl
split-behind nodes (Some left) (Some right) (Some more) =
    ap Some (ap (λ (ns : List Node). nodes ++ Split ∷ ns) (append_assoc (preorder left) (preorder right) more) ∙ sym (append_assoc nodes (Split ∷ []) (preorder left ++ (preorder right ++ more))))

-- ---- the steps of a walk
module _ (first : Place → Option ℕ) (left_has : (p : Place) → Has first p → Has first (left_half p)) (right_has : (p : Place) → Has first p → Has first (right_half p)) where
  -- where a place has a direction, each of its parts has
  pub all_have : (n : ℕ) (p : Place) (j : ℕ) → Has first p → start n p.index ≤ j → j < start n (p.index + 1) → Has first (place_at (p.depth + n) j)
  all_have zero p j has from to =
      let same : p.index ≡ j = omega arith in
      let deep : p.depth ≡ p.depth + 0 = omega arith in
      subst (λ (i : ℕ). Has first (place_at (p.depth + 0) i)) same (subst (λ (d : ℕ). Has first (place_at d p.index)) deep has)
  all_have (suc n) p j has from to =
      let deep : p.depth + 1 + n ≡ p.depth + suc n = omega arith in
      let last : 2 * (p.index + 1) ≡ 2 * p.index + 1 + 1 = omega arith in
      let below : j < start n (2 * p.index + 1 + 1) = rw (← last) to in
      subst (λ (d : ℕ). Has first (place_at d j)) deep
      (either (nat_lt j (start n (2 * p.index + 1))) refl
      (λ before. all_have n (left_half p) j (left_has p has) from before)
      (λ behind. all_have n (right_half p) j (right_has p has) behind below))
    where
      either : (b : Bool) → nat_lt j (start n (2 * p.index + 1)) ≡ b → (j < start n (2 * p.index + 1) → Has first (place_at (p.depth + 1 + n) j)) →
          (start n (2 * p.index + 1) ≤ j → Has first (place_at (p.depth + 1 + n) j)) → Has first (place_at (p.depth + 1 + n) j)
      either true is left right = left (grind (arith, nat_tests))
      either false is left right = right (grind (arith, nat_tests))

module _ (first : Place → Option ℕ) (depth : ℕ) (left_has : (p : Place) → Has first p → Has first (left_half p)) (right_has : (p : Place) → Has first p → Has first (right_half p)) where
  -- past a leaf
  past_leaf : (p : Place) (ps : List Place) (nodes : List Node) (dir : ℕ) → first p ≡ Some dir → IsWalk first depth (p ∷ ps) nodes → IsWalk first depth ps (nodes ++ Leaf dir ∷ [])
  past_leaf p ps nodes dir e walk = record {
    b = start (depth - p.depth) (p.index + 1);
    next = walk.next.2;
    done = λ j below. go j (nat_lt j walk.b) refl below;
    same = sym (leaf-behind nodes dir (forest first depth ps))
        ∙ ap (λ (o : Option Tree). behind nodes (joined o (forest first depth ps))) (sym (best-leaf first (depth - p.depth) p dir e)) ∙ walk.same;
  }
    where
      go : (j : ℕ) (b : Bool) → nat_lt j walk.b ≡ b → j < start (depth - p.depth) (p.index + 1) → Has first (place_at depth j)
      go j true is below = walk.done j (grind (arith, nat_tests))
      go j false is below =
          let from : start (depth - p.depth) p.index ≤ j = rw (← walk.next.1) (grind (arith, nat_tests)) in
          let deep : p.depth + (depth - p.depth) ≡ depth = omega (arith, walk.next.0) in
          subst (λ (d : ℕ). Has first (place_at d j)) deep (all_have first left_has right_has (depth - p.depth) p j (dir, e) from below)

  -- past a split
  past_split : (p : Place) (ps : List Place) (nodes : List Node) → first p ≡ None → p.depth < depth → IsWalk first depth (p ∷ ps) nodes → IsWalk first depth (left_half p ∷ right_half p ∷ ps) (nodes ++ Split ∷ [])
  past_split p ps nodes e shallow walk =
      let more : depth - p.depth ≡ suc (depth - (p.depth + 1)) = omega arith in
      let last : 2 * (p.index + 1) ≡ 2 * p.index + 1 + 1 = omega arith in
      record {
        b = walk.b;
        next = (
          omega arith,
          walk.next.1 ∙ ap (λ (n : ℕ). start n p.index) more,
          (
            omega arith,
            refl,
            subst (λ (m : ℕ). AreNext depth (start (depth - (p.depth + 1)) m) ps) last (subst (λ (n : ℕ). AreNext depth (start n (p.index + 1)) ps) more walk.next.2),
          ),
        );
        done = walk.done;
        same = sym (split-behind nodes (best_tree first (depth - (p.depth + 1)) (left_half p)) (best_tree first (depth - (p.depth + 1)) (right_half p)) (forest first depth ps))
            ∙ ap (λ (o : Option Tree). behind nodes (joined o (forest first depth ps))) (sym (best-split first (depth - (p.depth + 1)) p e) ∙ ap (λ (n : ℕ). best_tree first n p) (sym more)) ∙ walk.same;
      }

  -- past a node
  pub past : (p : Place) (ps : List Place) (nodes : List Node) (node : Node) → node_for first depth p ≡ Some node → IsWalk first depth (p ∷ ps) nodes → IsWalk first depth (places_below p node ++ ps) (nodes ++ node ∷ [])
  past p ps nodes Split is walk = past_split p ps nodes (split_for first depth p is).0 (split_for first depth p is).1 walk
  past p ps nodes (Leaf dir) is walk = past_leaf p ps nodes dir (leaf_for first depth p dir is) walk

-- the beginning of a walk
pub begun : (first : Place → Option ℕ) (depth : ℕ) → IsWalk first depth (root ∷ []) []
begun first depth = grind (arith, common_steps, start-zero, start-is, behind, joined, append-nil)

-- ---- the first part that is blocked
pub first_without-some : (f : ℕ → Option ℕ) (n k i : ℕ) → k ≤ i → i < k + n → f i ≡ None → ((j : ℕ) → j < i → (dir : ℕ) × (f j ≡ Some dir)) → first_without f n k ≡ Some i
first_without-some f zero k i from to none before = absurd (omega arith)
first_without-some f (suc n) k i from to none before = go (nat_lt k i) refl (λ less. first_without-some f n (suc k) i (omega arith) (omega arith) none before)
  where
    go : (b : Bool) → nat_lt k i ≡ b → (k < i → first_without f n (suc k) ≡ Some i) → first_without f (suc n) k ≡ Some i
    go true is later =
        let less : k < i = grind (arith, nat_tests) in
        rw ((before k less).1) (later less)
    go false is later =
        let same : k ≡ i = grind (arith, nat_tests) in
        rw (same, none) refl

pub first_without-none : (f : ℕ → Option ℕ) (n k : ℕ) → ((j : ℕ) → j < k + n → (dir : ℕ) × (f j ≡ Some dir)) → first_without f n k ≡ None
first_without-none f zero k all = refl
first_without-none f (suc n) k all = rw ((all k (omega arith)).1) (first_without-none f n (suc k) (λ j below. all j (omega arith)))

-- a place without a node is the first part that is blocked
pub blocked : (first : Place → Option ℕ) (depth : ℕ) (p : Place) (ps : List Place) (nodes : List Node) → p.index < 2 ^ p.depth → node_for first depth p ≡ None → IsWalk first depth (p ∷ ps) nodes → blocked_place first depth ≡ Some p.index
unfolding blocked_place
blocked first depth p ps nodes inside is walk =
    let told : (first p ≡ None) × (depth ≤ p.depth) = none_for first depth p is in
    let deep : p.depth ≡ depth = omega (arith, told.1, walk.next.0) in
    let none_left : depth - p.depth ≡ 0 = omega arith in
    let here : walk.b ≡ p.index = walk.next.1 ∙ ap (λ (n : ℕ). start n p.index) none_left in
    first_without-some (λ index. first (place_at depth index)) (2 ^ depth) 0 p.index (omega arith) (subst (λ (d : ℕ). p.index < 0 + 2 ^ d) deep (omega (arith, inside)))
    (subst (λ (d : ℕ). first (place_at d p.index) ≡ None) deep told.0)
    (λ j below. walk.done j (rw here below))

-- the end of a walk
pub ended : (first : Place → Option ℕ) (depth : ℕ) (nodes : List Node) → IsWalk first depth [] nodes →
    (blocked_place first depth ≡ None) × (option_map preorder (best_tree first depth root) ≡ Some nodes)
unfolding blocked_place
ended first depth nodes walk = grind (arith, common_steps, first_without-none, append-nil)

-- ---- the work that is left
pub less_work : (first : Place → Option ℕ) (depth : ℕ) (p : Place) (ps : List Place) (node : Node) → node_for first depth p ≡ Some node → work depth (places_below p node ++ ps) < work depth (p ∷ ps)
less_work first depth p ps Split is =
    let shallow : p.depth < depth = (split_for first depth p is).1 in
    let more : depth - p.depth ≡ suc (depth - (p.depth + 1)) = omega arith in
    rw more (omega arith)
less_work first depth p ps (Leaf dir) is = omega (arith, size-some (depth - p.depth))

-- ---- the same, of the levels of a stack
pub past_pending : (first : Place → Option ℕ) (depth : ℕ) → ((p : Place) → Has first p → Has first (left_half p)) → ((p : Place) → Has first p → Has first (right_half p)) →
    (stack rest next : List Level) (level : Level) (nodes more : List Node) (node : Node) → stack ≡ level ∷ rest → node_for first depth level.place ≡ Some node →
    places_of next ≡ places_below level.place node ++ places_of rest → more ≡ nodes ++ node ∷ [] → IsWalk first depth (places_of stack) nodes → IsWalk first depth (places_of next) more
past_pending first depth left_has right_has stack rest next level nodes more node is found places more_is walk =
    rw (places, more_is) (past first depth left_has right_has level.place (places_of rest) nodes node found (subst (λ (s : List Level). IsWalk first depth (places_of s) nodes) is walk))

pub less_pending : (first : Place → Option ℕ) (depth : ℕ) (stack rest next : List Level) (level : Level) (node : Node) → stack ≡ level ∷ rest → node_for first depth level.place ≡ Some node →
    places_of next ≡ places_below level.place node ++ places_of rest → work depth (places_of next) < work depth (places_of stack)
less_pending first depth stack rest next level node is found places = rw (places, is) (less_work first depth level.place (places_of rest) node found)

pub blocked_pending : (first : Place → Option ℕ) (depth : ℕ) (stack rest : List Level) (level : Level) (nodes : List Node) → stack ≡ level ∷ rest → level.place.index < 2 ^ level.place.depth →
    node_for first depth level.place ≡ None → IsWalk first depth (places_of stack) nodes → blocked_place first depth ≡ Some level.place.index
blocked_pending first depth stack rest level nodes is inside found walk =
    blocked first depth level.place (places_of rest) nodes inside found (subst (λ (s : List Level). IsWalk first depth (places_of s) nodes) is walk)

pub ended_pending : (first : Place → Option ℕ) (depth : ℕ) (stack : List Level) (nodes : List Node) → stack ≡ [] → IsWalk first depth (places_of stack) nodes →
    (blocked_place first depth ≡ None) × (option_map preorder (best_tree first depth root) ≡ Some nodes)
ended_pending first depth stack nodes is walk = ended first depth nodes (subst (λ (s : List Level). IsWalk first depth (places_of s) nodes) is walk)
