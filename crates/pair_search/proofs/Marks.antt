-- A search that asks only whether a place has a direction finds trees of the same shape.
use Rattle.pair_search.proofs.Prelude.{common_steps, ◌≡◌, ℕ, zero, suc, ◌+◌, ◌≤◌, ◌<◌, ◌^◌, arith, refl, sym, ◌∙◌, ap, List, [], ◌∷◌, ◌++◌, length, length-append, Option, Some, None, is_none, true, false, cond, nat_lt, ℤ, Ok, is_some, option_map, option_or, Bez, Place, Clearance, direction_of, low_value, Level, Node, Split, Leaf, left_half, places_of, right_half, root, Tree, leaf, places_below, preorder, HasDirection, best_tree, blocked_place, first_direction, first_without, place_at, split_of, nodes_of, CountGives, marked, node_for}
use Rattle.pair_search.proofs.Halves.{first-there, left_has, right_has}
use Rattle.pair_search.proofs.Firsts.{position-none, position-there}
use Rattle.pair_search.proofs.Trees.{Has, IsWalk, work, size, begun, blocked_pending, ended, ended_pending, past, past_pending, less_pending}

-- ---- marks
module _ (first : Place → Option ℕ) where
  marked_without : (depth n k : ℕ) → first_without (λ index. marked first (place_at depth index)) n k ≡ first_without (λ index. first (place_at depth index)) n k
  marked_without depth zero k = refl
  marked_without depth (suc n) k = go (first (place_at depth k)) refl (marked_without depth n (suc k))
    where
      go : (o : Option ℕ) → first (place_at depth k) ≡ o →
          first_without (λ index. marked first (place_at depth index)) n (suc k) ≡ first_without (λ index. first (place_at depth index)) n (suc k) →
          first_without (λ index. marked first (place_at depth index)) (suc n) k ≡ first_without (λ index. first (place_at depth index)) (suc n) k
      go None e later = rw e refl
      go (Some dir) e later = rw e later

  -- the same part is blocked
  pub marked_blocked : (depth : ℕ) → blocked_place (marked first) depth ≡ blocked_place first depth
  unfolding blocked_place
  marked_blocked depth = marked_without depth (2 ^ depth) 0

  -- a place with a direction has a mark
  pub marked_has : (p : Place) → Has first p → Has (marked first) p
  marked_has p has = (0, ap (option_map (λ dir. 0)) has.1)

  pub has_marked : (p : Place) → Has (marked first) p → Has first p
  has_marked p has = go (first p) refl has.1
    where
      go : (o : Option ℕ) → first p ≡ o → option_map (λ dir. 0) o ≡ Some has.0 → Has first p
      go None e f = absurd (cc)
      go (Some dir) e f = (dir, e)

-- ---- the sizes of trees
abbrev sized : Option Tree → Option ℕ
sized o = option_map (λ (t : Tree). length (preorder t)) o

-- the size of a split
abbrev both : Option ℕ → Option ℕ → Option ℕ
both None right = None
both (Some a) None = None
both (Some a) (Some b) = Some (suc (a + b))

split_size : (left right : Option Tree) → sized (split_of left right) ≡ both (sized left) (sized right)
split_size None right = refl
split_size (Some left) None = refl
split_size (Some left) (Some right) = ap (λ (n : ℕ). Some (suc n)) (length-append (preorder left) (preorder right))

same_both : {a b c d : Option ℕ} → a ≡ c → b ≡ d → both a b ≡ both c d
same_both p q = rw (p, q) refl

either_size : (o : Option ℕ) (left right other_left other_right : Option Tree) → sized left ≡ sized other_left → sized right ≡ sized other_right →
    sized (option_or (option_map leaf (option_map (λ dir. 0) o)) (split_of left right)) ≡ sized (option_or (option_map leaf o) (split_of other_left other_right))
either_size None left right other_left other_right p q = split_size left right ∙ same_both p q ∙ sym (split_size other_left other_right)
either_size (Some dir) left right other_left other_right p q = refl

leaf_size : (o : Option ℕ) → sized (option_map leaf (option_map (λ dir. 0) o)) ≡ sized (option_map leaf o)
leaf_size None = refl
leaf_size (Some dir) = refl

-- the best trees by marks have as many nodes
pub marked_size : (first : Place → Option ℕ) (n : ℕ) (p : Place) → sized (best_tree (marked first) n p) ≡ sized (best_tree first n p)
marked_size first zero p = leaf_size (first p)
marked_size first (suc n) p =
    either_size (first p) (best_tree (marked first) n (left_half p)) (best_tree (marked first) n (right_half p)) (best_tree first n (left_half p)) (best_tree first n (right_half p))
    (marked_size first n (left_half p)) (marked_size first n (right_half p))

size_told : (o other : Option Tree) (nodes : List Node) → option_map preorder o ≡ Some nodes → sized o ≡ sized other → length nodes ≡ length (nodes_of other)
size_told None other nodes is same = absurd (cc)
size_told (Some tree) None nodes is same = absurd (cc)
size_told (Some tree) (Some other) nodes is same = grind (arith, common_steps)

-- ---- the walk by marks
-- the state of a walk that counts its nodes: so many, and at most 511 in all
pub record IsCount (first : Place → Option ℕ) (depth : ℕ) (places : List Place) (count : ℕ) : Type 0 where
  pub nodes : List Node
  pub walk : IsWalk (marked first) depth places nodes
  pub counted : count ≡ length nodes
  pub room : count + work depth places ≤ 511

size_at : (n : ℕ) → n ≤ 8 → size n ≤ 511
size_at zero few = omega arith
size_at (suc zero) few = omega arith
size_at (suc (suc zero)) few = omega arith
size_at (suc (suc (suc zero))) few = omega arith
size_at (suc (suc (suc (suc zero)))) few = omega arith
size_at (suc (suc (suc (suc (suc zero))))) few = omega arith
size_at (suc (suc (suc (suc (suc (suc zero)))))) few = omega arith
size_at (suc (suc (suc (suc (suc (suc (suc zero))))))) few = omega arith
size_at (suc (suc (suc (suc (suc (suc (suc (suc zero)))))))) few = omega arith
size_at (suc (suc (suc (suc (suc (suc (suc (suc (suc n))))))))) few = absurd (omega arith)

-- at the beginning
pub count_begun : (first : Place → Option ℕ) (depth : ℕ) (stack : List Level) → depth ≤ 8 → places_of stack ≡ root ∷ [] → IsWalk (marked first) depth (root ∷ []) [] → IsCount first depth (places_of stack) 0
count_begun first depth stack few is begun = grind (arith, common_steps, begun, size_at)

-- past a node
pub count_past : (first : Place → Option ℕ) (depth : ℕ) → ((p : Place) → Has first p → Has first (left_half p)) → ((p : Place) → Has first p → Has first (right_half p)) →
    (stack rest next : List Level) (level : Level) (count more : ℕ) (node : Node) → stack ≡ level ∷ rest → node_for (marked first) depth level.place ≡ Some node →
    places_of next ≡ places_below level.place node ++ places_of rest → more ≡ count + 1 → IsCount first depth (places_of stack) count → IsCount first depth (places_of next) more
count_past first depth left_has right_has stack rest next level count more node is found places more_is state =
    let less : work depth (places_of next) < work depth (places_of stack) = less_pending (marked first) depth stack rest next level node is found places in
    record {
      nodes = state.nodes ++ node ∷ [];
      walk = past_pending (marked first) depth
          (λ p has. marked_has first (left_half p) (left_has p (has_marked first p has))) (λ p has. marked_has first (right_half p) (right_has p (has_marked first p has)))
          stack rest next level state.nodes (state.nodes ++ node ∷ []) node is found places refl state.walk;
      counted = omega (arith, more_is, state.counted, length-append state.nodes (node ∷ []));
      room = omega (arith, more_is, state.room, less);
    }

-- a part without a node is the first one that is blocked
pub count_blocked : (first : Place → Option ℕ) (depth : ℕ) (stack rest : List Level) (level : Level) (count : ℕ) → stack ≡ level ∷ rest → level.place.index < 2 ^ level.place.depth →
    node_for (marked first) depth level.place ≡ None → IsCount first depth (places_of stack) count → blocked_place first depth ≡ Some level.place.index
count_blocked first depth stack rest level count is inside found state =
    sym (marked_blocked first depth) ∙ blocked_pending (marked first) depth stack rest level state.nodes is inside found state.walk

-- at the end
pub count_ended : (first : Place → Option ℕ) (depth : ℕ) (stack : List Level) (count : ℕ) → stack ≡ [] → IsCount first depth (places_of stack) count →
    (blocked_place first depth ≡ None) × (count ≡ length (nodes_of (best_tree first depth root)))
count_ended first depth stack count is state =
    let told = ended_pending (marked first) depth stack state.nodes is state.walk in (
      sym (marked_blocked first depth) ∙ told.0,
      state.counted ∙ size_told (best_tree (marked first) depth root) (best_tree first depth root) state.nodes told.1 (marked_size first depth root),
    )

-- ---- whether there is a direction
module _ (c : Clearance) (diff : List (Bez 8)) (dirs : List (List ℤ)) (place : Place) where
  -- one that separates the place is there
  pub some_there : (dir : ℕ) → dir < length dirs → is_none (low_value c diff place (direction_of dirs dir)) ≡ true → true ≡ is_some (first_direction c diff dirs place)
  unfolding first_direction
  some_there dir inside passes =
      let found = position-there (λ n. is_none (low_value c diff place n)) dirs dir [] inside passes in
      rw (found.1) refl

  -- where none does, none is there
  pub none_there : ((dir : ℕ) → dir < length dirs → is_none (low_value c diff place (direction_of dirs dir)) ≡ false) → false ≡ is_some (first_direction c diff dirs place)
  unfolding first_direction
  none_there fails = rw (position-none (λ n. is_none (low_value c diff place n)) dirs [] fails) refl

-- ---- a whole cue that some direction separates
-- one that separates it gives a first one
pub has_there : (c : Clearance) (diff : List (Bez 8)) (dirs : List (List ℤ)) (dir : ℕ) → dir < length dirs → is_none (low_value c diff root (direction_of dirs dir)) ≡ true → Has (first_direction c diff dirs) root
unfolding first_direction
has_there c diff dirs dir inside passes = position-there (λ n. is_none (low_value c diff root n)) dirs dir [] inside passes

-- its tree has one node
pub has_counted : (c : Clearance) (diff : List (Bez 8)) (dirs : List (List ℤ)) (depth : ℕ) → Has (first_direction c diff dirs) root → CountGives (first_direction c diff dirs) depth (Ok 1)
has_counted c diff dirs depth has =
    let first : Place → Option ℕ = first_direction c diff dirs in
    let node : node_for first depth root ≡ Some (Leaf has.0) = ap (λ (o : Option ℕ). option_or (option_map Leaf o) (cond (nat_lt 0 depth) (Some Split) None)) has.1 in
    let told = ended first depth (Leaf has.0 ∷ [])
    (past first depth (left_has c diff dirs) (right_has c diff dirs) root [] [] (Leaf has.0) node (begun first depth)) in
    (told.0, size_told (best_tree first depth root) (best_tree first depth root) (Leaf has.0 ∷ []) told.1 refl)

pub root_counted : (c : Clearance) (diff : List (Bez 8)) (dirs : List (List ℤ)) (depth : ℕ) → HasDirection c diff dirs root → CountGives (first_direction c diff dirs) depth (Ok 1)
root_counted c diff dirs depth some = has_counted c diff dirs depth (first-there c diff dirs root some.0 some.1 some.2)
