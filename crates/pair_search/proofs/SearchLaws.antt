-- The laws of a search.
use Rattle.pair_search.proofs.Prelude.{◌≡◌, ◌↔◌, ℕ, zero, suc, ◌+◌, ◌*◌, ◌^◌, ◌≤◌, ◌<◌, ℤ, Bool, true, false, nat_lt, arith, refl, sym, ◌∙◌, ap, subst, List, [], ◌∷◌, length, take, get_or, Option, Some, None, is_none, Result, Ok, Err, IfOk, option_map, option_or, nat_tests, position-Some, Bez, Place, Clearance, direction_of, threshold, Separates, least_value, low_value, part_along, left_half, right_half, root, first_low-none, first_low-values, Node, Tree, leaf, split, IsValidTree, Found, HasDirection, IsClear, best_tree, blocked_place, first_direction, first_without, place_at, split_of, WalkGives}
use Rattle.std.specs.declared.alloc.AllocError.{AllocError}
use Rattle.sep_parts.specs.declared.rules.Rules.{Rules}
use Rattle.pair_search.specs.declared.walk.Found.TheVariants.{Clear, Blocked}
use Rattle.pair_search.specs.Laws.{IsFirstBlocked, IsFirstDirection, IsLargest, SearchLaw, half_of, leaf_on, part_on}
use Rattle.pair_search.proofs.Firsts.{position-is}
use Rattle.pair_search.proofs.Trees.{Has, all_have, first_without-some, first_without-none, start, start-is, start-zero}
use Rattle.pair_search.proofs.Halves.{first-separates, first-there, left_has, right_has}

-- ---- the first direction
fails : (o : Option ℕ) → (o ≡ None → ⊥) → is_none o ≡ false
fails None e = absurd (e refl)
fails (Some k) e = refl

first_law : (c : Clearance) (diff : List (Bez 8)) (dirs : List (List ℤ)) (place : Place) (dir : ℕ) → (first_direction c diff dirs place ≡ Some dir) ↔ IsFirstDirection c diff dirs place dir
unfolding first_direction
first_law c diff dirs place dir = (
  λ e. record {
    inside = (first-separates c diff dirs place dir e).0;
    separates = (first-separates c diff dirs place dir e).1;
    none_before = λ k before separates. clash (is_none (low_value c diff place (get_or dirs k [])))
        ((position-Some (λ n. is_none (low_value c diff place n)) dirs dir [] e).2 k before)
        (ap is_none (first_low-none (part_along c.r c.h diff place (get_or dirs k [])) (least_value (threshold c (get_or dirs k [])) place.depth) separates));
  },
  λ is. position-is (λ n. is_none (low_value c diff place n)) dirs dir [] is.inside
      (λ k before. fails (low_value c diff place (get_or dirs k []))
      (λ none. is.none_before k before (first_low-values (part_along c.r c.h diff place (get_or dirs k [])) (least_value (threshold c (get_or dirs k [])) place.depth) none)))
      (ap is_none (first_low-none (part_along c.r c.h diff place (get_or dirs dir [])) (least_value (threshold c (get_or dirs dir [])) place.depth) is.separates)),
)
  where
    clash : (b : Bool) → b ≡ false → b ≡ true → ⊥
    clash true e f = cc
    clash false e f = cc

-- ---- the first part that is blocked
-- what the first number without something tells
abbrev Told : (ℕ → Option ℕ) → ℕ → ℕ → Option ℕ → Type 0
Told f n k None = (j : ℕ) → k ≤ j → j < k + n → (dir : ℕ) × (f j ≡ Some dir)
Told f n k (Some i) = (i < k + n) × (f i ≡ None) × ((j : ℕ) → k ≤ j → j < i → (dir : ℕ) × (f j ≡ Some dir))

told_more : (f : ℕ → Option ℕ) (n k dir : ℕ) (o : Option ℕ) → f k ≡ Some dir → Told f n (suc k) o → Told f (suc n) k o
told_more f n k dir None e told = λ j from to. go j from to (nat_lt k j) refl
  where
    go : (j : ℕ) → k ≤ j → j < k + suc n → (b : Bool) → nat_lt k j ≡ b → (dir : ℕ) × (f j ≡ Some dir)
    go j from to true is = told j (grind (arith, nat_tests)) (omega arith)
    go j from to false is = let same : j ≡ k = grind (arith, nat_tests) in (dir, ap f same ∙ e)
told_more f n k dir (Some i) e told = (omega (arith, told.0), told.1, λ j from to. go j to (nat_lt k j) refl from)
  where
    go : (j : ℕ) → j < i → (b : Bool) → nat_lt k j ≡ b → k ≤ j → (dir : ℕ) × (f j ≡ Some dir)
    go j to true is from = told.2 j (grind (arith, nat_tests)) to
    go j to false is from = let same : j ≡ k = grind (arith, nat_tests) in (dir, ap f same ∙ e)

first_without-told : (f : ℕ → Option ℕ) (n k : ℕ) → Told f n k (first_without f n k)
first_without-told f zero k = λ j from to. absurd (omega arith)
first_without-told f (suc n) k = go (f k) refl (first_without-told f n (suc k))
  where
    go : (o : Option ℕ) → f k ≡ o → Told f n (suc k) (first_without f n (suc k)) → Told f (suc n) k (first_without f (suc n) k)
    go None e told = rw e (omega arith, e, λ j from to. absurd (omega arith))
    go (Some dir) e told = rw e (told_more f n k dir (first_without f n (suc k)) e told)

module _ (c : Clearance) (diff : List (Bez 8)) (dirs : List (List ℤ)) (depth : ℕ) where
  first : Place → Option ℕ
  first = first_direction c diff dirs

  has_of : (place : Place) → HasDirection c diff dirs place → Has (first_direction c diff dirs) place
  has_of place has = first-there c diff dirs place has.0 has.1 has.2

  direction_there : (place : Place) → Has (first_direction c diff dirs) place → HasDirection c diff dirs place
  direction_there place has = (has.0, (first-separates c diff dirs place has.0 has.1).0, (first-separates c diff dirs place has.0 has.1).1)

  pub clear_law : (blocked_place (first_direction c diff dirs) depth ≡ None) ↔ IsClear c diff dirs depth
  unfolding blocked_place
  clear_law = (
    λ none index inside. direction_there (place_at depth index) (told none index (omega arith) (omega arith)),
    λ clear. first_without-none (λ index. first_direction c diff dirs (place_at depth index)) (2 ^ depth) 0 (λ j below. has_of (place_at depth j) (clear j (omega arith))),
  )
    where
      told : first_without (λ index. first_direction c diff dirs (place_at depth index)) (2 ^ depth) 0 ≡ None →
          Told (λ index. first_direction c diff dirs (place_at depth index)) (2 ^ depth) 0 None
      told none = rw none at (first_without-told (λ index. first_direction c diff dirs (place_at depth index)) (2 ^ depth) 0)

  pub blocked_law : (index : ℕ) → (blocked_place (first_direction c diff dirs) depth ≡ Some index) ↔ IsFirstBlocked c diff dirs depth index
  unfolding blocked_place
  blocked_law index = (
    λ some. record {
      inside = omega (arith, (told some).0);
      blocked = λ has. clash (first_direction c diff dirs (place_at depth index)) (has_of (place_at depth index) has) (told some).1;
      clear_before = λ k before. direction_there (place_at depth k) ((told some).2 k (omega arith) before);
    },
    λ is. first_without-some (λ index. first_direction c diff dirs (place_at depth index)) (2 ^ depth) 0 index (omega arith) (omega (arith, is.inside))
        (none_of (first_direction c diff dirs (place_at depth index)) refl is.blocked)
        (λ j before. has_of (place_at depth j) (is.clear_before j before)),
  )
    where
      told : first_without (λ index. first_direction c diff dirs (place_at depth index)) (2 ^ depth) 0 ≡ Some index →
          Told (λ index. first_direction c diff dirs (place_at depth index)) (2 ^ depth) 0 (Some index)
      told some = rw some at (first_without-told (λ index. first_direction c diff dirs (place_at depth index)) (2 ^ depth) 0)

      clash : (o : Option ℕ) → (dir : ℕ) × (o ≡ Some dir) → o ≡ None → ⊥
      clash None has e = cc
      clash (Some k) has e = cc

      none_of : (o : Option ℕ) → first_direction c diff dirs (place_at depth index) ≡ o → (HasDirection c diff dirs (place_at depth index) → ⊥) → first_direction c diff dirs (place_at depth index) ≡ None
      none_of None e lacks = e
      none_of (Some dir) e lacks = absurd (lacks (direction_there (place_at depth index) (dir, e)))

-- ---- the best tree is valid
module _ (rules : Rules) (diff : List (Bez 8)) (dirs : List (List ℤ)) where
  leaf_valid : (place : Place) (dir : ℕ) (tree : Tree) → Separates rules.clearance diff place (direction_of dirs dir) → Some (leaf dir) ≡ Some tree → IsValidTree rules dirs diff place tree
  leaf_valid place dir (leaf d) separates e = let same : dir ≡ d = cc in rw (← same) separates
  leaf_valid place dir (split left right) separates e = cc

  split_valid : (place : Place) (left right : Option Tree) (tree : Tree) → place.depth < rules.depth →
      ((t : Tree) → left ≡ Some t → IsValidTree rules dirs diff (left_half place) t) → ((t : Tree) → right ≡ Some t → IsValidTree rules dirs diff (right_half place) t) →
      split_of left right ≡ Some tree → IsValidTree rules dirs diff place tree
  split_valid place None right tree shallow left_valid right_valid e = cc
  split_valid place (Some l) None tree shallow left_valid right_valid e = cc
  split_valid place (Some l) (Some r) (leaf d) shallow left_valid right_valid e = cc
  split_valid place (Some l) (Some r) (split left right) shallow left_valid right_valid e =
      (shallow, left_valid left (let same : l ≡ left = cc in ap Some same), right_valid right (let same : r ≡ right = cc in ap Some same))

  best-valid : (n : ℕ) (place : Place) (tree : Tree) → place.depth + n ≤ rules.depth →
      best_tree (first_direction rules.clearance diff dirs) n place ≡ Some tree → IsValidTree rules dirs diff place tree
  best-valid zero place tree deep is = go (first_direction rules.clearance diff dirs place) refl is
    where
      go : (o : Option ℕ) → first_direction rules.clearance diff dirs place ≡ o → option_map leaf o ≡ Some tree → IsValidTree rules dirs diff place tree
      go None e is = cc
      go (Some dir) e is = leaf_valid place dir tree (first-separates rules.clearance diff dirs place dir e).1 is
  best-valid (suc n) place tree deep is =
      go (first_direction rules.clearance diff dirs place) refl is
      (split_valid place (best_tree (first_direction rules.clearance diff dirs) n (left_half place)) (best_tree (first_direction rules.clearance diff dirs) n (right_half place)) tree (omega arith)
      (λ t e. best-valid n (left_half place) t (omega arith) e) (λ t e. best-valid n (right_half place) t (omega arith) e))
    where
      go : (o : Option ℕ) → first_direction rules.clearance diff dirs place ≡ o →
          option_or (option_map leaf o) (split_of (best_tree (first_direction rules.clearance diff dirs) n (left_half place)) (best_tree (first_direction rules.clearance diff dirs) n (right_half place))) ≡ Some tree →
          (split_of (best_tree (first_direction rules.clearance diff dirs) n (left_half place)) (best_tree (first_direction rules.clearance diff dirs) n (right_half place)) ≡ Some tree → IsValidTree rules dirs diff place tree) →
          IsValidTree rules dirs diff place tree
      go None e is halves = halves is
      go (Some dir) e is halves = leaf_valid place dir tree (first-separates rules.clearance diff dirs place dir e).1 is

-- ---- the leaves of the best tree are the largest parts with a direction
given_twice : {o : Option ℕ} {d : ℕ} → o ≡ Some d → o ≡ None → ⊥
given_twice {o} {d} some none = cc

module _ (first : Place → Option ℕ) where
  -- at a place with a direction
  leaf-largest : (place : Place) (n d : ℕ) (tree : Tree) → first place ≡ Some d → Some (leaf d) ≡ Some tree → (way : List Bool) (dir : ℕ) →
      (leaf_on tree way ≡ Some dir) ↔ ((length way ≤ n) × IsLargest first place way dir)
  leaf-largest place n d (leaf e) is same [] dir =
      let one : d ≡ e = cc in (
        λ found. (omega arith, record { here = is ∙ ap Some one ∙ found; none_larger = λ k below. absurd (omega arith) }),
        λ largest. sym (is ∙ ap Some one) ∙ largest.1.here,
      )
  leaf-largest place n d (leaf e) is same (side ∷ way) dir = (λ found. cc, λ largest. absurd (given_twice is (largest.1.none_larger 0 (omega arith))))
  leaf-largest place n d (split left right) is same way dir = cc

  -- a part of a half is a part of the place, one half further
  further : (place : Place) (n : ℕ) (side : Bool) (way : List Bool) (dir : ℕ) → first place ≡ None →
      ((length way ≤ n) × IsLargest first (half_of side place) way dir) ↔ ((length (side ∷ way) ≤ suc n) × IsLargest first place (side ∷ way) dir)
  further place n side way dir none = (
    λ largest. (omega (arith, largest.0), record { here = largest.1.here; none_larger = λ k. passed largest.1 k }),
    λ largest. (omega (arith, largest.0), record { here = largest.1.here; none_larger = λ k below. largest.1.none_larger (suc k) (omega arith) }),
  )
    where
      passed : IsLargest first (half_of side place) way dir → (k : ℕ) → k < length (side ∷ way) → first (part_on place (take k (side ∷ way))) ≡ None
      passed largest zero below = none
      passed largest (suc k) below = largest.none_larger k (omega arith)

  -- at a place that is split
  split-largest : (place : Place) (n : ℕ) (left right : Option Tree) (tree : Tree) → first place ≡ None →
      ((t : Tree) → left ≡ Some t → (way : List Bool) (dir : ℕ) → (leaf_on t way ≡ Some dir) ↔ ((length way ≤ n) × IsLargest first (left_half place) way dir)) →
      ((t : Tree) → right ≡ Some t → (way : List Bool) (dir : ℕ) → (leaf_on t way ≡ Some dir) ↔ ((length way ≤ n) × IsLargest first (right_half place) way dir)) →
      split_of left right ≡ Some tree → (way : List Bool) (dir : ℕ) → (leaf_on tree way ≡ Some dir) ↔ ((length way ≤ suc n) × IsLargest first place way dir)
  split-largest place n None right tree none lefts rights same way dir = cc
  split-largest place n (Some l) None tree none lefts rights same way dir = cc
  split-largest place n (Some l) (Some r) (leaf d) none lefts rights same way dir = cc
  split-largest place n (Some l) (Some r) (split left right) none lefts rights same [] dir = (λ found. cc, λ largest. absurd (given_twice largest.1.here none))
  split-largest place n (Some l) (Some r) (split left right) none lefts rights same (false ∷ way) dir =
      let half : (leaf_on left way ≡ Some dir) ↔ ((length way ≤ n) × IsLargest first (left_half place) way dir) = lefts left (let one : l ≡ left = cc in ap Some one) way dir in
      let on : ((length way ≤ n) × IsLargest first (left_half place) way dir) ↔ ((length (false ∷ way) ≤ suc n) × IsLargest first place (false ∷ way) dir) = further place n false way dir none in
      (λ found. on.0 (half.0 found), λ largest. half.1 (on.1 largest))
  split-largest place n (Some l) (Some r) (split left right) none lefts rights same (true ∷ way) dir =
      let half : (leaf_on right way ≡ Some dir) ↔ ((length way ≤ n) × IsLargest first (right_half place) way dir) = rights right (let one : r ≡ right = cc in ap Some one) way dir in
      let on : ((length way ≤ n) × IsLargest first (right_half place) way dir) ↔ ((length (true ∷ way) ≤ suc n) × IsLargest first place (true ∷ way) dir) = further place n true way dir none in
      (λ found. on.0 (half.0 found), λ largest. half.1 (on.1 largest))

  best-largest : (n : ℕ) (place : Place) (tree : Tree) → best_tree first n place ≡ Some tree → (way : List Bool) (dir : ℕ) →
      (leaf_on tree way ≡ Some dir) ↔ ((length way ≤ n) × IsLargest first place way dir)
  best-largest zero place tree is = go (first place) refl is
    where
      go : (o : Option ℕ) → first place ≡ o → option_map leaf o ≡ Some tree → (way : List Bool) (dir : ℕ) → (leaf_on tree way ≡ Some dir) ↔ ((length way ≤ 0) × IsLargest first place way dir)
      go None e same = cc
      go (Some d) e same = leaf-largest place 0 d tree e same
  best-largest (suc n) place tree is =
      go (first place) refl is
      (λ none same. split-largest place n (best_tree first n (left_half place)) (best_tree first n (right_half place)) tree none
      (λ t e. best-largest n (left_half place) t e) (λ t e. best-largest n (right_half place) t e) same)
    where
      go : (o : Option ℕ) → first place ≡ o → option_or (option_map leaf o) (split_of (best_tree first n (left_half place)) (best_tree first n (right_half place))) ≡ Some tree →
          (first place ≡ None → split_of (best_tree first n (left_half place)) (best_tree first n (right_half place)) ≡ Some tree →
          (way : List Bool) (dir : ℕ) → (leaf_on tree way ≡ Some dir) ↔ ((length way ≤ suc n) × IsLargest first place way dir)) →
          (way : List Bool) (dir : ℕ) → (leaf_on tree way ≡ Some dir) ↔ ((length way ≤ suc n) × IsLargest first place way dir)
      go None e same halves = halves e same
      go (Some d) e same halves = leaf-largest place (suc n) d tree e same

-- ---- there is a best tree where each part has a direction
start-most : (n m k : ℕ) → m ≤ k → start n m ≤ start n k
start-most zero m k small = small
start-most (suc n) m k small = start-most n (2 * m) (2 * k) (omega arith)

split_there : {left right : Option Tree} → (l : Tree) × (left ≡ Some l) → (r : Tree) × (right ≡ Some r) → (tree : Tree) × (split_of left right ≡ Some tree)
split_there l r = (split l.0 r.0, rw (l.1, r.1) refl)

clear-there : (first : Place → Option ℕ) (n : ℕ) (place : Place) → ((j : ℕ) → start n place.index ≤ j → j < start n (place.index + 1) → Has first (place_at (place.depth + n) j)) →
    (tree : Tree) × (best_tree first n place ≡ Some tree)
clear-there first zero place all = go (all place.index (omega arith) (omega arith))
  where
    go : Has first (place_at (place.depth + 0) place.index) → (tree : Tree) × (best_tree first 0 place ≡ Some tree)
    go has =
        let deep : place.depth + 0 ≡ place.depth = omega arith in
        let is : first place ≡ Some has.0 = subst (λ (d : ℕ). first (place_at d place.index) ≡ Some has.0) deep has.1 in
        (leaf has.0, ap (λ (o : Option ℕ). option_map leaf o) is)
clear-there first (suc n) place all =
    let deep : place.depth + suc n ≡ place.depth + 1 + n = omega arith in
    let last : 2 * (place.index + 1) ≡ 2 * place.index + 1 + 1 = omega arith in
    go (first place) refl
    (split_there
    (clear-there first n (left_half place) (λ j from to. subst (λ (d : ℕ). Has first (place_at d j)) deep
    (all j from (let more : start n (2 * place.index + 1) ≤ start n (2 * (place.index + 1)) = start-most n (2 * place.index + 1) (2 * (place.index + 1)) (omega arith) in omega arith))))
    (clear-there first n (right_half place) (λ j from to. subst (λ (d : ℕ). Has first (place_at d j)) deep
    (all j (let more : start n (2 * place.index) ≤ start n (2 * place.index + 1) = start-most n (2 * place.index) (2 * place.index + 1) (omega arith) in omega arith) (rw last to)))))
  where
    go : (o : Option ℕ) → first place ≡ o → (tree : Tree) × (split_of (best_tree first n (left_half place)) (best_tree first n (right_half place)) ≡ Some tree) → (tree : Tree) × (best_tree first (suc n) place ≡ Some tree)
    go None e halves = (halves.0, rw e halves.1)
    go (Some d) e halves = (leaf d, rw e refl)

module _ (first : Place → Option ℕ) (left_has : (p : Place) → Has first p → Has first (left_half p)) (right_has : (p : Place) → Has first p → Has first (right_half p)) where
  there-clear : (n : ℕ) (place : Place) (tree : Tree) → best_tree first n place ≡ Some tree →
      (j : ℕ) → start n place.index ≤ j → j < start n (place.index + 1) → Has first (place_at (place.depth + n) j)
  there-clear zero place tree is j from to = go (first place) refl is
    where
      go : (o : Option ℕ) → first place ≡ o → option_map leaf o ≡ Some tree → Has first (place_at (place.depth + 0) j)
      go None e same = cc
      go (Some d) e same = all_have first left_has right_has zero place j (d, e) from to
  there-clear (suc n) place tree is j from to =
      let last : 2 * (place.index + 1) ≡ 2 * place.index + 1 + 1 = omega arith in
      let below : j < start n (2 * place.index + 1 + 1) = rw (← last) to in
      go (first place) refl is
      (λ t e before. there-clear n (left_half place) t e j from before)
      (λ t e behind. there-clear n (right_half place) t e j behind below)
    where
      deep : place.depth + 1 + n ≡ place.depth + suc n
      deep = omega arith

      halves : (left right : Option Tree) → split_of left right ≡ Some tree →
          ((t : Tree) → left ≡ Some t → j < start n (2 * place.index + 1) → Has first (place_at (place.depth + 1 + n) j)) →
          ((t : Tree) → right ≡ Some t → start n (2 * place.index + 1) ≤ j → Has first (place_at (place.depth + 1 + n) j)) →
          (b : Bool) → nat_lt j (start n (2 * place.index + 1)) ≡ b → Has first (place_at (place.depth + 1 + n) j)
      halves None right same lefts rights b side = cc
      halves (Some l) None same lefts rights b side = cc
      halves (Some l) (Some r) same lefts rights true side = lefts l refl (grind (arith, nat_tests))
      halves (Some l) (Some r) same lefts rights false side = rights r refl (grind (arith, nat_tests))

      go : (o : Option ℕ) → first place ≡ o → option_or (option_map leaf o) (split_of (best_tree first n (left_half place)) (best_tree first n (right_half place))) ≡ Some tree →
          ((t : Tree) → best_tree first n (left_half place) ≡ Some t → j < start n (2 * place.index + 1) → Has first (place_at (place.depth + 1 + n) j)) →
          ((t : Tree) → best_tree first n (right_half place) ≡ Some t → start n (2 * place.index + 1) ≤ j → Has first (place_at (place.depth + 1 + n) j)) →
          Has first (place_at (place.depth + suc n) j)
      go None e same lefts rights =
          subst (λ (d : ℕ). Has first (place_at d j)) deep
          (halves (best_tree first n (left_half place)) (best_tree first n (right_half place)) same lefts rights (nat_lt j (start n (2 * place.index + 1))) refl)
      go (Some d) e same lefts rights = all_have first left_has right_has (suc n) place j (d, e) from to

there_law : (c : Clearance) (diff : List (Bez 8)) (dirs : List (List ℤ)) (depth : ℕ) → ((tree : Tree) × (best_tree (first_direction c diff dirs) depth root ≡ Some tree)) ↔ IsClear c diff dirs depth
there_law c diff dirs depth = (
  λ tree index inside. direction_there c diff dirs depth (place_at depth index)
      (subst (λ (d : ℕ). Has (first_direction c diff dirs) (place_at d index)) (flat depth)
      (there-clear (first_direction c diff dirs) (left_has c diff dirs) (right_has c diff dirs) depth root tree.0 tree.1 index (rw (start-zero depth) (omega arith)) (rw (whole depth) inside))),
  λ clear. clear-there (first_direction c diff dirs) depth root
      (λ j from to. subst (λ (d : ℕ). Has (first_direction c diff dirs) (place_at d j)) (sym (flat depth)) (has_of c diff dirs depth (place_at depth j) (clear j (rw (whole depth) at to)))),
)
  where
    flat : (depth : ℕ) → root.depth + depth ≡ depth
    flat depth = omega arith

    whole : (depth : ℕ) → start depth (0 + 1) ≡ 2 ^ depth
    whole depth = start-is depth 1 ∙ one (2 ^ depth)
      where
        one : (n : ℕ) → n * 1 ≡ n
        one n = omega arith

-- ---- all laws
pub laws : SearchLaw
laws = record {
  first = first_law;
  clear = clear_law;
  blocked = blocked_law;
  largest = λ first depth tree is way dir. best-largest first depth root tree is way dir;
  there = there_law;
  valid = λ rules diff dirs tree is. best-valid rules diff dirs rules.depth root tree (omega arith) is;
}

-- a search is clear exactly where each part of the depth has a direction
pub clear_found : (c : Clearance) (diff : List (Bez 8)) (dirs : List (List ℤ)) (depth : ℕ) (result : Result Found AllocError) (nodes : List Node) →
    WalkGives (first_direction c diff dirs) depth result nodes → IfOk result (λ (found : Found). (found ≡ Clear) ↔ IsClear c diff dirs depth)
clear_found c diff dirs depth (Ok Clear) nodes gives = (λ e. (clear_law c diff dirs depth).0 gives.0, λ clear. refl)
clear_found c diff dirs depth (Ok (Blocked index)) nodes gives = (λ e. cc, λ clear. absurd (none_some ((clear_law c diff dirs depth).1 clear) gives))
  where
    none_some : {o : Option ℕ} → o ≡ None → o ≡ Some index → ⊥
    none_some {o} e f = cc
clear_found c diff dirs depth (Err e) nodes gives = tt
