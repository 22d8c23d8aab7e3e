-- The first direction that separates a place.
use Rattle.pair_search.proofs.Prelude.{◌⊎◌, inl, inr, common_steps, ◌≡◌, ℕ, ◌+◌, ◌-◌, ◌≤◌, ◌<◌, Bool, true, false, zero, suc, ◌∷◌, cond, nat_lt, arith, refl, sym, subst, List, [], length, get_or, Option, Some, None, is_none, not, position_or_len_is, nat_tests, by_lt, Bez, Place, Measure, low_value, root, ap, option_map, option_or, Leaf, Split, node_for, first_by, first_direction, FindsFirst, does_separate, bit_at, Marks, AreEarly, AreLeft, FindsEarliest, FindsEarly, IsOut}
use Rattle.std.specs.List.{position, position_or_len}

-- the first place where a test passes
pub position-is : {X : Type 0} (p : X → Bool) (xs : List X) (i : ℕ) (d : X) → i < length xs → ((k : ℕ) → k < i → p (get_or xs k d) ≡ false) → p (get_or xs i d) ≡ true → position p xs ≡ Some i
position-is p xs i d inside before here = grind (arith, common_steps, position_or_len_is, nat_lt, nat_tests)

-- no place passes
pub position-none : {X : Type 0} (p : X → Bool) (xs : List X) (d : X) → ((k : ℕ) → k < length xs → p (get_or xs k d) ≡ false) → position p xs ≡ None
position-none p xs d fails =
    let e : position_or_len p xs ≡ length xs = position_or_len_is p xs (length xs) d (omega arith) fails (λ less. absurd (omega arith)) in
    let far : nat_lt (length xs) (length xs) ≡ false = grind (arith, nat_tests) in
    rw (e, far) refl

-- where some place passes, there is a first one
pub position-there : {X : Type 0} (p : X → Bool) (xs : List X) (k : ℕ) (d : X) → k < length xs → p (get_or xs k d) ≡ true → (i : ℕ) × (position p xs ≡ Some i)
position-there p xs k d inside passes =
    let low : position_or_len p xs < length xs = position_or_len-low p xs k d inside passes in
    let less : nat_lt (position_or_len p xs) (length xs) ≡ true = grind (arith, nat_tests) in
    (position_or_len p xs, rw less refl)
  where
    position_or_len-low : {X : Type 0} (p : X → Bool) (xs : List X) (k : ℕ) (d : X) → k < length xs → p (get_or xs k d) ≡ true → position_or_len p xs < length xs
    position_or_len-low p [] k d inside passes = absurd (omega arith)
    position_or_len-low p (x ∷ xs) zero d inside passes = rw passes (omega arith)
    position_or_len-low p (x ∷ xs) (suc k) d inside passes = later (p x) (position_or_len-low p xs k d (omega arith) passes)
      where
        later : (b : Bool) → position_or_len p xs < length xs → cond (not b) (1 + position_or_len p xs) 0 < suc (length xs)
        later true low = omega arith
        later false low = omega arith

-- ---- directions with a bit, and then their opposites
module _ (fails holds : ℕ → Type 0) (count : ℕ) (near : Marks) where
  -- a direction of the first half of the table that is passed over
  front_out : (k : ℕ) → k + k < count → (bit_at near.front k ≡ 0) ⊎ fails k → IsOut count near k ⊎ fails k
  front_out k inside (inl clear) = inl (inl (inside, clear))
  front_out k inside (inr fail) = inr fail

  -- one of the second half
  back_out : (k : ℕ) → k < count → count ≤ k + k → (bit_at near.back (count - (k + 1)) ≡ 0) ⊎ fails (count - ((count - (k + 1)) + 1)) → IsOut count near k ⊎ fails k
  back_out k inside far (inl clear) = inl (inr (far, clear))
  back_out k inside far (inr fail) =
      let same : count - ((count - (k + 1)) + 1) ≡ k = omega (arith, inside) in
      inr (subst fails same fail)

  -- what is found in the first half
  pub front_first : (dir : ℕ) (o : Option ℕ) → FindsEarliest fails holds count near.front false o → o ≡ Some dir → FindsFirst (λ k. IsOut count near k ⊎ fails k) holds count (Some dir)
  front_first dir o finds is = go (subst (λ (x : Option ℕ). FindsEarliest fails holds count near.front false x) is finds)
    where
      go : FindsEarliest fails holds count near.front false (Some dir) → FindsFirst (λ k. IsOut count near k ⊎ fails k) holds count (Some dir)
      go found = (
        omega (arith, found.1, found.2),
        λ k less. front_out k (omega (arith, less, found.1, found.2)) (found.4 k (omega (arith, less, found.1, found.2)) (omega (arith, less, found.2))),
        found.3,
      )

  -- what is found in the second half, where nothing is found in the first
  pub back_first : (front back : Option ℕ) → FindsEarliest fails holds count near.front false front → front ≡ None → FindsEarliest fails holds count near.back true back → FindsFirst (λ k. IsOut count near k ⊎ fails k) holds count back
  back_first front back fronts none backs = go back backs
    where
      passed : FindsEarliest fails holds count near.front false None
      passed = subst (λ (x : Option ℕ). FindsEarliest fails holds count near.front false x) none fronts

      go : (o : Option ℕ) → FindsEarliest fails holds count near.back true o → FindsFirst (λ k. IsOut count near k ⊎ fails k) holds count o
      go None found = λ k inside.
          by_lt (k + k) count (λ early. front_out k early (passed k early))
          (λ late. back_out k inside late (found (count - (k + 1)) (omega (arith, inside, late))))
      go (Some dir) found = (
        omega (arith, found.1, found.2),
        λ k less.
            by_lt (k + k) count (λ early. front_out k early (passed k early))
            (λ late. back_out k (omega (arith, less, found.1, found.2)) late
            (found.4 (count - (k + 1)) (omega (arith, less, late, found.1, found.2)) (omega (arith, less, found.1, found.2)))),
        found.3,
      )

-- a direction that marks don't leave, or that failed, doesn't separate the place
passed : (m : Measure) (diff : List (Bez 8)) (place : Place) (near : Marks) (count : ℕ) → AreLeft m diff place near → count ≡ length m.directions → (k : ℕ) → k < count → IsOut count near k ⊎ (false ≡ does_separate m diff place k) → does_separate m diff place k ≡ false
passed m diff place near count left same k inside (inl (inl early)) = left.front k (omega (arith, same, early.0)) early.1
passed m diff place near count left same k inside (inl (inr late)) =
    let other : count - (k + 1) ≡ length m.directions - (k + 1) = omega (arith, same) in
    let back : length m.directions - ((length m.directions - (k + 1)) + 1) ≡ k = omega (arith, same, inside) in
    subst (λ (j : ℕ). does_separate m diff place j ≡ false) back
    (left.back (length m.directions - (k + 1)) (omega (arith, same, inside, late.0)) (subst (λ (j : ℕ). bit_at near.back j ≡ 0) other late.1))
passed m diff place near count left same k inside (inr answer) = sym answer

-- what is found among the directions that marks leave is the first direction of a table
pub first_found : (m : Measure) (diff : List (Bez 8)) (place : Place) (near : Marks) (count : ℕ) (o : Option ℕ) → AreLeft m diff place near → count ≡ length m.directions →
    FindsFirst (λ k. IsOut count near k ⊎ (false ≡ does_separate m diff place k)) (λ k. true ≡ does_separate m diff place k) count o → o ≡ first_by m diff place
unfolding first_direction
first_found m diff place near count None left same finds =
    sym (position-none (λ n. is_none (low_value m.clearance diff place n)) m.directions [] (λ k inside. passed m diff place near count left same k (omega (arith, same, inside)) (finds k (omega (arith, same, inside)))))
first_found m diff place near count (Some dir) left same finds =
    sym (position-is (λ n. is_none (low_value m.clearance diff place n)) m.directions dir [] (omega (arith, same, finds.0))
    (λ k less. passed m diff place near count left same k (omega (arith, less, finds.0)) (finds.1 k less)) (sym finds.2))

-- one of the first 16 directions without a bit, or that failed, doesn't separate the whole cue
early_fails : (m : Measure) (diff : List (Bez 8)) (near i : ℕ) → AreEarly m diff near → i < 16 → i + i < length m.directions → (bit_at near i ≡ 0) ⊎ (false ≡ does_separate m diff root i) → does_separate m diff root i ≡ false
early_fails m diff near i left early inside (inl clear) = left i early inside clear
early_fails m diff near i left early inside (inr answer) = sym answer

-- the first of the first 16 directions, where those without a bit don't separate the whole cue
pub early_found : (m : Measure) (diff : List (Bez 8)) (near count few : ℕ) (o : Option ℕ) → AreEarly m diff near → count ≡ length m.directions → few ≤ count → few ≤ 32 → ((i : ℕ) → i < 16 → i + i < count → i + i < few) →
    FindsEarliest (λ k. false ≡ does_separate m diff root k) (λ k. true ≡ does_separate m diff root k) few near false o → FindsEarly m diff o
unfolding first_direction
early_found m diff near count few None left same less most enough finds = λ i early inside.
    early_fails m diff near i left early inside (finds i (enough i early (omega (arith, same, inside))))
early_found m diff near count few (Some dir) left same less most enough finds =
    sym (position-is (λ n. is_none (low_value m.clearance diff root n)) m.directions dir [] (omega (arith, same, less, finds.1, finds.2))
    (λ k before. early_fails m diff near k left (omega (arith, most, before, finds.1, finds.2)) (omega (arith, same, less, before, finds.1, finds.2)) (finds.4 k (omega (arith, before, finds.1, finds.2)) (omega (arith, before, finds.2))))
    (sym finds.3))

-- its node is a leaf
pub early_node : (m : Measure) (diff : List (Bez 8)) (depth dir : ℕ) (o : Option ℕ) → FindsEarly m diff o → o ≡ Some dir → node_for (first_by m diff) depth root ≡ Some (Leaf dir)
early_node m diff depth dir o finds is =
    ap (λ (x : Option ℕ). option_or (option_map Leaf x) (cond (nat_lt 0 depth) (Some Split) None)) (sym (subst (λ (x : Option ℕ). FindsEarly m diff x) is finds))

-- or none of the first 16 directions separates it
pub early_none : (m : Measure) (diff : List (Bez 8)) (o : Option ℕ) → FindsEarly m diff o → o ≡ None → FindsEarly m diff None
early_none m diff o finds is = subst (λ (x : Option ℕ). FindsEarly m diff x) is finds
