-- Short holds, grouped.
use Rattle.definition_tests.proofs.Prelude.{common_steps, ◌≡◌, ℕ, ◌+◌, ◌<◌, ◌≤◌, true, List, [], ◌∷◌, ◌++◌, All, length, length-append, ap, sym, ◌∙◌, arith, refl, inl, inr, sum, map, append-nil, length-map, All-cons, All-head, All-nil, All-tail, Segment, FromTheLeft, IsGroup, hold, is_hold, joined_from, GroupLaw, one_of, durations, flat_map}
use Rattle.definition_tests.specs.Joined.{JoinedRows}

-- a group has some segment
group_some : (g : List Segment) → IsGroup g → 1 ≤ length g
group_some g (inl one) = omega (arith, ap (λ (xs : List Segment). length xs) one.1)
group_some g (inr holds) = holds.0

holds_of : (m : ℕ) → All (λ s. is_hold s ≡ true) (hold m ∷ [])
holds_of m = All-cons (λ s. is_hold s ≡ true) (hold m) [] refl (All-nil (λ s. is_hold s ≡ true))

-- where two holds stay two, they are too long to be one
stay_two : (m n : ℕ) (groups : List (List Segment)) → flat_map (λ group. group) groups ≡ hold m ∷ hold n ∷ [] → All IsGroup groups → FromTheLeft groups → 2 ≤ length groups → 65535 < m + n
stay_two m n [] whole each greedy more = absurd (omega (arith, more))
stay_two m n (g ∷ []) whole each greedy more = absurd (omega (arith, more))
stay_two m n ([] ∷ k ∷ rest) whole each greedy more = let some = group_some [] (All-head IsGroup [] (k ∷ rest) each) in absurd (omega (arith, some))
stay_two m n ((s ∷ []) ∷ [] ∷ rest) whole each greedy more = let some = group_some [] (All-head IsGroup [] rest (All-tail IsGroup (s ∷ []) ([] ∷ rest) each)) in absurd (omega (arith, some))
stay_two m n ((s ∷ []) ∷ (t ∷ ts) ∷ rest) whole each greedy more =
    let first : s ≡ hold m = cc in
    let second : t ≡ hold n = cc in
    let none : ts ++ flat_map (λ group. group) rest ≡ [] = cc in
    two s t ts first second (left ts (flat_map (λ group. group) rest) none) greedy.0
  where
    left : (xs ys : List Segment) → xs ++ ys ≡ [] → xs ≡ []
    left [] ys e = refl
    left (x ∷ xs) ys e = absurd (cc)

    two : (s t : Segment) (ts : List Segment) → s ≡ hold m → t ≡ hold n → ts ≡ [] →
        (All (λ s. is_hold s ≡ true) (s ∷ []) → All (λ s. is_hold s ≡ true) (t ∷ ts) → 65535 < sum (durations (s ∷ [])) + t.ms) → 65535 < m + n
    two s t ts first second none greedy = let big = (rw (first, second, none) at greedy) (holds_of m) (holds_of n) in omega (arith, big)
stay_two m n ((s ∷ t ∷ ts) ∷ k ∷ rest) whole each greedy more =
    let some = group_some k (All-head IsGroup k rest (All-tail IsGroup (s ∷ t ∷ ts) (k ∷ rest) each)) in
    let long = ap (λ (xs : List Segment). length xs) whole in
    absurd (omega (arith, some, long, length-append ts (k ++ flat_map (λ group. group) rest), length-append k (flat_map (λ group. group) rest)))

pub joined : GroupLaw → JoinedRows
unfolding joined_from
joined law = record {
  one = law (hold 1 ∷ hold 2 ∷ []) (grind (arith, common_steps, All-cons, All-nil)) (grind (arith, common_steps, All-cons, All-nil));
  apart = λ is. let big = stay_two 1 2 is.groups is.whole is.each is.greedy (omega (arith, ap (λ (xs : List Segment). length xs) is.are, length-map is.groups one_of)) in absurd (omega (arith, big));
  longest = law (hold 65534 ∷ hold 1 ∷ []) (grind (arith, common_steps, All-cons, All-nil)) (grind (arith, common_steps, All-cons, All-nil));
  too_long = λ is. too_long is.groups is.whole is.each is.are;
}
  where
    by : (g : List Segment) → g ≡ hold 65535 ∷ hold 1 ∷ [] → IsGroup g → ⊥
    by g is (inl one) = let long = ap (λ (xs : List Segment). length xs) (sym one.1 ∙ is) in absurd (omega (arith, long))
    by g is (inr holds) = let most = rw is at holds.2 in absurd (omega (arith, most))

    too_long : (groups : List (List Segment)) → flat_map (λ group. group) groups ≡ hold 65535 ∷ hold 1 ∷ [] → All IsGroup groups → hold 65536 ∷ [] ≡ map one_of groups → ⊥
    too_long [] whole each are = absurd (cc)
    too_long (g ∷ k ∷ rest) whole each are = absurd (cc)
    too_long (g ∷ []) whole each are =
        let is : g ≡ hold 65535 ∷ hold 1 ∷ [] = sym (append-nil g) ∙ whole in by g is (All-head IsGroup g [] each)
