-- Numbers that rise, and what is past of a row.
use Rattle.upload_core.proofs.Prelude.{and_parts, and_from, filter-range-agree, common_steps, ◌≡◌, ◌⊎◌, ◌==◌, ℕ, zero, suc, ◌+◌, ◌-◌, ◌<◌, ◌≤◌, Bool, true, false, not, cond, ◌&&◌, ◌||◌, ltb, List, [], ◌∷◌, ◌++◌, filter, refl, ap, sym, subst, ◌∙◌, arith, inl, inr, rules, range_with_len, list_all, cases_eq, cases_lt, eq-eqb, ne_eqb, lt-ltb, le-ltb, false≢true, list_any-append, filter-append, among, is_past, IsBetween}

-- ---- numbers that rise

pub between-weaker : (a c b : ℕ) (xs : List ℕ) → a ≤ c → IsBetween c b xs → IsBetween a b xs
between-weaker a c b [] l h = h
between-weaker a c b (x ∷ xs) l h = (let m = h.0 in omega arith, h.1, h.2)

pub between-range : (a m : ℕ) → IsBetween a (a + m) (range_with_len a m)
between-range a zero = tt
between-range a (suc m) =
    (omega arith, omega arith, subst (λ (b : ℕ). IsBetween (a + 1) b (range_with_len (a + 1) m)) (let e : a + 1 + m ≡ a + suc m = omega arith in e) (between-range (a + 1) m))

pub between-append : (a b m : ℕ) (xs : List ℕ) → a ≤ b → IsBetween a b xs → IsBetween a (b + m) (xs ++ range_with_len b m)
between-append a b m [] l h = between-weaker a b (b + m) (range_with_len b m) l (between-range b m)
between-append a b m (x ∷ xs) l h = (h.0, let n = h.1 in omega arith, between-append (x + 1) b m xs (let n = h.1 in omega arith) h.2)

pub between-without : (a b k : ℕ) (xs : List ℕ) → IsBetween a b xs → IsBetween a b (filter (λ j. not (j == k)) xs)
between-without a b k [] h = tt
between-without a b k (x ∷ xs) h = at (x == k) (between-without (x + 1) b k xs h.2) where
  at : (c : Bool) → IsBetween (x + 1) b (filter (λ j. not (j == k)) xs) →
      IsBetween a b (cond (not c) (x ∷ filter (λ j. not (j == k)) xs) (filter (λ j. not (j == k)) xs))
  at true rest = between-weaker a (x + 1) b (filter (λ j. not (j == k)) xs) (let l = h.0 in omega arith) rest
  at false rest = (h.0, h.1, rest)

pub between-out : (a b : ℕ) (xs : List ℕ) (k : ℕ) → IsBetween a b xs → (k < a) ⊎ (b ≤ k) → among xs k ≡ false
between-out a b [] k h out = refl
between-out a b (x ∷ xs) k h out =
    ap (λ c. c || among xs k) (ne_eqb x k (λ e. elim out [ inl l ↦ let m = h.0 in absurd (omega arith) | inr l ↦ let m = h.1 in absurd (omega arith) ]))
    ∙ between-out (x + 1) b xs k h.2 (elim out [ inl l ↦ inl (let m = h.0 in omega arith) | inr l ↦ inr l ])

pub between-in : (a b : ℕ) (xs : List ℕ) (k : ℕ) → IsBetween a b xs → among xs k ≡ true → (a ≤ k) × (k < b)
between-in a b xs k h found = grind (arith, common_steps, cases_lt, false≢true, between-out)

-- ---- membership

pub or_nothing : (b : Bool) → (b || false) ≡ b
or_nothing true = refl
or_nothing false = refl

pub shut : (b : Bool) → (b && false) ≡ false
shut true = refl
shut false = refl

pub among-append : (xs ys : List ℕ) (k : ℕ) → among (xs ++ ys) k ≡ (among xs k || among ys k)
among-append xs ys k = list_any-append (λ j. j == k) xs ys

pub among-range_in : (a m k : ℕ) → a ≤ k → k < a + m → among (range_with_len a m) k ≡ true
among-range_in a zero k l b = absurd (omega arith)
among-range_in a (suc m) k l b = elim (cases_eq a k) [
  | inl same ↦ ap (λ c. c || among (range_with_len (a + 1) m) k) (eq-eqb a k same)
  | inr other ↦ ap (λ c. c || among (range_with_len (a + 1) m) k) (ne_eqb a k other) ∙ among-range_in (a + 1) m k (omega arith) (omega arith)
]

pub among-range_out : (a m k : ℕ) → (k < a) ⊎ (a + m ≤ k) → among (range_with_len a m) k ≡ false
among-range_out a m k out = between-out a (a + m) (range_with_len a m) k (between-range a m) out

pub among-without : (xs : List ℕ) (k j : ℕ) → among (filter (λ i. not (i == k)) xs) j ≡ (among xs j && not (j == k))
among-without [] k j = refl
among-without (x ∷ xs) k j = elim (cases_eq x k) [
  | inl same ↦
      ap (λ c. among (cond (not c) (x ∷ filter (λ i. not (i == k)) xs) (filter (λ i. not (i == k)) xs)) j) (eq-eqb x k same)
      ∙ among-without xs k j ∙ elim (cases_eq x j) [
        | inl here ↦
            let is : (j == k) ≡ true = eq-eqb j k (sym here ∙ same) in
            ap (λ c. among xs j && not c) is ∙ shut (among xs j) ∙ sym (ap (λ c. (x == j || among xs j) && not c) is ∙ shut (x == j || among xs j))
        | inr other ↦ sym (ap (λ c. (c || among xs j) && not (j == k)) (ne_eqb x j other))
      ]
  | inr apart ↦
      ap (λ c. among (cond (not c) (x ∷ filter (λ i. not (i == k)) xs) (filter (λ i. not (i == k)) xs)) j) (ne_eqb x k apart)
      ∙ ap (λ c. x == j || c) (among-without xs k j) ∙ elim (cases_eq x j) [
        | inl here ↦
            let is : (j == k) ≡ false = ne_eqb j k (λ e. apart (here ∙ e)) in
            ap (λ c. c || (among xs j && not (j == k))) (eq-eqb x j here) ∙ sym (ap (λ c. (c || among xs j) && not (j == k)) (eq-eqb x j here) ∙ ap not is)
        | inr other ↦
            ap (λ c. c || (among xs j && not (j == k))) (ne_eqb x j other) ∙ sym (ap (λ c. (c || among xs j) && not (j == k)) (ne_eqb x j other))
      ]
]

-- ---- what is past

pub past-yes : (next : ℕ) (ks : List ℕ) (j : ℕ) → j < next → among ks j ≡ false → is_past next ks j ≡ true
past-yes next ks j l out = ap (λ b. b && not (among ks j)) (lt-ltb j next l) ∙ ap not out

pub past-in : (next : ℕ) (ks : List ℕ) (j : ℕ) → among ks j ≡ true → is_past next ks j ≡ false
past-in next ks j found = grind (arith, common_steps, ltb, not)

pub past-later : (next : ℕ) (ks : List ℕ) (j : ℕ) → next ≤ j → is_past next ks j ≡ false
past-later next ks j l = ap (λ b. b && not (among ks j)) (le-ltb j next l)

-- what comes into flight is not past
pub past-grown : (a next m : ℕ) (ks : List ℕ) (j : ℕ) → IsBetween a next ks → is_past (next + m) (ks ++ range_with_len next m) j ≡ is_past next ks j
past-grown a next m ks j h =
    search (rules, cases_lt, not, lt-ltb, ltb, among-append, among-range_out, or_nothing, past-in, between-out, among-range_in, past-later)

-- what leaves it is
pub past-without : (a next k : ℕ) (ks : List ℕ) (j : ℕ) → IsBetween a next ks → among ks k ≡ true → is_past next (filter (λ i. not (i == k)) ks) j ≡ (is_past next ks j || j == k)
past-without a next k ks j h found = grind (arith, common_steps, ltb, not, among-without, cases_eq, between-in, eq-eqb, lt-ltb, ne_eqb, or_nothing)

-- ---- what is open

filter-all : (xs : List ℕ) → filter (λ k. true) xs ≡ xs
filter-all [] = refl
filter-all (x ∷ xs) = ap (λ ys. x ∷ ys) (filter-all xs)

-- those of a range that are among rising numbers are these
among-rising : (a n : ℕ) (ks : List ℕ) → IsBetween a (a + n) ks → filter (among ks) (range_with_len a n) ≡ ks
among-rising a zero [] h = refl
among-rising a zero (k ∷ ks) h = let l = h.0 in let b = h.1 in absurd (omega arith)
among-rising a (suc n) [] h = among-rising (a + 1) n [] tt
among-rising a (suc n) (k ∷ ks) h = elim (cases_eq k a) [
  | inl same ↦
      let rest : IsBetween (a + 1) (a + 1 + n) ks = subst (λ (b : ℕ). IsBetween (a + 1) b ks) (let e : a + suc n ≡ a + 1 + n = omega arith in e) (subst (λ (i : ℕ). IsBetween (i + 1) (a + suc n) ks) same h.2) in
      ap (λ b. cond (b || among ks a) (a ∷ filter (among (k ∷ ks)) (range_with_len (a + 1) n)) (filter (among (k ∷ ks)) (range_with_len (a + 1) n))) (eq-eqb k a same)
      ∙ ap (λ xs. a ∷ xs) (filter-range-agree (among (k ∷ ks)) (among ks) (a + 1) n (λ j l b. ap (λ c. c || among ks j) (ne_eqb k j (omega arith))) ∙ among-rising (a + 1) n ks rest)
      ∙ ap (λ (i : ℕ). i ∷ ks) (sym same)
  | inr other ↦
      let l = h.0 in
      let here : among (k ∷ ks) a ≡ false = between-out (a + 1) (a + suc n) (k ∷ ks) a (omega arith, h.1, h.2) (inl (omega arith)) in
      ap (λ b. cond b (a ∷ filter (among (k ∷ ks)) (range_with_len (a + 1) n)) (filter (among (k ∷ ks)) (range_with_len (a + 1) n))) here
      ∙ among-rising (a + 1) n (k ∷ ks) (subst (λ (b : ℕ). IsBetween (a + 1) b (k ∷ ks)) (let e : a + suc n ≡ a + 1 + n = omega arith in e) (omega arith, h.1, h.2))
]

pub range-split : (a m n : ℕ) → range_with_len a (m + n) ≡ range_with_len a m ++ range_with_len (a + m) n
range-split a zero n =
    ap (range_with_len a) (let e : 0 + n ≡ n = omega arith in e) ∙ ap (λ (k : ℕ). range_with_len k n) (let e : a ≡ a + 0 = omega arith in e)
range-split a (suc m) n =
    ap (range_with_len a) (let e : suc m + n ≡ suc (m + n) = omega arith in e)
    ∙ ap (λ (xs : List ℕ). a ∷ xs) (range-split (a + 1) m n ∙ ap (λ (k : ℕ). range_with_len (a + 1) m ++ range_with_len k n) (let e : a + 1 + m ≡ a + suc m = omega arith in e))

not_not : (b : Bool) → not (not b) ≡ b
not_not true = refl
not_not false = refl

-- from a on, up to n numbers past the last one, open are those in flight and those that never were
pub open-split : (a next n : ℕ) (ks : List ℕ) → a ≤ next → IsBetween a next ks →
    filter (λ k. not (is_past next ks k)) (range_with_len a (next - a + n)) ≡ ks ++ range_with_len next n
open-split a next n ks l h =
    ap (filter (λ k. not (is_past next ks k))) (range-split a (next - a) n)
    ∙ filter-append (λ k. not (is_past next ks k)) (range_with_len a (next - a)) (range_with_len (a + (next - a)) n)
    ∙ ap (λ (xs : List ℕ). xs ++ filter (λ k. not (is_past next ks k)) (range_with_len (a + (next - a)) n))
    (filter-range-agree (λ k. not (is_past next ks k)) (among ks) a (next - a) (λ k m b. ap (λ c. not (c && not (among ks k))) (lt-ltb k next (omega arith)) ∙ not_not (among ks k))
    ∙ among-rising a (next - a) ks (subst (λ (b : ℕ). IsBetween a b ks) (let e : next ≡ a + (next - a) = omega arith in e) h))
    ∙ ap (λ (k : ℕ). ks ++ filter (λ j. not (is_past next ks j)) (range_with_len k n)) (let e : a + (next - a) ≡ next = omega arith in e)
    ∙ ap (λ (xs : List ℕ). ks ++ xs) (filter-range-agree (λ k. not (is_past next ks k)) (λ k. true) next n (λ k m b. ap not (past-later next ks k m)) ∙ filter-all (range_with_len next n))

pub all-weaker : (p q : ℕ → Bool) (a n : ℕ) → ((k : ℕ) → p k ≡ true → q k ≡ true) → list_all p (range_with_len a n) ≡ true → list_all q (range_with_len a n) ≡ true
all-weaker p q a zero h e = refl
all-weaker p q a (suc n) h e =
    let parts = and_parts (p a) (list_all p (range_with_len (a + 1) n)) e in
    and_from (q a) (list_all q (range_with_len (a + 1) n)) (h a parts.0) (all-weaker p q (a + 1) n h parts.1)

-- one that isn't
pub not-past : (p : ℕ → Bool) (a n k : ℕ) → a ≤ k → k < a + n → p k ≡ false → list_all p (range_with_len a n) ≡ false
not-past p a zero k l b e = absurd (omega arith)
not-past p a (suc n) k l b e = elim (cases_eq a k) [
  | inl same ↦ ap (λ c. c && list_all p (range_with_len (a + 1) n)) (ap p same ∙ e)
  | inr other ↦ ap (λ c. p a && c) (not-past p (a + 1) n k (omega arith) (omega arith) e) ∙ shut (p a)
]

-- the head of rising numbers is the first that isn't past
pub head-first : (next k : ℕ) (ks : List ℕ) → IsBetween 0 next (k ∷ ks) → ((j : ℕ) → j < k → is_past next (k ∷ ks) j ≡ true) × (is_past next (k ∷ ks) k ≡ false)
head-first next k ks h = grind (arith, common_steps, past-yes, between-out, past-in, eq-eqb)
