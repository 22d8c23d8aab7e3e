-- What is in flight of all drones, drone by drone, and rows of which one changes.
use Rattle.upload_core.proofs.Prelude.{filter_agree, common_steps, ◌≡◌, ◌≢◌, ◌==◌, ℕ, zero, suc, ◌+◌, ◌-◌, ◌<◌, ◌≤◌, Bool, true, false, not, cond, ◌&&◌, ◌||◌, List, [], ◌∷◌, ◌++◌, length, filter, set, get_or, refl, ap, sym, ◌∙◌, arith, inl, inr, range_with_len, list_all, flat_map, cases_eq, eq-eqb, false≢true, eqb-true, and_parts, or_right, append-nil, append_assoc, get_or-set_same, get_or-set_other, map-append, filter-append, Phase, Loading, Sent, Upload, drone_count, first_of, count_of, allowed, all_settled, phase_of, includes, flight_in, flight_at, flight_after, sent_to, range-more, list_all-range-agree, flat_map-range-agree, InFlight, Row, among, is_marked, row_at, marked, window_at, RowsStand, in_windows}
use Rattle.upload_core.proofs.Numbers.{not-past}
use Rattle.upload_core.proofs.RowLemmas.{row-flight, row-settled, row-open}
use Rattle.upload_core.proofs.Staying.{includes-rows}

-- ---- rows

-- the element that is indexed
pub row-at : (rows : List Row) (d : ℕ) (r : Row) → r ≡ get_or rows d r → d < length rows → row_at rows d ≡ r
row-at [] d r is l = absurd (omega arith)
row-at (x ∷ rows) zero r is l = sym is
row-at (x ∷ rows) (suc d) r is l = row-at rows d r is (omega arith)

pub row_at-set_same : (rows : List Row) (d : ℕ) (r : Row) → d < length rows → row_at (set rows d r) d ≡ r
row_at-set_same rows d r l = get_or-set_same rows d r (record { window = record { items = [] }; next = 0; until = 0 }) l

pub row_at-set_other : (rows : List Row) (d i : ℕ) (r : Row) → i ≢ d → row_at (set rows d r) i ≡ row_at rows i
row_at-set_other rows d i r other = get_or-set_other rows d i r (record { window = record { items = [] }; next = 0; until = 0 }) other

-- ---- what is in flight

-- how far a drone may go depends on its own row
own-row : (s : Upload) (p : Phase) (rows : List Row) (d : ℕ) → allowed s p (marked rows) d ≡ allowed s p (λ i k. is_marked (row_at rows d) k) d
own-row s Loading rows d = refl
own-row s p rows d = refl

pub window-flight : (s : Upload) (p : Phase) (rows : List Row) → RowsStand s p rows → (d : ℕ) → d < drone_count s → flight_in s p (marked rows) d ≡ window_at rows d
window-flight s p rows stand d l = row-flight s p d (row_at rows d) (stand.each d l) (marked rows) (λ k. refl) (own-row s p rows d)

pub windows-flight_at : (s : Upload) (p : Phase) (rows : List Row) → RowsStand s p rows → flight_at s p (marked rows) ≡ in_windows rows (drone_count s)
unfolding flight_at
windows-flight_at s p rows stand =
    flat_map-range-agree (λ d. sent_to d (flight_in s p (marked rows) d)) (λ d. sent_to d (window_at rows d)) 0 (drone_count s)
    (λ d l b. ap (sent_to d) (window-flight s p rows stand d (omega arith)))

pub windows-flight : (s : Upload) (p : Phase) (rows : List Row) → RowsStand s p rows → p ≡ phase_of s (marked rows) → flight_after s (marked rows) ≡ in_windows rows (drone_count s)
windows-flight s p rows stand is = ap (λ (q : Phase). flight_at s q (marked rows)) (sym is) ∙ windows-flight_at s p rows stand

pub includes-windows : (rows : List Row) (n : ℕ) (x : Sent) → x.drone < n → includes (in_windows rows n) x ≡ among (window_at rows x.drone) x.packet
includes-windows rows n x l = includes-rows (window_at rows) 0 n x (omega arith) (omega arith)

-- ---- whether a phase is complete

abbrev pub IsEmpty : List Row → Type 0
IsEmpty rows = (d : ℕ) → (row_at rows d).window.items ≡ []

pub list_all-true : {X : Type 0} (f : X → Bool) → ((x : X) → f x ≡ true) → (xs : List X) → list_all f xs ≡ true
list_all-true f h [] = refl
list_all-true f h (x ∷ xs) = ap (λ (b : Bool). b && list_all f xs) (h x) ∙ list_all-true f h xs

pub all-settled : (s : Upload) (p : Phase) (rows : List Row) → RowsStand s p rows → ((d : ℕ) → d < drone_count s → (row_at rows d).window.items ≡ []) → all_settled s p (marked rows) ≡ true
unfolding all_settled
all-settled s p rows stand none =
    list_all-range-agree (λ d. list_all (marked rows d) (range_with_len (first_of s p d) (count_of s p d))) (λ d. true) 0 (drone_count s)
    (λ d l b. (row-settled s p d (row_at rows d) (stand.each d (omega arith)) (none d (omega arith))).1)
    ∙ list_all-true (λ d. true) (λ d. refl) (range_with_len 0 (drone_count s))

pub not-settled : (s : Upload) (p : Phase) (rows : List Row) → RowsStand s p rows → (d : ℕ) → d < drone_count s → ((row_at rows d).window.items ≡ [] → ⊥) → all_settled s p (marked rows) ≡ false
unfolding all_settled
not-settled s p rows stand d l some =
    not-past (λ i. list_all (marked rows i) (range_with_len (first_of s p i) (count_of s p i))) 0 (drone_count s) d (omega arith) (omega arith) (by_window (row_at rows d).window.items refl) where
      by_window : (es : List InFlight) → (row_at rows d).window.items ≡ es → list_all (marked rows d) (range_with_len (first_of s p d) (count_of s p d)) ≡ false
      by_window [] e = absurd (some e)
      by_window (x ∷ es) e = row-open s p d (row_at rows d) (stand.each d l) x es e

-- rows of which none has anything in flight, and rows of which one has
pub empty-all : (rows : List Row) → list_all (λ (row : Row). length row.window.items == 0) rows ≡ true → IsEmpty rows
empty-all [] h d = refl
empty-all (row ∷ rows) h zero = grind (arith, common_steps, eqb-true, and_parts)
empty-all (row ∷ rows) h (suc d) =
    empty-all rows (and_parts (length row.window.items == 0) (list_all (λ (r : Row). length r.window.items == 0) rows) h).1 d

pub some-window : (rows : List Row) → list_all (λ (row : Row). length row.window.items == 0) rows ≡ false → (d : ℕ) × (d < length rows) × ((row_at rows d).window.items ≡ [] → ⊥)
some-window [] h = absurd (false≢true (sym h))
some-window (row ∷ rows) h = at (length row.window.items == 0) refl (λ f. some-window rows f) h where
  at : (b : Bool) → (length row.window.items == 0) ≡ b → (list_all (λ (r : Row). length r.window.items == 0) rows ≡ false → (d : ℕ) × (d < length rows) × ((row_at rows d).window.items ≡ [] → ⊥)) →
      (b && list_all (λ (r : Row). length r.window.items == 0) rows) ≡ false → (d : ℕ) × (d < suc (length rows)) × ((row_at (row ∷ rows) d).window.items ≡ [] → ⊥)
  at true e later f = let r = later f in let l = r.1 in (suc r.0, omega arith, r.2)
  at false e later f = (0, omega arith, (λ none. false≢true (sym e ∙ eq-eqb (length row.window.items) 0 (ap (λ (es : List InFlight). length es) none))))

-- ---- over the drones, one by one

pub range-one_more : (n : ℕ) → range_with_len 0 (n + 1) ≡ range_with_len 0 n ++ n ∷ []
range-one_more n =
    ap (range_with_len 0) (let e : n + 1 ≡ suc n = omega arith in e) ∙ range-more 0 n
    ∙ ap (λ (k : ℕ). range_with_len 0 n ++ k ∷ []) (let e : 0 + n ≡ n = omega arith in e)

pub flat_map-append_one : {X : Type 0} (f : ℕ → List X) (xs : List ℕ) (n : ℕ) → flat_map f (xs ++ n ∷ []) ≡ flat_map f xs ++ f n
flat_map-append_one f [] n = append-nil (f n)
flat_map-append_one {X} f (x ∷ xs) n = ap (λ (ys : List X). f x ++ ys) (flat_map-append_one f xs n) ∙ sym (append_assoc (f x) (flat_map f xs) (f n))

pub windows-walk : (rows : List Row) (n : ℕ) → in_windows rows (n + 1) ≡ in_windows rows n ++ sent_to n (window_at rows n)
windows-walk rows n =
    ap (flat_map (λ d. sent_to d (window_at rows d))) (range-one_more n) ∙ flat_map-append_one (λ d. sent_to d (window_at rows d)) (range_with_len 0 n) n

pub sent-more : (d a p : ℕ) → a ≤ p → sent_to d (range_with_len a (p - a)) ++ record { drone = d; packet = p } ∷ [] ≡ sent_to d (range_with_len a (p + 1 - a))
sent-more d a p l =
    ap (λ (n : ℕ). sent_to d (range_with_len a (p - a)) ++ record { drone = d; packet = n } ∷ []) (let e : p ≡ a + (p - a) = omega arith in e)
    ∙ sym (map-append (λ (k : ℕ). record { drone = d; packet = k }) (range_with_len a (p - a)) ((a + (p - a)) ∷ []))
    ∙ ap (sent_to d) (sym (range-more a (p - a)) ∙ ap (range_with_len a) (let e : suc (p - a) ≡ p + 1 - a = omega arith in e))

-- ---- what is in flight and wasn't before

abbrev pub rows_of : (ℕ → List ℕ) → ℕ → ℕ → List Sent
rows_of f a n = flat_map (λ d. sent_to d (f d)) (range_with_len a n)

filter-sent_to : (q : Sent → Bool) (d : ℕ) (ks : List ℕ) → filter q (sent_to d ks) ≡ sent_to d (filter (λ k. q (record { drone = d; packet = k })) ks)
filter-sent_to q d [] = refl
filter-sent_to q d (k ∷ ks) = at (q (record { drone = d; packet = k })) (filter-sent_to q d ks) where
  at : (b : Bool) → filter q (sent_to d ks) ≡ sent_to d (filter (λ j. q (record { drone = d; packet = j })) ks) →
      cond b (record { drone = d; packet = k } ∷ filter q (sent_to d ks)) (filter q (sent_to d ks))
      ≡ sent_to d (cond b (k ∷ filter (λ j. q (record { drone = d; packet = j })) ks) (filter (λ j. q (record { drone = d; packet = j })) ks))
  at true rest = ap (λ xs. record { drone = d; packet = k } ∷ xs) rest
  at false rest = rest

filter-none : (q : ℕ → Bool) (ks : List ℕ) → ((k : ℕ) → among ks k ≡ true → q k ≡ false) → filter q ks ≡ []
filter-none q [] h = refl
filter-none q (k ∷ ks) h =
    ap (λ b. cond b (k ∷ filter q ks) (filter q ks)) (h k (ap (λ b. b || among ks k) (eq-eqb k k refl)))
    ∙ filter-none q ks (λ j a. h j (or_right (k == j) (among ks j) a))

filter-whole : (q : ℕ → Bool) (ks : List ℕ) → ((k : ℕ) → among ks k ≡ true → q k ≡ true) → filter q ks ≡ ks
filter-whole q [] h = refl
filter-whole q (k ∷ ks) h =
    ap (λ b. cond b (k ∷ filter q ks) (filter q ks)) (h k (ap (λ b. b || among ks k) (eq-eqb k k refl)))
    ∙ ap (λ xs. k ∷ xs) (filter-whole q ks (λ j a. h j (or_right (k == j) (among ks j) a)))

rows-none : (f : ℕ → List ℕ) (a n : ℕ) → ((d : ℕ) → a ≤ d → d < a + n → f d ≡ []) → rows_of f a n ≡ []
rows-none f a zero h = refl
rows-none f a (suc n) h =
    ap (λ ks. sent_to a ks ++ rows_of f (a + 1) n) (h a (omega arith) (omega arith)) ∙ rows-none f (a + 1) n (λ d l m. h d (omega arith) (omega arith))

rows-one : (f : ℕ → List ℕ) (a n i : ℕ) → a ≤ i → i < a + n → ((d : ℕ) → a ≤ d → d < a + n → d ≢ i → f d ≡ []) → rows_of f a n ≡ sent_to i (f i)
rows-one f a zero i l m h = absurd (omega arith)
rows-one f a (suc n) i l m h = elim (cases_eq a i) [
  | inl same ↦
      ap (λ xs. sent_to a (f a) ++ xs) (rows-none f (a + 1) n (λ d o p. h d (omega arith) (omega arith) (λ e. omega arith)))
      ∙ append-nil (sent_to a (f a)) ∙ ap (λ (d : ℕ). sent_to d (f d)) same
  | inr other ↦
      ap (λ ks. sent_to a ks ++ rows_of f (a + 1) n) (h a (omega arith) (omega arith) other)
      ∙ rows-one f (a + 1) n i (omega arith) (omega arith) (λ d o p q. h d (omega arith) (omega arith) q)
]

rows-same : (f g : ℕ → List ℕ) (a n : ℕ) → ((d : ℕ) → a ≤ d → d < a + n → f d ≡ g d) → rows_of f a n ≡ rows_of g a n
rows-same f g a n h = flat_map-range-agree (λ d. sent_to d (f d)) (λ d. sent_to d (g d)) a n (λ d l b. ap (sent_to d) (h d l b))

module _ (f g : ℕ → List ℕ) (n : ℕ) where
  -- what a drone has in flight now and hadn't before
  abbrev news : ℕ → List ℕ
  news d = filter (λ k. not (among (f d) k)) (g d)

  news-rows : (a m : ℕ) → a + m ≤ n → filter (λ x. not (includes (rows_of f 0 n) x)) (rows_of g a m) ≡ rows_of news a m
  news-rows a zero l = refl
  news-rows a (suc m) l =
      filter-append (λ x. not (includes (rows_of f 0 n) x)) (sent_to a (g a)) (rows_of g (a + 1) m)
      ∙ ap (λ xs. xs ++ filter (λ x. not (includes (rows_of f 0 n) x)) (rows_of g (a + 1) m))
      (filter-sent_to (λ x. not (includes (rows_of f 0 n) x)) a (g a)
      ∙ ap (sent_to a) (filter_agree (λ k. not (includes (rows_of f 0 n) (record { drone = a; packet = k }))) (λ k. not (among (f a) k))
      (λ k. ap not (includes-rows f 0 n (record { drone = a; packet = k }) (omega arith) (omega arith))) (g a)))
      ∙ ap (λ xs. sent_to a (news a) ++ xs) (news-rows (a + 1) m (omega arith))

  -- all is new where none was there before
  pub news-all : ((d k : ℕ) → d < n → among (g d) k ≡ true → among (f d) k ≡ false) → rows_of g 0 n ≡ filter (λ x. not (includes (rows_of f 0 n) x)) (rows_of g 0 n)
  news-all h =
      sym (news-rows 0 n (omega arith) ∙ rows-same news g 0 n
      (λ d l m. filter-whole (λ k. not (among (f d) k)) (g d) (λ k a. ap not (h d k (omega arith) a))))

  -- what is new of one drone, where nothing changed for the others
  pub news-one : (i : ℕ) → i < n → ((d : ℕ) → d < n → d ≢ i → g d ≡ f d) →
      sent_to i (filter (λ k. not (among (f i) k)) (g i)) ≡ filter (λ x. not (includes (rows_of f 0 n) x)) (rows_of g 0 n)
  news-one i known h =
      sym (news-rows 0 n (omega arith) ∙ rows-one news 0 n i (omega arith) (omega arith)
      (λ d l m other. filter-none (λ k. not (among (f d) k)) (g d)
      (λ k a. ap not (ap (λ (ks : List ℕ). among ks k) (sym (h d (omega arith) other)) ∙ a))))
