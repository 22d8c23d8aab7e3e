-- What is in flight of a row, and what one packet less or a tick more makes of it.
use Rattle.upload_core.proofs.Prelude.{filter-range-agree, common_steps, ◌≡◌, ◌≢◌, ◌==◌, ℕ, zero, suc, ◌+◌, ◌-◌, ◌<◌, ◌≤◌, Bool, true, false, not, cond, ◌||◌, eqb, List, [], ◌∷◌, ◌++◌, length, take, drop, map, filter, set, get_or, refl, ap, sym, subst, ◌∙◌, arith, inl, inr, All, range_with_len, list_all, list_any, cases_eq, eq-eqb, ne_eqb, false≢true, and_from, append-nil, append_assoc, take_at, take_all, length-map, map-append, All-nil, All-cons, All-append, All-filter, filter-append, Phase, Loading, Upload, write_count, load_count, first_of, count_of, Packets, allowed, flight_in, allowed-few, range-more, InFlight, Row, packets_in, among, is_past, is_marked, count_in, IsBetween, fresh, older, RowStands}
use Rattle.upload_core.proofs.Numbers.{all-weaker, range-split, between-append, between-without, between-out, past-yes, past-in, past-grown, past-without, open-split, not-past}

-- ---- packets and their counts

pub packets-fresh : (es : List InFlight) (ks : List ℕ) → packets_in (es ++ map fresh ks) ≡ packets_in es ++ ks
packets-fresh [] [] = refl
packets-fresh [] (k ∷ ks) = ap (λ xs. k ∷ xs) (packets-fresh [] ks)
packets-fresh (e ∷ es) ks = ap (λ xs. e.packet ∷ xs) (packets-fresh es ks)

pub count_in-fresh : (es : List InFlight) (ks : List ℕ) (j : ℕ) → count_in (es ++ map fresh ks) j ≡ count_in es j
count_in-fresh [] [] j = refl
count_in-fresh [] (k ∷ ks) j = ap (λ n. cond (k == j) 0 n) (count_in-fresh [] ks j) ∙ at (k == j) where
  at : (b : Bool) → ◌≡◌ {A = ℕ} (cond b 0 0) 0
  at true = refl
  at false = refl
count_in-fresh (e ∷ es) ks j = ap (λ n. cond (e.packet == j) e.ticks n) (count_in-fresh es ks j)

pub packets-without : (es : List InFlight) (k : ℕ) → packets_in (filter (λ e. not (e.packet == k)) es) ≡ filter (λ j. not (j == k)) (packets_in es)
packets-without [] k = refl
packets-without (e ∷ es) k = at (e.packet == k) (packets-without es k) where
  at : (b : Bool) → packets_in (filter (λ x. not (x.packet == k)) es) ≡ filter (λ j. not (j == k)) (packets_in es) →
      packets_in (cond (not b) (e ∷ filter (λ x. not (x.packet == k)) es) (filter (λ x. not (x.packet == k)) es))
      ≡ cond (not b) (e.packet ∷ filter (λ j. not (j == k)) (packets_in es)) (filter (λ j. not (j == k)) (packets_in es))
  at true rest = rest
  at false rest = ap (λ xs. e.packet ∷ xs) rest

pub count_in-without : (es : List InFlight) (k j : ℕ) → count_in (filter (λ e. not (e.packet == k)) es) j ≡ cond (j == k) 0 (count_in es j)
count_in-without [] k j = grind (arith, common_steps, eqb, cond)
count_in-without (e ∷ es) k j = grind (arith, common_steps, cases_eq, cond, not, filter, eq-eqb, ne_eqb, eqb, (count_in-without es k j))

pub age-step : (xs : List InFlight) (i : ℕ) → i < length xs →
    set (map older (take i xs) ++ drop i xs) i (older (get_or xs i (record { packet = 0; ticks = 0 }))) ≡ map older (take (i + 1) xs) ++ drop (i + 1) xs
age-step [] i l = absurd (omega arith)
age-step (x ∷ xs) zero l = refl
age-step (x ∷ xs) (suc i) l =
    ap (λ ys. older x ∷ ys) (age-step xs i (omega arith))
    ∙ ap (λ n. map older (take n (x ∷ xs)) ++ drop n (x ∷ xs)) (let e : suc (i + 1) ≡ suc i + 1 = omega arith in e)

pub count_in-older : (es : List InFlight) (k : ℕ) → count_in (map older es) k ≡ count_in es k + cond (list_any (λ j. j == k) (packets_in es)) 1 0
count_in-older [] k = refl
count_in-older (e ∷ es) k = at (e.packet == k) (count_in-older es k) where
  at : (b : Bool) → count_in (map older es) k ≡ count_in es k + cond (list_any (λ j. j == k) (packets_in es)) 1 0 →
      cond b (e.ticks + 1) (count_in (map older es) k) ≡ cond b e.ticks (count_in es k) + cond (b || list_any (λ j. j == k) (packets_in es)) 1 0
  at true rest = refl
  at false rest = rest

pub packets-older : (es : List InFlight) → packets_in (map older es) ≡ packets_in es
packets-older [] = refl
packets-older (e ∷ es) = ap (λ ks. e.packet ∷ ks) (packets-older es)

-- ---- a window that grows

-- what is in flight grows by the packets from `next` on, up to `later`
abbrev pub Grows : List InFlight → List InFlight → ℕ → ℕ → Type 0
Grows old new next later = new ≡ old ++ map fresh (range_with_len next (later - next))

pub grows-packets : (old new : List InFlight) (next later : ℕ) → Grows old new next later → packets_in new ≡ packets_in old ++ range_with_len next (later - next)
grows-packets old new next later g = ap packets_in g ∙ packets-fresh old (range_with_len next (later - next))

pub grows-rising : (a : ℕ) (old new : List InFlight) (next later : ℕ) → Grows old new next later → next ≤ later → a ≤ next → IsBetween a next (packets_in old) → IsBetween a later (packets_in new)
grows-rising a old new next later g l f h =
    subst (IsBetween a later) (sym (grows-packets old new next later g))
    (subst (λ (b : ℕ). IsBetween a b (packets_in old ++ range_with_len next (later - next))) (let e : next + (later - next) ≡ later = omega arith in e)
    (between-append a next (later - next) (packets_in old) f h))

pub grows-past : (a : ℕ) (old new : List InFlight) (next later : ℕ) → Grows old new next later → next ≤ later → IsBetween a next (packets_in old) →
    (j : ℕ) → is_past later (packets_in new) j ≡ is_past next (packets_in old) j
grows-past a old new next later g l h j =
    ap (λ (ks : List ℕ). is_past later ks j) (grows-packets old new next later g)
    ∙ ap (λ (n : ℕ). is_past n (packets_in old ++ range_with_len next (later - next)) j) (let e : later ≡ next + (later - next) = omega arith in e)
    ∙ past-grown a next (later - next) (packets_in old) j h

pub grows-counts : (old new : List InFlight) (next later : ℕ) → Grows old new next later → (j : ℕ) → count_in new j ≡ count_in old j
grows-counts old new next later g j = ap (λ (es : List InFlight). count_in es j) g ∙ count_in-fresh old (range_with_len next (later - next)) j

-- ---- one packet less

module _ (row : Row) (k : ℕ) (left : List InFlight) (is : left ≡ filter (λ e. not (e.packet == k)) row.window.items) where
  left-packets : packets_in left ≡ filter (λ j. not (j == k)) (packets_in row.window.items)
  left-packets = ap packets_in is ∙ packets-without row.window.items k

  pub left-rising : (a b : ℕ) → IsBetween a b (packets_in row.window.items) → IsBetween a b (packets_in left)
  left-rising a b h = subst (IsBetween a b) (sym left-packets) (between-without a b k (packets_in row.window.items) h)

  pub left-past : (a : ℕ) → IsBetween a row.next (packets_in row.window.items) → among (packets_in row.window.items) k ≡ true →
      (j : ℕ) → is_past row.next (packets_in left) j ≡ (is_marked row j || j == k)
  left-past a h found j = ap (λ (ks : List ℕ). is_past row.next ks j) left-packets ∙ past-without a row.next k (packets_in row.window.items) j h found

  pub left-counts : (j : ℕ) → j ≢ k → count_in left j ≡ count_in row.window.items j
  left-counts j other = ap (λ (es : List InFlight). count_in es j) is ∙ count_in-without row.window.items k j ∙ ap (λ b. cond b 0 (count_in row.window.items j)) (ne_eqb j k other)

  pub left-fewer : (j : ℕ) → count_in left j ≤ count_in row.window.items j
  left-fewer j = subst (λ (n : ℕ). n ≤ count_in row.window.items j) (sym (ap (λ (es : List InFlight). count_in es j) is ∙ count_in-without row.window.items k j)) (fewer (j == k)) where
    fewer : (b : Bool) → cond b 0 (count_in row.window.items j) ≤ count_in row.window.items j
    fewer true = omega arith
    fewer false = omega arith

  -- new are those from `next` on
  pub left-news : (a : ℕ) (new : List InFlight) (later : ℕ) → IsBetween a row.next (packets_in row.window.items) → Grows left new row.next later →
      filter (λ j. not (among (packets_in row.window.items) j)) (packets_in new) ≡ range_with_len row.next (later - row.next)
  left-news a new later h g =
      ap (filter (λ j. not (among (packets_in row.window.items) j))) (grows-packets left new row.next later g)
      ∙ filter-append (λ j. not (among (packets_in row.window.items) j)) (packets_in left) (range_with_len row.next (later - row.next))
      ∙ ap (λ (xs : List ℕ). xs ++ filter (λ j. not (among (packets_in row.window.items) j)) (range_with_len row.next (later - row.next)))
      (ap (filter (λ j. not (among (packets_in row.window.items) j))) left-packets ∙ gone (packets_in row.window.items) (λ j f. f))
      ∙ kept row.next (later - row.next) (omega arith) where
        ks : List ℕ
        ks = packets_in row.window.items

        or_right : (a : Bool) → {b : Bool} → b ≡ true → (a || b) ≡ true
        or_right true e = refl
        or_right false e = e

        gone : (xs : List ℕ) → ((j : ℕ) → among xs j ≡ true → among ks j ≡ true) → filter (λ j. not (among ks j)) (filter (λ j. not (j == k)) xs) ≡ []
        gone [] all = refl
        gone (x ∷ xs) all = at (x == k) (gone xs (λ j f. all j (or_right (x == j) f))) where
          here : among ks x ≡ true
          here = all x (ap (λ b. b || among xs x) (eq-eqb x x refl))

          at : (b : Bool) → filter (λ j. not (among ks j)) (filter (λ j. not (j == k)) xs) ≡ [] →
              filter (λ j. not (among ks j)) (cond (not b) (x ∷ filter (λ j. not (j == k)) xs) (filter (λ j. not (j == k)) xs)) ≡ []
          at true rest = rest
          at false rest =
              ap (λ b. cond (not b) (x ∷ filter (λ j. not (among ks j)) (filter (λ j. not (j == k)) xs)) (filter (λ j. not (among ks j)) (filter (λ j. not (j == k)) xs))) here ∙ rest

        kept : (b n : ℕ) → row.next ≤ b → filter (λ j. not (among ks j)) (range_with_len b n) ≡ range_with_len b n
        kept b zero l = refl
        kept b (suc n) l =
            ap (λ c. cond (not c) (b ∷ filter (λ j. not (among ks j)) (range_with_len (b + 1) n)) (filter (λ j. not (among ks j)) (range_with_len (b + 1) n))) (between-out a row.next ks b h (inr l))
            ∙ ap (λ xs. b ∷ xs) (kept (b + 1) n (omega arith))

-- ---- what may be in flight

all-below : (p : ℕ → Bool) (a n : ℕ) → ((k : ℕ) → a ≤ k → k < a + n → p k ≡ true) → list_all p (range_with_len a n) ≡ true
all-below p a zero h = refl
all-below p a (suc n) h =
    and_from (p a) (list_all p (range_with_len (a + 1) n)) (h a (omega arith) (omega arith)) (all-below p (a + 1) n (λ k l b. h k (omega arith) (omega arith)))

-- the same packets may be in flight while one is, and all of the phase once none is
module _ (s : Upload) (d : ℕ) (old new : ℕ → Bool) (more : (j : ℕ) → old j ≡ true → new j ≡ true) where
  pub allowed-same : (p : Phase) (until : ℕ) → until ≡ first_of s p d + allowed s p (λ i k. old k) d → (x : ℕ) → x < until → new x ≡ false →
      until ≡ first_of s p d + allowed s p (λ i k. new k) d
  allowed-same Loading until is x l opened = by_old (list_all old (range_with_len 0 (write_count s d))) refl is where
    by_old : (b : Bool) → list_all old (range_with_len 0 (write_count s d)) ≡ b → until ≡ 0 + cond b (load_count s d) (write_count s d) →
        until ≡ 0 + cond (list_all new (range_with_len 0 (write_count s d))) (load_count s d) (write_count s d)
    by_old true e u = u ∙ ap (λ b. 0 + cond b (load_count s d) (write_count s d)) (sym (all-weaker old new 0 (write_count s d) more e))
    by_old false e u = u ∙ ap (λ b. 0 + cond b (load_count s d) (write_count s d)) (sym (not-past new 0 (write_count s d) x (omega arith) (omega arith) opened))
  allowed-same p until is x l opened = is

  pub allowed-all : (p : Phase) (until end : ℕ) → until ≡ first_of s p d + allowed s p (λ i k. old k) d → end ≡ first_of s p d + count_of s p d →
      ((j : ℕ) → j < until → new j ≡ true) → end ≡ first_of s p d + allowed s p (λ i k. new k) d
  allowed-all Loading until end is last all =
      last ∙ ap (λ b. 0 + cond b (load_count s d) (write_count s d)) (sym (all-below new 0 (write_count s d) (λ k l b. all k (reaches (list_all old (range_with_len 0 (write_count s d))) is k b)))) where
        reaches : (b : Bool) → until ≡ 0 + cond b (load_count s d) (write_count s d) → (k : ℕ) → k < 0 + write_count s d → k < until
        reaches true u k l = omega arith
        reaches false u k l = omega arith
  allowed-all p until end is last all = last

-- ---- what is in flight of a row

pub row-flight : (s : Upload) (p : Phase) (d : ℕ) (row : Row) → RowStands s p d row → (done : Packets) → ((k : ℕ) → done d k ≡ is_marked row k) →
    allowed s p done d ≡ allowed s p (λ i k. is_marked row k) d → flight_in s p done d ≡ packets_in row.window.items
unfolding flight_in
row-flight s p d row stands done same reach =
    let h = stands.shape in
    let from = h.from in let past = h.past in let until = stands.until in
    ap (take 4) (filter-range-agree (λ k. not (done d k)) (λ k. not (is_marked row k)) (first_of s p d) (allowed s p done d) (λ k l b. ap not (same k)))
    ∙ ap (λ (n : ℕ). take 4 (filter (λ k. not (is_marked row k)) (range_with_len (first_of s p d) n))) (let e : allowed s p done d ≡ row.next - first_of s p d + (row.until - row.next) = omega arith in e)
    ∙ ap (take 4) (open-split (first_of s p d) row.next (row.until - row.next) (packets_in row.window.items) from h.rising)
    ∙ elim h.full [
      | inl four ↦ take_at (packets_in row.window.items) (range_with_len row.next (row.until - row.next)) 4 (length-map row.window.items (λ (e : InFlight). e.packet) ∙ four)
      | inr last ↦
          ap (λ (n : ℕ). take 4 (packets_in row.window.items ++ range_with_len row.next n)) (let e : row.until - row.next ≡ 0 = omega arith in e)
          ∙ ap (take 4) (append-nil (packets_in row.window.items))
          ∙ take_all 4 (packets_in row.window.items) (let few = h.few in let long = length-map row.window.items (λ (e : InFlight). e.packet) in omega arith)
    ]

-- nothing in flight: all of the phase is marked; something: not all is
pub row-settled : (s : Upload) (p : Phase) (d : ℕ) (row : Row) → RowStands s p d row → row.window.items ≡ [] →
    (row.next ≡ first_of s p d + count_of s p d) × (list_all (is_marked row) (range_with_len (first_of s p d) (count_of s p d)) ≡ true)
row-settled s p d row stands none = grind (arith, common_steps, past-yes, all-below, cond, false≢true)

pub row-open : (s : Upload) (p : Phase) (d : ℕ) (row : Row) → RowStands s p d row → (e : InFlight) (es : List InFlight) → row.window.items ≡ e ∷ es →
    list_all (is_marked row) (range_with_len (first_of s p d) (count_of s p d)) ≡ false
row-open s p d row stands e es is =
    let h = stands.shape in
    let rising : IsBetween (first_of s p d) row.next (e.packet ∷ packets_in es) = subst (λ (xs : List InFlight). IsBetween (first_of s p d) row.next (packets_in xs)) is h.rising in
    let few = allowed-few s p (λ i k. is_marked row k) d in
    let low = rising.0 in let below = rising.1 in let past = h.past in let until = stands.until in
    not-past (is_marked row) (first_of s p d) (count_of s p d) e.packet low (omega arith)
    (past-in row.next (packets_in row.window.items) e.packet (ap (λ (xs : List InFlight). among (packets_in xs) e.packet) is ∙ ap (λ b. b || among (packets_in es) e.packet) (eq-eqb e.packet e.packet refl)))

-- one packet more
pub grows-step : (old xs : List InFlight) (next k : ℕ) → next ≤ k → Grows old xs next k → Grows old (xs ++ fresh k ∷ []) next (k + 1)
grows-step old xs next k l g = grind (arith, common_steps, append_assoc, map-append, range-more)

-- ---- a row with one packet less

pub grows-twice : (a b c : List InFlight) (k l m : ℕ) → k ≤ l → l ≤ m → Grows a b k l → Grows b c l m → Grows a c k m
grows-twice a b c k l m f g one two =
    two ∙ ap (λ (es : List InFlight). es ++ map fresh (range_with_len l (m - l))) one
    ∙ append_assoc a (map fresh (range_with_len k (l - k))) (map fresh (range_with_len l (m - l)))
    ∙ ap (λ (es : List InFlight). a ++ es)
    (sym (map-append fresh (range_with_len k (l - k)) (range_with_len l (m - l)))
    ∙ ap (map fresh) (ap (λ (n : ℕ). range_with_len k (l - k) ++ range_with_len n (m - l)) (let e : l ≡ k + (l - k) = omega arith in e)
    ∙ sym (range-split k (l - k) (m - l)) ∙ ap (range_with_len k) (let e : l - k + (m - l) ≡ m - k = omega arith in e)))

pub all-fresh : (P : InFlight → Type 0) (es : List InFlight) (ks : List ℕ) → ((k : ℕ) → P (fresh k)) → All P es → All P (es ++ map fresh ks)
all-fresh P es ks new all = All-append P es (map fresh ks) all (each ks) where
  each : (xs : List ℕ) → All P (map fresh xs)
  each [] = All-nil P
  each (x ∷ xs) = All-cons P (fresh x) (map fresh xs) (new x) (each xs)

module _ (row : Row) (k : ℕ) (left : List InFlight) (is : left ≡ filter (λ e. not (e.packet == k)) row.window.items)
    (rising : IsBetween 0 row.next (packets_in row.window.items)) (found : among (packets_in row.window.items) k ≡ true)
    (new : List InFlight) (later : ℕ) (grown : Grows left new row.next later) (from : row.next ≤ later) where
  pub less-marks : (j : ℕ) → is_past later (packets_in new) j ≡ (is_marked row j || j == k)
  less-marks j = grows-past 0 left new row.next later grown from (left-rising row k left is 0 row.next rising) j ∙ left-past row k left is 0 rising found j

  less-more : (j : ℕ) → is_marked row j ≡ true → is_past later (packets_in new) j ≡ true
  less-more j e = less-marks j ∙ ap (λ b. b || j == k) e

  pub less-counts : (j : ℕ) → j ≢ k → count_in new j ≡ count_in row.window.items j
  less-counts j other = grows-counts left new row.next later grown j ∙ left-counts row k left is j other

  pub less-low : All (λ (e : InFlight). e.ticks < 20) row.window.items → All (λ (e : InFlight). e.ticks < 20) new
  less-low low =
      subst (All (λ (e : InFlight). e.ticks < 20)) (sym grown)
      (all-fresh (λ (e : InFlight). e.ticks < 20) left (range_with_len row.next (later - row.next)) (λ j. omega arith)
      (subst (All (λ (e : InFlight). e.ticks < 20)) (sym is) (All-filter (λ (e : InFlight). not (e.packet == k)) (λ (e : InFlight). e.ticks < 20) row.window.items low)))

  pub less-news : filter (λ j. not (among (packets_in row.window.items) j)) (packets_in new) ≡ range_with_len row.next (later - row.next)
  less-news = left-news row k left is 0 new later rising grown

  module _ (s : Upload) (p : Phase) (d : ℕ) (stands : RowStands s p d row) (few : length new ≤ 4) where
    pub less-rising : IsBetween (first_of s p d) later (packets_in new)
    less-rising =
        grows-rising (first_of s p d) left new row.next later grown from stands.shape.from
        (left-rising row k left is (first_of s p d) row.next stands.shape.rising)

    -- where something is in flight, no other packets may be than before
    pub until-some : (length new ≡ 0 → ⊥) → later ≤ row.until → row.until ≡ first_of s p d + allowed s p (λ i j. is_past later (packets_in new) j) d
    until-some some past = by_head new refl where
      by_head : (es : List InFlight) → new ≡ es → row.until ≡ first_of s p d + allowed s p (λ i j. is_past later (packets_in new) j) d
      by_head [] e = absurd (some (ap (λ (xs : List InFlight). length xs) e))
      by_head (x ∷ es) e =
          let between : IsBetween (first_of s p d) later (x.packet ∷ packets_in es) = subst (λ (xs : List InFlight). IsBetween (first_of s p d) later (packets_in xs)) e less-rising in
          let below = between.1 in
          allowed-same s d (is_marked row) (is_past later (packets_in new)) less-more p row.until stands.until x.packet (omega arith)
          (past-in later (packets_in new) x.packet (ap (λ (xs : List InFlight). among (packets_in xs) x.packet) e ∙ ap (λ b. b || among (packets_in es) x.packet) (eq-eqb x.packet x.packet refl)))

    -- where nothing was left, all of the phase may be
    pub until-none : (end : ℕ) → end ≡ first_of s p d + count_of s p d → ((j : ℕ) → j < row.until → is_past later (packets_in new) j ≡ true) →
        end ≡ first_of s p d + allowed s p (λ i j. is_past later (packets_in new) j) d
    until-none end last all = allowed-all s d (is_marked row) (is_past later (packets_in new)) less-more p row.until end stands.until last all

pub packets-some : (es : List InFlight) (b : Bool) → b ≡ eqb (length es) 0 → b ≡ false → length es ≡ 0 → ⊥
packets-some [] b is e f = false≢true (sym e ∙ is)
packets-some (x ∷ es) b is e f = omega arith
