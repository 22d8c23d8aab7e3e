-- What is in flight stays so until it is acknowledged; so what isn't in flight and isn't acknowledged never
-- was, and has no ticks.
use Rattle.upload_core.proofs.Prelude.{common_steps, ◌≡◌, ◌⊎◌, ◌==◌, ℕ, zero, suc, ◌+◌, ◌<◌, ◌≤◌, Bool, true, false, not, cond, ◌&&◌, ◌||◌, eqb, List, [], ◌∷◌, ◌++◌, take, filter, refl, ap, sym, ◌∙◌, arith, Some, inl, inr, range_with_len, list_all, flat_map, cases_eq, eq-eqb, ne_eqb, and_left, false≢true, false_from_ne_true, list_any-append, Event, Phase, Loading, Reading, Starting, Sent, Upload, drone_count, write_count, load_count, first_of, count_of, Packets, all_settled, phase_of, allowed, flight_in, flight_at, flight_after, flight, sent_to, acked, is_tick, includes, ticks, list_all-range, allowed-few, acked-more, ticks-push, ticks-nil, among}
use Rattle.upload_model.proofs.Sending.{by_last}
use Rattle.upload_core.proofs.Numbers.{all-weaker, or_nothing, shut}

-- ---- membership

includes-sent_to : (i : ℕ) (ks : List ℕ) (x : Sent) → includes (sent_to i ks) x ≡ (eqb i x.drone && among ks x.packet)
includes-sent_to i [] x = grind (arith, common_steps, eqb)
includes-sent_to i (k ∷ ks) x =
    ap (λ (b : Bool). (eqb i x.drone && eqb k x.packet) || b) (includes-sent_to i ks x) ∙ at (eqb i x.drone) (eqb k x.packet) (among ks x.packet) where
      at : (a b c : Bool) → ((a && b) || (a && c)) ≡ (a && (b || c))
      at true b c = refl
      at false b c = refl

-- drones that aren't among these have nothing in flight
pub includes-out : (f : ℕ → List ℕ) (a n : ℕ) (x : Sent) → (x.drone < a) ⊎ (a + n ≤ x.drone) → includes (flat_map (λ d. sent_to d (f d)) (range_with_len a n)) x ≡ false
includes-out f a zero x out = refl
includes-out f a (suc n) x out =
    list_any-append (λ y. y.drone == x.drone && y.packet == x.packet) (sent_to a (f a)) (flat_map (λ d. sent_to d (f d)) (range_with_len (a + 1) n))
    ∙ ap (λ (b : Bool). b || includes (flat_map (λ d. sent_to d (f d)) (range_with_len (a + 1) n)) x)
    (includes-sent_to a (f a) x ∙ and_left (eqb a x.drone) (among (f a) x.packet) (ne_eqb a x.drone (λ e. elim out [ inl l ↦ omega arith | inr l ↦ omega arith ])))
    ∙ includes-out f (a + 1) n x (elim out [ inl l ↦ inl (omega arith) | inr l ↦ inr (omega arith) ])

pub includes-rows : (f : ℕ → List ℕ) (a n : ℕ) (x : Sent) → a ≤ x.drone → x.drone < a + n →
    includes (flat_map (λ d. sent_to d (f d)) (range_with_len a n)) x ≡ among (f x.drone) x.packet
includes-rows f a zero x l h = absurd (omega arith)
includes-rows f a (suc n) x l h =
    list_any-append (λ y. y.drone == x.drone && y.packet == x.packet) (sent_to a (f a)) (flat_map (λ d. sent_to d (f d)) (range_with_len (a + 1) n))
    ∙ elim (cases_eq a x.drone) [
      | inl same ↦
          ap (λ (b : Bool). b || includes (flat_map (λ d. sent_to d (f d)) (range_with_len (a + 1) n)) x)
          (includes-sent_to a (f a) x ∙ ap (λ (b : Bool). b && among (f a) x.packet) (eq-eqb a x.drone same) ∙ ap (λ (i : ℕ). among (f i) x.packet) same)
          ∙ ap (λ (b : Bool). among (f x.drone) x.packet || b) (includes-out f (a + 1) n x (inl (omega arith)))
          ∙ or_nothing (among (f x.drone) x.packet)
      | inr other ↦
          ap (λ (b : Bool). b || includes (flat_map (λ d. sent_to d (f d)) (range_with_len (a + 1) n)) x)
          (includes-sent_to a (f a) x ∙ and_left (eqb a x.drone) (among (f a) x.packet) (ne_eqb a x.drone other))
          ∙ includes-rows f (a + 1) n x (omega arith) (omega arith)
    ]

pub includes-flight_at : (s : Upload) (p : Phase) (done : Packets) (x : Sent) → x.drone < drone_count s → includes (flight_at s p done) x ≡ among (flight_in s p done x.drone) x.packet
unfolding flight_at
includes-flight_at s p done x l = includes-rows (λ d. flight_in s p done d) 0 (drone_count s) x (omega arith) (omega arith)

-- ---- the first n of a range that pass

-- a number among them stays so where fewer pass
among-stays : (p q : ℕ → Bool) → ((j : ℕ) → q j ≡ true → p j ≡ true) → (a m l n i k : ℕ) → m ≤ l → n ≤ i →
    among (take n (filter p (range_with_len a m))) k ≡ true → q k ≡ true → among (take i (filter q (range_with_len a l))) k ≡ true
among-stays p q sub a zero l n i k f g found here = grind (arith, common_steps)
among-stays p q sub a (suc m) zero n i k f g found here = absurd (omega arith)
among-stays p q sub a (suc m) (suc l) n i k f g found here =
    by_p (λ n i g found. among-stays p q sub (a + 1) m l n i k (omega arith) g found here) (p a) refl n i g found where
      rest : List ℕ
      rest = filter p (range_with_len (a + 1) m)

      less : List ℕ
      less = filter q (range_with_len (a + 1) l)

      Later : Type 0
      Later = (n i : ℕ) → n ≤ i → among (take n rest) k ≡ true → among (take i less) k ≡ true

      by_q : Later → (b : Bool) → q a ≡ b → (n i : ℕ) → suc n ≤ i → (a == k || among (take n rest) k) ≡ true → among (take i (cond b (a ∷ less) less)) k ≡ true
      by_q later b e n zero g found = absurd (omega arith)
      by_q later true e n (suc i) g found = elim (cases_eq a k) [
        | inl same ↦ ap (λ c. c || among (take i less) k) (eq-eqb a k same)
        | inr other ↦
            ap (λ c. c || among (take i less) k) (ne_eqb a k other)
            ∙ later n i (omega arith) (sym (ap (λ c. c || among (take n rest) k) (ne_eqb a k other)) ∙ found)
      ]
      by_q later false e n (suc i) g found = elim (cases_eq a k) [
        | inl same ↦ absurd (false≢true (sym e ∙ ap q same ∙ here))
        | inr other ↦ later n (suc i) (omega arith) (sym (ap (λ c. c || among (take n rest) k) (ne_eqb a k other)) ∙ found)
      ]

      by_p : Later → (b : Bool) → p a ≡ b → (n i : ℕ) → n ≤ i → among (take n (cond b (a ∷ rest) rest)) k ≡ true → among (take i (cond (q a) (a ∷ less) less)) k ≡ true
      by_p later true e zero i g found = absurd (false≢true found)
      by_p later true e (suc n) i g found = by_q later (q a) refl n i g found
      by_p later false e n i g found =
          let not_q : q a ≡ false = false_from_ne_true (q a) (λ t. false≢true (sym e ∙ sub a t)) in
          ap (λ b. among (take i (cond b (a ∷ less) less)) k) not_q ∙ later n i g found

-- what is among the first that pass is in the range and passes
pub among-passes : (p : ℕ → Bool) (a m n k : ℕ) → among (take n (filter p (range_with_len a m))) k ≡ true → (a ≤ k) × (k < a + m) × (p k ≡ true)
among-passes p a zero n k found = grind (arith, common_steps)
among-passes p a (suc m) n k found = by_p (λ n found. wider (among-passes p (a + 1) m n k found)) (p a) refl n found where
  rest : List ℕ
  rest = filter p (range_with_len (a + 1) m)

  wider : (a + 1 ≤ k) × (k < a + 1 + m) × (p k ≡ true) → (a ≤ k) × (k < a + suc m) × (p k ≡ true)
  wider r = let l = r.0 in let b = r.1 in (omega arith, omega arith, r.2)

  by_p : ((n : ℕ) → among (take n rest) k ≡ true → (a ≤ k) × (k < a + suc m) × (p k ≡ true)) → (b : Bool) → p a ≡ b → (n : ℕ) →
      among (take n (cond b (a ∷ rest) rest)) k ≡ true → (a ≤ k) × (k < a + suc m) × (p k ≡ true)
  by_p later true e zero found = absurd (false≢true found)
  by_p later true e (suc n) found = elim (cases_eq a k) [
    | inl same ↦ (omega arith, omega arith, sym (ap p same) ∙ e)
    | inr other ↦ later n (sym (ap (λ c. c || among (take n rest) k) (ne_eqb a k other)) ∙ found)
  ]
  by_p later false e n found = later n found

-- ---- what is in flight

pub flight-open : (s : Upload) (p : Phase) (done : Packets) (d k : ℕ) → among (flight_in s p done d) k ≡ true →
    (first_of s p d ≤ k) × (k < first_of s p d + count_of s p d) × (done d k ≡ false)
unfolding flight_in
flight-open s p done d k found =
    let r = among-passes (λ j. not (done d j)) (first_of s p d) (allowed s p done d) 4 k found in
    let few = allowed-few s p done d in let b = r.1 in
    (r.0, omega arith, opened (done d k) r.2) where
      opened : (b : Bool) → not b ≡ true → b ≡ false
      opened true e = absurd (false≢true e)
      opened false e = refl

module _ (s : Upload) (done more : Packets) (sub : (d k : ℕ) → done d k ≡ true → more d k ≡ true) where
  pub settled-more : (p : Phase) → all_settled s p done ≡ true → all_settled s p more ≡ true
  unfolding all_settled
  settled-more p e =
      all-weaker (λ d. list_all (done d) (range_with_len (first_of s p d) (count_of s p d))) (λ d. list_all (more d) (range_with_len (first_of s p d) (count_of s p d))) 0 (drone_count s)
      (λ d f. all-weaker (done d) (more d) (first_of s p d) (count_of s p d) (sub d) f) e

  allowed-more : (p : Phase) (d : ℕ) → allowed s p done d ≤ allowed s p more d
  allowed-more Loading d = by_written (list_all (done d) (range_with_len 0 (write_count s d))) refl where
    at_least : (b : Bool) → write_count s d ≤ cond b (load_count s d) (write_count s d)
    at_least true = omega arith
    at_least false = omega arith

    by_written : (b : Bool) → list_all (done d) (range_with_len 0 (write_count s d)) ≡ b →
        cond b (load_count s d) (write_count s d) ≤ cond (list_all (more d) (range_with_len 0 (write_count s d))) (load_count s d) (write_count s d)
    by_written true e =
        let same : cond (list_all (more d) (range_with_len 0 (write_count s d))) (load_count s d) (write_count s d) ≡ load_count s d
        = ap (λ b. cond b (load_count s d) (write_count s d)) (all-weaker (done d) (more d) 0 (write_count s d) (sub d) e) in
        omega arith
    by_written false e = at_least (list_all (more d) (range_with_len 0 (write_count s d)))
  allowed-more p d = omega arith

  in-stays : (p : Phase) (d k : ℕ) → among (flight_in s p done d) k ≡ true → more d k ≡ false → among (flight_in s p more d) k ≡ true
  unfolding flight_in
  in-stays p d k found here =
      among-stays (λ j. not (done d j)) (λ j. not (more d j)) (λ j e. fewer (done d j) (more d j) (sub d j) e) (first_of s p d) (allowed s p done d) (allowed s p more d) 4 4 k
      (allowed-more p d) (omega arith) found (ap not here) where
        fewer : (a b : Bool) → (a ≡ true → b ≡ true) → not b ≡ true → not a ≡ true
        fewer true b h e = absurd (false≢true (sym (ap not (h refl)) ∙ e))
        fewer false b h e = refl

  -- a phase with a packet that isn't acknowledged isn't complete
  unsettled : (p : Phase) (d k : ℕ) → d < drone_count s → first_of s p d ≤ k → k < first_of s p d + count_of s p d → more d k ≡ false → all_settled s p more ≡ false
  unfolding all_settled
  unsettled p d k l a b here =
      false_from_ne_true (list_all (λ i. list_all (more i) (range_with_len (first_of s p i) (count_of s p i))) (range_with_len 0 (drone_count s)))
      (λ all. false≢true (sym here ∙ list_all-range (more d) (first_of s p d) (count_of s p d)
      (list_all-range (λ i. list_all (more i) (range_with_len (first_of s p i) (count_of s p i))) 0 (drone_count s) all d (omega arith) (omega arith)) k a b))

  phase-stays : (d k : ℕ) → d < drone_count s → first_of s (phase_of s done) d ≤ k → k < first_of s (phase_of s done) d + count_of s (phase_of s done) d → more d k ≡ false →
      phase_of s more ≡ phase_of s done
  unfolding phase_of
  phase-stays d k l a b here = by_loading (all_settled s Loading done) refl a b where
    by_reading : (c : Bool) → all_settled s Reading done ≡ c → all_settled s Loading more ≡ true →
        first_of s (cond (not c) Reading Starting) d ≤ k → k < first_of s (cond (not c) Reading Starting) d + count_of s (cond (not c) Reading Starting) d →
        cond (not (all_settled s Loading more)) Loading (cond (not (all_settled s Reading more)) Reading Starting) ≡ cond (not c) Reading Starting
    by_reading true e loaded a b =
        ap (λ t. cond (not t) Loading (cond (not (all_settled s Reading more)) Reading Starting)) loaded ∙ ap (λ t. cond (not t) Reading Starting) (settled-more Reading e)
    by_reading false e loaded a b =
        ap (λ t. cond (not t) Loading (cond (not (all_settled s Reading more)) Reading Starting)) loaded ∙ ap (λ t. cond (not t) Reading Starting) (unsettled Reading d k l a b here)

    by_loading : (c : Bool) → all_settled s Loading done ≡ c →
        first_of s (cond (not c) Loading (cond (not (all_settled s Reading done)) Reading Starting)) d ≤ k →
        k < first_of s (cond (not c) Loading (cond (not (all_settled s Reading done)) Reading Starting)) d + count_of s (cond (not c) Loading (cond (not (all_settled s Reading done)) Reading Starting)) d →
        cond (not (all_settled s Loading more)) Loading (cond (not (all_settled s Reading more)) Reading Starting) ≡ cond (not c) Loading (cond (not (all_settled s Reading done)) Reading Starting)
    by_loading true e a b = by_reading (all_settled s Reading done) refl (settled-more Loading e) a b
    by_loading false e a b = ap (λ t. cond (not t) Loading (cond (not (all_settled s Reading more)) Reading Starting)) (unsettled Loading d k l a b here)

  pub flight-stays : (x : Sent) → x.drone < drone_count s → includes (flight_after s done) x ≡ true → more x.drone x.packet ≡ false → includes (flight_after s more) x ≡ true
  flight-stays x l found here =
      let before = sym (includes-flight_at s (phase_of s done) done x l) ∙ found in
      let place = flight-open s (phase_of s done) done x.drone x.packet before in
      includes-flight_at s (phase_of s more) more x l
      ∙ ap (λ (p : Phase). among (flight_in s p more x.drone) x.packet) (phase-stays x.drone x.packet l place.0 place.1 here)
      ∙ in-stays (phase_of s done) x.drone x.packet before here

-- what isn't in flight and isn't acknowledged has no ticks
pub ticks-none : (s : Upload) (h : List Event) (x : Sent) → x.drone < drone_count s → acked s h x.drone x.packet ≡ false → includes (flight s h) x ≡ false → ticks s h x ≡ 0
ticks-none s h x l =
    by_last (λ g. acked s g x.drone x.packet ≡ false → includes (flight s g) x ≡ false → ticks s g x ≡ 0)
    (λ a b. ticks-nil s x) one h where
      one : (g : List Event) (e : Event) → (acked s g x.drone x.packet ≡ false → includes (flight s g) x ≡ false → ticks s g x ≡ 0) →
          acked s (g ++ e ∷ []) x.drone x.packet ≡ false → includes (flight s (g ++ e ∷ [])) x ≡ false → ticks s (g ++ e ∷ []) x ≡ 0
      one g e before opened out =
          let old : acked s g x.drone x.packet ≡ false = false_from_ne_true (acked s g x.drone x.packet) (λ t. false≢true (sym opened ∙ acked-more s g (e ∷ []) x.drone x.packet t)) in
          let was : includes (flight s g) x ≡ false
          = false_from_ne_true (includes (flight s g) x)
          (λ t. false≢true (sym out ∙ flight-stays s (acked s g) (acked s (g ++ e ∷ [])) (λ d k. acked-more s g (e ∷ []) d k) x l t opened)) in
          ticks-push s g e x ∙ ap (λ (n : ℕ). n + cond (is_tick (Some e) && includes (flight s g) x) 1 0) (before old was)
          ∙ ap (λ (b : Bool). 0 + cond (is_tick (Some e) && b) 1 0) was ∙ ap (λ (b : Bool). 0 + cond b 1 0) (shut (is_tick (Some e)))
