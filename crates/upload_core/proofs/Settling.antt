-- A packet that is acknowledged, and what it lets into flight.
use Rattle.upload_core.proofs.Prelude.{common_steps, ◌≡◌, ◌≢◌, ◌==◌, ℕ, ◌+◌, ◌<◌, ◌≤◌, Bool, true, false, not, cond, ◌&&◌, ◌||◌, List, [], ◌∷◌, length, filter, set, refl, ap, sym, subst, ◌∙◌, arith, inl, inr, All, range_with_len, cases_eq, cases_lt, eq-eqb, ne_eqb, false≢true, false_from_ne_true, or_parts, or_left, or_right, and_from, All-set, All-from_get_or, length-set, Phase, Sent, Upload, drone_count, first_of, count_of, phase_of, includes, flight_after, sent_to, Settled-from, allowed-few, InFlight, Row, packets_in, among, is_marked, row_at, marked, window_at, counted, count_in, IsBegun, IsLow, IsRow, RowStands, RowsStand, in_windows}
use Rattle.std.proofs.lemmas.List.Filters.{length-filter_both}
use Rattle.std.proofs.lemmas.List.FromFn.{length-range_with_len}
use Rattle.upload_core.proofs.Numbers.{between-weaker, or_nothing, past-in}
use Rattle.upload_core.proofs.Beginning.{untired-rising}
use Rattle.upload_core.proofs.Staying.{flight-open, includes-out}
use Rattle.upload_core.proofs.Windows.{row_at-set_same, row_at-set_other, window-flight, windows-flight, includes-windows, all-settled, news-one, news-all}
use Rattle.upload_core.proofs.Walks.{all-at}
use Rattle.upload_core.proofs.Phases.{begun-phase}

-- ---- counts

-- what isn't in flight has no count
count-none : (es : List InFlight) (k : ℕ) → among (packets_in es) k ≡ false → count_in es k ≡ 0
count-none [] k h = refl
count-none (e ∷ es) k h =
    let parts = or_parts (e.packet == k) (among (packets_in es) k) h in
    ap (λ (b : Bool). cond b e.ticks (count_in es k)) parts.0 ∙ count-none es k parts.1

count-known : (es : List InFlight) (k : ℕ) → count_in es k ≡ cond (among (packets_in es) k) (count_in es k) 0
count-known es k = grind (arith, common_steps, cond, count-none)

-- where all counts are 0, none is as high as the host waits
pub low-rows : (s : Upload) (p : Phase) (rows : List Row) → RowsStand s p rows → ((d k : ℕ) → counted rows d k ≡ 0) → IsLow rows
low-rows s p rows stand none =
    All-from_get_or (λ (row : Row). All (λ (e : InFlight). e.ticks < 20) row.window.items) rows (record { window = record { items = [] }; next = 0; until = 0 })
    (λ i l. untired-rising (first_of s p i) (row_at rows i).next (row_at rows i).window.items
    (stand.each i (let n = stand.count in omega arith)).shape.rising (λ k m. none i k))

-- ---- what is in flight

module _ (s : Upload) (p : Phase) (rows : List Row) (stand : RowsStand s p rows) (phase : p ≡ phase_of s (marked rows)) where
  pub flight-includes : (x : Sent) → x.drone < drone_count s → includes (flight_after s (marked rows)) x ≡ among (window_at rows x.drone) x.packet
  flight-includes x l = ap (λ (xs : List Sent). includes xs x) (windows-flight s p rows stand phase) ∙ includes-windows rows (drone_count s) x l

  pub flight-known : (x : Sent) → includes (flight_after s (marked rows)) x ≡ true → x.drone < drone_count s
  flight-known x there = elim (cases_lt x.drone (drone_count s)) [
    | inl l ↦ l
    | inr past ↦
        absurd (false≢true (sym (includes-out (window_at rows) 0 (drone_count s) x (inr (omega arith))) ∙ ap (λ (xs : List Sent). includes xs x) (sym (windows-flight s p rows stand phase)) ∙ there))
  ]

-- ---- one packet less in flight

-- packet k of drone d, which was in flight, is acknowledged now
pub record IsLess (s : Upload) (p : Phase) (d k : ℕ) (rows less : List Row) : Type 0 where
  pub known : d < drone_count s
  pub found : among (window_at rows d) k ≡ true
  pub before : RowsStand s p rows
  pub phase : p ≡ phase_of s (marked rows)
  pub after : RowsStand s p less
  pub marks : (i j : ℕ) → marked less i j ≡ (marked rows i j || (d == i && k == j))
  pub others : (i : ℕ) → i ≢ d → row_at less i ≡ row_at rows i
  pub counts : (j : ℕ) → j ≢ k → counted less d j ≡ counted rows d j

module _ (s : Upload) (p : Phase) (d k : ℕ) (rows less : List Row) (h : IsLess s p d k rows less) where
  marked-now : (i j : ℕ) → d ≡ i → k ≡ j → marked less i j ≡ true
  marked-now i j e f = h.marks i j ∙ or_right (marked rows i j) (d == i && k == j) (and_from (d == i) (k == j) (eq-eqb d i e) (eq-eqb k j f))

  pub less-begun : IsBegun s (marked less) p
  less-begun = begun-phase s p (marked rows) (marked less) h.phase (λ i j e. h.marks i j ∙ or_left (marked rows i j) (d == i && k == j) e)

  -- what is still in flight keeps its count
  counts-kept : (x : Sent) → among (window_at less x.drone) x.packet ≡ true → counted less x.drone x.packet ≡ counted rows x.drone x.packet
  counts-kept x there = elim (cases_eq x.drone d) [
    | inl same ↦
        subst (λ (i : ℕ). counted less i x.packet ≡ counted rows i x.packet) (sym same)
        (h.counts x.packet
        (λ e. false≢true (sym (past-in (row_at less x.drone).next (window_at less x.drone) x.packet there) ∙ marked-now x.drone x.packet (sym same) (sym e))))
    | inr other ↦ ap (λ (r : Row). count_in r.window.items x.packet) (h.others x.drone other)
  ]

  -- the phase goes on
  module _ (stays : p ≡ phase_of s (marked less)) where
    pub less-counts_in : (x : Sent) → includes (flight_after s (marked less)) x ≡ true →
        counted less x.drone x.packet ≡ cond (includes (flight_after s (marked rows)) x) (counted rows x.drone x.packet) 0
    less-counts_in x there =
        let l = flight-known s p less h.after stays x there in
        counts-kept x (sym (flight-includes s p less h.after stays x l) ∙ there)
        ∙ count-known (row_at rows x.drone).window.items x.packet
        ∙ ap (λ (b : Bool). cond b (counted rows x.drone x.packet) 0) (sym (flight-includes s p rows h.before h.phase x l))

    pub less-sent : sent_to d (filter (λ j. not (among (window_at rows d) j)) (window_at less d))
        ≡ filter (λ x. not (includes (flight_after s (marked rows)) x)) (flight_after s (marked less))
    less-sent =
        news-one (window_at rows) (window_at less) (drone_count s) d h.known (λ i l other. ap (λ (r : Row). packets_in r.window.items) (h.others i other))
        ∙ ap (λ (xs : List Sent). filter (λ x. not (includes xs x)) (in_windows less (drone_count s))) (sym (windows-flight s p rows h.before h.phase))
        ∙ ap (λ (xs : List Sent). filter (λ x. not (includes (flight_after s (marked rows)) x)) xs) (sym (windows-flight s p less h.after stays))

  -- the phase is complete, and all that is in flight now wasn't before
  module _ (none : (i : ℕ) → i < drone_count s → (row_at less i).window.items ≡ []) (q : Phase) (later : List Row) (stand : RowsStand s q later)
      (phase : q ≡ phase_of s (marked later)) (same : (i j : ℕ) → marked later i j ≡ marked less i j) where
    apart : (i j : ℕ) → i < drone_count s → among (window_at later i) j ≡ true → among (window_at rows i) j ≡ false
    apart i j l there =
        false_from_ne_true (among (window_at rows i) j)
        (λ was.
        let place = flight-open s p (marked rows) i j (ap (λ (ks : List ℕ). among ks j) (window-flight s p rows h.before i l) ∙ was) in
        let done = Settled-from s p (marked less) (all-settled s p less h.after none) i l j place.0 place.1 in
        false≢true (sym (past-in (row_at later i).next (window_at later i) j there) ∙ same i j ∙ done))

    pub later-counts : ((i j : ℕ) → counted later i j ≡ 0) → (x : Sent) → includes (flight_after s (marked later)) x ≡ true →
        counted later x.drone x.packet ≡ cond (includes (flight_after s (marked rows)) x) (counted rows x.drone x.packet) 0
    later-counts blank x there =
        let l = flight-known s q later stand phase x there in
        blank x.drone x.packet
        ∙ ap (λ (b : Bool). cond b (counted rows x.drone x.packet) 0)
        (sym (flight-includes s p rows h.before h.phase x l ∙ apart x.drone x.packet l (sym (flight-includes s q later stand phase x l) ∙ there)))

    pub later-sent : in_windows later (drone_count s) ≡ filter (λ x. not (includes (flight_after s (marked rows)) x)) (flight_after s (marked later))
    later-sent =
        news-all (window_at rows) (window_at later) (drone_count s) (λ i j l there. apart i j l there)
        ∙ ap (λ (xs : List Sent). filter (λ x. not (includes xs x)) (in_windows later (drone_count s))) (sym (windows-flight s p rows h.before h.phase))
        ∙ ap (λ (xs : List Sent). filter (λ x. not (includes (flight_after s (marked rows)) x)) xs) (sym (windows-flight s q later stand phase))

-- ---- rows of which one changes

turned : (j k : ℕ) → (j == k) ≡ (k == j)
turned j k = grind (arith, common_steps, cases_eq, eq-eqb, ne_eqb)

pub row-from_zero : (a : ℕ) (row : Row) → IsRow a row → IsRow 0 row
row-from_zero a row h = grind (arith, common_steps, between-weaker)

pub row-until : (s : Upload) (p : Phase) (d : ℕ) (row : Row) → RowStands s p d row → row.until ≤ first_of s p d + count_of s p d
row-until s p d row stands = grind (arith, common_steps, allowed-few)

-- as many packets are new as there are in flight, at most
pub news-few : (old new : List ℕ) (a n : ℕ) → filter (λ j. not (among old j)) new ≡ range_with_len a n → length new ≤ 4 → n ≤ 4
news-few old new a n is few =
    let long : length (filter (λ j. not (among old j)) new) ≡ n = ap (λ (xs : List ℕ). length xs) is ∙ length-range_with_len a n in
    let both = length-filter_both (λ j. not (among old j)) (λ j. not (not (among old j))) (λ j. refl) new in
    omega (arith, long, both, few)

module _ (rows : List Row) (d : ℕ) (row : Row) (fits : d < length rows) where
  pub set-stands : (s : Upload) (p : Phase) → RowsStand s p rows → RowStands s p d row → RowsStand s p (set rows d row)
  set-stands s p stand here = record {
    count = length-set rows d row ∙ stand.count;
    each = λ i l. elim (cases_eq i d) [
      | inl same ↦
          subst (λ (j : ℕ). RowStands s p j (row_at (set rows d row) j)) (sym same) (subst (RowStands s p d) (sym (row_at-set_same rows d row fits)) here)
      | inr other ↦ subst (RowStands s p i) (sym (row_at-set_other rows d i row other)) (stand.each i l)
    ];
  }

  pub set-marks : (k : ℕ) → ((j : ℕ) → is_marked row j ≡ (is_marked (row_at rows d) j || j == k)) →
      (i j : ℕ) → marked (set rows d row) i j ≡ (marked rows i j || (d == i && k == j))
  set-marks k marks i j = elim (cases_eq d i) [
    | inl same ↦
        subst (λ (n : ℕ). marked (set rows d row) n j ≡ (marked rows n j || (d == n && k == j))) same
        (ap (λ (r : Row). is_marked r j) (row_at-set_same rows d row fits) ∙ marks j
        ∙ ap (λ (b : Bool). marked rows d j || b) (turned j k ∙ sym (ap (λ (b : Bool). b && k == j) (eq-eqb d d refl))))
    | inr other ↦
        ap (λ (r : Row). is_marked r j) (row_at-set_other rows d i row (λ e. other (sym e)))
        ∙ sym (ap (λ (b : Bool). marked rows i j || (b && k == j)) (ne_eqb d i other) ∙ or_nothing (marked rows i j))
  ]

  pub set-low : (All (λ (e : InFlight). e.ticks < 20) (row_at rows d).window.items → All (λ (e : InFlight). e.ticks < 20) row.window.items) → IsLow rows → IsLow (set rows d row)
  set-low low all = All-set (λ (r : Row). All (λ (e : InFlight). e.ticks < 20) r.window.items) rows d row (low (all-at rows all d fits)) all
