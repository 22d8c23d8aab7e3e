-- A host to which nothing has happened.
use Rattle.upload_core.proofs.Prelude.{common_steps, ◌≡◌, ℕ, ◌+◌, ◌<◌, ◌≤◌, Bool, false, not, cond, List, [], ◌∷◌, ◌++◌, length, refl, ap, sym, ◌∙◌, arith, All, range_with_len, list_all, flat_map, eq-eqb, ne_eqb, false≢true, false_from_ne_true, All-nil, All-cons, All-from_get_or, Phase, Loading, Reading, Starting, Going, Sent, Upload, drone_count, Packets, all_settled, phase_of, all_packets, acked, sent_to, flight_in, flight_at, flight, count-loads, Settled-from, acked-nil, all_packets-each, ticks-nil, progress-nil, phase-inside, list_all-range-agree, flight_after-agree, InFlight, Row, HostStandsFor, packets_in, row_at, marked, counted, count_in, IsBetween, IsStarting, RowsStand, IsReady}
use Rattle.upload_core.proofs.RowLemmas.{row-flight}
use Rattle.upload_core.proofs.Windows.{range-one_more, flat_map-append_one}
use Rattle.upload_core.proofs.Standing.{IsUntired}

-- numbers that rise, none of which has a count
pub untired-rising : (a b : ℕ) (es : List InFlight) → IsBetween a b (packets_in es) → ((k : ℕ) → a ≤ k → count_in es k ≡ 0) → All IsUntired es
untired-rising a b [] rising none = All-nil IsUntired
untired-rising a b (e ∷ es) rising none =
    let from = rising.0 in
    let here : e.ticks ≡ 0 = sym (ap (λ (v : Bool). cond v e.ticks (count_in es e.packet)) (eq-eqb e.packet e.packet refl)) ∙ none e.packet from in
    All-cons IsUntired e es (omega arith)
    (untired-rising (e.packet + 1) b es rising.2
    (λ k l. sym (ap (λ (v : Bool). cond v e.ticks (count_in es k)) (ne_eqb e.packet k (λ same. omega (arith, same, l)))) ∙ none k (omega arith)))

-- the phase in which the first packet of all isn't acknowledged
phase-first : (s : Upload) → 1 ≤ drone_count s → (done : Packets) → done 0 0 ≡ false → Loading ≡ phase_of s done
unfolding phase_of
phase-first s some done blank =
    ap (λ (b : Bool). cond (not b) Loading (cond (not (all_settled s Reading done)) Reading Starting))
    (sym (false_from_ne_true (all_settled s Loading done)
    (λ all. let n = count-loads s 0 in false≢true (sym blank ∙ Settled-from s Loading done all 0 some 0 (omega arith) (omega arith)))))

module _ (s : Upload) (some : 1 ≤ drone_count s) (rows : List Row) (count : length rows ≡ drone_count s)
    (each : (d : ℕ) → d < drone_count s → IsStarting s d (row_at rows d)) where
  pub rows-begin : RowsStand s Loading rows
  rows-begin = record { count = count; each = λ d l. (each d l).stands }

  blank : marked rows 0 0 ≡ false
  blank = (each 0 some).blank 0

  pub phase-begin : Loading ≡ phase_of s (marked rows)
  phase-begin = phase-first s some (marked rows) blank

  pub ready-begin : IsReady s rows
  ready-begin = record {
    unfinished = false_from_ne_true (list_all (λ x. marked rows x.drone x.packet) (all_packets s))
        (λ all.
        let n = count-loads s 0 in
        let m = phase-inside s Loading 0 in
        false≢true (sym blank ∙ all_packets-each s (λ x. marked rows x.drone x.packet) all 0 0 some (omega arith)));
    low = All-from_get_or (λ (row : Row). All IsUntired row.window.items) rows (record { window = record { items = [] }; next = 0; until = 0 })
        (λ d l.
        let known : d < drone_count s = omega arith in
        let row = each d known in
        untired-rising 0 (row_at rows d).next (row_at rows d).window.items row.stands.shape.rising (λ k m. row.counts k));
  }

  pub stands-begin : HostStandsFor (record { session = s; marked = marked rows; counted = counted rows; progress = Going }) []
  stands-begin = record {
    answer = sym (progress-nil s some);
    marked = λ either d k l b. (each d l).blank k ∙ sym (acked-nil s d k);
    counted = λ going x l there. (each x.drone l).counts x.packet ∙ sym (ticks-nil s x);
  }

-- ---- what is in flight before any event

-- nothing is acknowledged yet
abbrev pub nothing : Packets
nothing d k = false

-- what is in flight of the first n drones then
abbrev pub first_windows : Upload → ℕ → List Sent
first_windows s n = flat_map (λ d. sent_to d (flight_in s Loading nothing d)) (range_with_len 0 n)

pub first-window : (s : Upload) (d : ℕ) (row : Row) → IsStarting s d row → packets_in row.window.items ≡ flight_in s Loading nothing d
first-window s d row starting = grind (arith, common_steps, row-flight, nothing, cond, list_all-range-agree)

pub first_windows-walk : (s : Upload) (n : ℕ) → first_windows s (n + 1) ≡ first_windows s n ++ sent_to n (flight_in s Loading nothing n)
first_windows-walk s n =
    ap (flat_map (λ d. sent_to d (flight_in s Loading nothing d))) (range-one_more n)
    ∙ flat_map-append_one (λ d. sent_to d (flight_in s Loading nothing d)) (range_with_len 0 n) n

pub first_windows-flight : (s : Upload) → 1 ≤ drone_count s → first_windows s (drone_count s) ≡ flight s []
unfolding flight_at
first_windows-flight s some =
    ap (λ (p : Phase). flight_at s p nothing) (phase-first s some nothing refl)
    ∙ flight_after-agree s nothing (acked s []) (λ d k l b. sym (acked-nil s d k))
