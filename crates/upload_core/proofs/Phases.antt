-- The phase that an upload is in, and whether all is acknowledged.
use Rattle.upload_core.proofs.Prelude.{common_steps, ◌≡◌, ℕ, ◌<◌, Bool, true, false, not, cond, ◌==◌, List, length, refl, ap, sym, subst, ◌∙◌, arith, inl, inr, range_with_len, list_all, cases_lt, false≢true, false_from_ne_true, Phase, Loading, Reading, Starting, Upload, drone_count, load_count, start_number, packet_count, first_of, count_of, Packets, all_settled, phase_of, all_packets, Settled-from, all_packets-each, all_settled-agree, Row, marked, IsBegun, RowsStand}
use Rattle.upload_core.proofs.Staying.{settled-more}
use Rattle.upload_core.proofs.Windows.{all-settled, list_all-true, not-settled, empty-all, some-window}
use Rattle.upload_core.proofs.Standing.{list_all-packets_agree}

-- ---- the phase

pub phase-last : (s : Upload) (done : Packets) → IsBegun s done Starting → Starting ≡ phase_of s done
unfolding phase_of
phase-last s done begun =
    sym (ap (λ (b : Bool). cond (not b) Loading (cond (not (all_settled s Reading done)) Reading Starting)) begun.0 ∙ ap (λ (b : Bool). cond (not b) Reading Starting) begun.1)

-- it is the one that has begun and isn't complete
pub phase-is : (s : Upload) (p : Phase) (done : Packets) → IsBegun s done p → all_settled s p done ≡ false → p ≡ phase_of s done
unfolding phase_of
phase-is s Loading done begun here = sym (ap (λ (b : Bool). cond (not b) Loading (cond (not (all_settled s Reading done)) Reading Starting)) here)
phase-is s Reading done begun here =
    sym (ap (λ (b : Bool). cond (not b) Loading (cond (not (all_settled s Reading done)) Reading Starting)) begun ∙ ap (λ (b : Bool). cond (not b) Reading Starting) here)
phase-is s Starting done begun here = phase-last s done begun

begun-of : (s : Upload) (done : Packets) → IsBegun s done (phase_of s done)
unfolding phase_of
begun-of s done = grind (arith, common_steps, cond, not)

pub begun-more : (s : Upload) (done more : Packets) → ((d k : ℕ) → done d k ≡ true → more d k ≡ true) → (p : Phase) → IsBegun s done p → IsBegun s more p
begun-more s done more sub Loading begun = tt
begun-more s done more sub Reading begun = settled-more s done more sub Loading begun
begun-more s done more sub Starting begun = (settled-more s done more sub Loading begun.0, settled-more s done more sub Reading begun.1)

pub begun-phase : (s : Upload) (p : Phase) (done more : Packets) → p ≡ phase_of s done → ((d k : ℕ) → done d k ≡ true → more d k ≡ true) → IsBegun s more p
begun-phase s p done more is sub = begun-more s done more sub p (subst (IsBegun s done) (sym is) (begun-of s done))

-- whether the phase of these rows is complete
pub rows-complete : (s : Upload) (p : Phase) (rows : List Row) → RowsStand s p rows → list_all (λ (row : Row). length row.window.items == 0) rows ≡ true → all_settled s p (marked rows) ≡ true
rows-complete s p rows stand none = all-settled s p rows stand (λ d l. empty-all rows none d)

pub rows-open : (s : Upload) (p : Phase) (rows : List Row) → RowsStand s p rows → list_all (λ (row : Row). length row.window.items == 0) rows ≡ false → all_settled s p (marked rows) ≡ false
rows-open s p rows stand some = grind (arith, common_steps, some-window, not-settled)

-- whether the first phase is complete
pub loading-open : (s : Upload) (done : Packets) → Loading ≡ phase_of s done → all_settled s Loading done ≡ false
unfolding phase_of
loading-open s done is = grind (arith, common_steps, cond, not)

pub loading-done : (s : Upload) (p : Phase) (done : Packets) → p ≡ phase_of s done → (p ≡ Loading → ⊥) → all_settled s Loading done ≡ true
loading-done s Loading done is other = absurd (other refl)
loading-done s Reading done is other = begun-phase s Reading done done is (λ d k e. e)
loading-done s Starting done is other = (begun-phase s Starting done done is (λ d k e. e)).0

-- ---- all packets

all_settled-all : (s : Upload) (p : Phase) → all_settled s p (λ d k. true) ≡ true
unfolding all_settled
all_settled-all s p =
    list_all-true (λ d. list_all (λ k. true) (range_with_len (first_of s p d) (count_of s p d)))
    (λ d. list_all-true (λ k. true) (λ k. refl) (range_with_len (first_of s p d) (count_of s p d))) (range_with_len 0 (drone_count s))

-- where a phase isn't complete, not all is acknowledged
pub all-open : (s : Upload) (p : Phase) (done : Packets) → all_settled s p done ≡ false → list_all (λ x. done x.drone x.packet) (all_packets s) ≡ false
all-open s p done here =
    false_from_ne_true (list_all (λ x. done x.drone x.packet) (all_packets s))
    (λ all. false≢true (sym here ∙ all_settled-agree s p done (λ d k. true) (λ d k l b. all_packets-each s (λ x. done x.drone x.packet) all d k l b) ∙ all_settled-all s p))

-- all is, where each of the three is complete
all-three : (s : Upload) (done : Packets) → all_settled s Loading done ≡ true → all_settled s Reading done ≡ true → all_settled s Starting done ≡ true →
    list_all (λ x. done x.drone x.packet) (all_packets s) ≡ true
unfolding packet_count
all-three s done loading reading starting =
    list_all-packets_agree s (λ x. done x.drone x.packet) (λ x. true) each ∙ list_all-true (λ x. true) (λ x. refl) (all_packets s) where
      each : (d k : ℕ) → d < drone_count s → k < packet_count s d → done d k ≡ true
      each d k l b = elim (cases_lt k (load_count s d)) [
        | inl low ↦ Settled-from s Loading done loading d l k (omega arith) (omega arith)
        | inr past ↦ elim (cases_lt k (start_number s d)) [
          | inl inside ↦ Settled-from s Reading done reading d l k past inside
          | inr last ↦ Settled-from s Starting done starting d l k last b
        ]
      ]

-- all is, where the phase that it is in is complete
pub all-done : (s : Upload) (p : Phase) (done : Packets) → p ≡ phase_of s done → all_settled s p done ≡ true → list_all (λ x. done x.drone x.packet) (all_packets s) ≡ true
unfolding phase_of
all-done s p done is here = grind (arith, common_steps, cond, not, all-three, false≢true)
