-- A search, step by step.
use Rattle.upload_core.proofs.Prelude.{◌≡◌, ◌≢◌, ℕ, zero, suc, ◌+◌, ◌-◌, ◌<◌, ◌≤◌, ◌==◌, Bool, true, false, cond, eqb, List, [], ◌∷◌, ◌++◌, length, map, take, drop, set, refl, ap, ◌∙◌, arith, Option, Some, None, find, All, option_or, range_with_len, flat_map, eq-eqb, ne_eqb, flat_map-append, common_steps, map-append, find-append, All-head, All-tail, Phase, Loading, Sent, Upload, count_of, Packets, allowed, sent_to, InFlight, Row, packets_in, row_at, window_at, counted, count_in, IsBetween, IsRow, older_row, tired_in, in_windows}
use Rattle.upload_core.proofs.Numbers.{range-split}
use Rattle.upload_core.proofs.Windows.{range-one_more, windows-walk}

pub find-walk : (p : ℕ → Bool) (n : ℕ) → find p (range_with_len 0 n) ≡ None → p n ≡ false → find p (range_with_len 0 (n + 1)) ≡ None
find-walk p n before here = grind (arith, common_steps, range-one_more, find-append, cond)

pub find-at : (p : ℕ → Bool) (n k : ℕ) → k < n → find p (range_with_len 0 k) ≡ None → p k ≡ true → find p (range_with_len 0 n) ≡ Some k
find-at p n k l before here =
    ap (λ (m : ℕ). find p (range_with_len 0 m)) (let e : n ≡ k + 1 + (n - (k + 1)) = omega arith in e)
    ∙ ap (find p) (range-split 0 (k + 1) (n - (k + 1)))
    ∙ find-append p (range_with_len 0 (k + 1)) (range_with_len (0 + (k + 1)) (n - (k + 1)))
    ∙ ap (λ (o : Option ℕ). option_or o (find p (range_with_len (0 + (k + 1)) (n - (k + 1)))))
    (ap (find p) (range-one_more k) ∙ find-append p (range_with_len 0 k) (k ∷ [])
    ∙ ap (λ (o : Option ℕ). option_or o (find p (k ∷ []))) before ∙ ap (λ (b : Bool). cond b (Some k) None) here)

-- ---- what is sent and counted, drone by drone

pub sent-entry : (d : ℕ) (es : List InFlight) (i : ℕ) (x : InFlight) → take (i + 1) es ≡ take i es ++ x ∷ [] →
    sent_to d (packets_in (take (i + 1) es)) ≡ sent_to d (packets_in (take i es)) ++ record { drone = d; packet = x.packet } ∷ []
sent-entry d es i x more = grind (arith, common_steps, map-append, take)

pub older-step : (rows : List Row) (i : ℕ) (row : Row) → i < length rows → row ≡ older_row (row_at rows i) →
    set (map older_row (take i rows) ++ drop i rows) i row ≡ map older_row (take (i + 1) rows) ++ drop (i + 1) rows
older-step [] i row l is = absurd (omega arith)
older-step (x ∷ rows) zero row l is = ap (λ (r : Row). r ∷ rows) is
older-step (x ∷ rows) (suc i) row l is =
    ap (λ (ys : List Row). older_row x ∷ ys) (older-step rows i row (omega arith) is)
    ∙ ap (λ (n : ℕ). map older_row (take n (x ∷ rows)) ++ drop n (x ∷ rows)) (let e : suc (i + 1) ≡ suc i + 1 = omega arith in e)

pub all-at : (rows : List Row) → All (λ (row : Row). All (λ (e : InFlight). e.ticks < 20) row.window.items) rows → (d : ℕ) → d < length rows → All (λ (e : InFlight). e.ticks < 20) (row_at rows d).window.items
all-at [] low d l = absurd (omega arith)
all-at (row ∷ rows) low zero l = All-head (λ (r : Row). All (λ (e : InFlight). e.ticks < 20) r.window.items) row rows low
all-at (row ∷ rows) low (suc d) l = all-at rows (All-tail (λ (r : Row). All (λ (e : InFlight). e.ticks < 20) r.window.items) row rows low) d (omega arith)

-- the first packet at 20 ticks, of one drone and of all
tired-rising : (a b : ℕ) (es : List InFlight) (q : ℕ → Bool) → IsBetween a b (packets_in es) → ((k : ℕ) → a ≤ k → q k ≡ (count_in es k == 20)) →
    find q (packets_in es) ≡ tired_in es
tired-rising a b [] q rising h = refl
tired-rising a b (e ∷ es) q rising h =
    ap (λ (v : Bool). cond v (Some e.packet) (find q (packets_in es)))
    (h e.packet rising.0 ∙ ap (λ (v : Bool). eqb (cond v e.ticks (count_in es e.packet)) 20) (eq-eqb e.packet e.packet refl))
    ∙ ap (λ (o : Option ℕ). cond (e.ticks == 20) (Some e.packet) o)
    (tired-rising (e.packet + 1) b es q rising.2
    (λ k l. h k (let from = rising.0 in omega (arith, from, l)) ∙ ap (λ (v : Bool). eqb (cond v e.ticks (count_in es k)) 20) (ne_eqb e.packet k (λ same. omega (arith, same, l)))))

abbrev pub packet_of : ℕ → Option ℕ → Option Sent
packet_of d None = None
packet_of d (Some k) = Some (record { drone = d; packet = k })

find-sent : (q : Sent → Bool) (d : ℕ) (ks : List ℕ) → find q (sent_to d ks) ≡ packet_of d (find (λ k. q (record { drone = d; packet = k })) ks)
find-sent q d [] = refl
find-sent q d (k ∷ ks) = at (q (record { drone = d; packet = k })) (find-sent q d ks) where
  at : (b : Bool) → find q (sent_to d ks) ≡ packet_of d (find (λ j. q (record { drone = d; packet = j })) ks) →
      cond b (Some (record { drone = d; packet = k })) (find q (sent_to d ks)) ≡ packet_of d (cond b (Some k) (find (λ j. q (record { drone = d; packet = j })) ks))
  at true rest = refl
  at false rest = rest

pub tired-row : (rows : List Row) (d : ℕ) → IsRow 0 (row_at rows d) → find (λ x. counted rows x.drone x.packet == 20) (sent_to d (window_at rows d)) ≡ packet_of d (tired_in (row_at rows d).window.items)
tired-row rows d row =
    find-sent (λ x. counted rows x.drone x.packet == 20) d (window_at rows d)
    ∙ ap (packet_of d) (tired-rising 0 (row_at rows d).next (row_at rows d).window.items (λ k. counted rows d k == 20) row.rising (λ k l. refl))

pub tired-walk : (rows : List Row) (n : ℕ) → IsRow 0 (row_at rows n) → find (λ x. counted rows x.drone x.packet == 20) (in_windows rows n) ≡ None →
    find (λ x. counted rows x.drone x.packet == 20) (in_windows rows (n + 1)) ≡ packet_of n (tired_in (row_at rows n).window.items)
tired-walk rows n row before = grind (arith, common_steps, windows-walk, find-append, tired-row)

pub tired-here : (rows : List Row) (n m k : ℕ) → n < m → IsRow 0 (row_at rows n) → find (λ x. counted rows x.drone x.packet == 20) (in_windows rows n) ≡ None →
    tired_in (row_at rows n).window.items ≡ Some k → find (λ x. counted rows x.drone x.packet == 20) (in_windows rows m) ≡ Some (record { drone = n; packet = k })
tired-here rows n m k l row before here =
    ap (λ (j : ℕ). find (λ x. counted rows x.drone x.packet == 20) (in_windows rows j)) (let e : m ≡ n + 1 + (m - (n + 1)) = omega arith in e)
    ∙ ap (λ (ds : List ℕ). find (λ x. counted rows x.drone x.packet == 20) (flat_map (λ d. sent_to d (window_at rows d)) ds)) (range-split 0 (n + 1) (m - (n + 1)))
    ∙ ap (find (λ x. counted rows x.drone x.packet == 20)) (flat_map-append (λ d. sent_to d (window_at rows d)) (range_with_len 0 (n + 1)) (range_with_len (0 + (n + 1)) (m - (n + 1))))
    ∙ find-append (λ x. counted rows x.drone x.packet == 20) (in_windows rows (n + 1)) (flat_map (λ d. sent_to d (window_at rows d)) (range_with_len (0 + (n + 1)) (m - (n + 1))))
    ∙ ap (λ (o : Option Sent). option_or o (find (λ x. counted rows x.drone x.packet == 20) (flat_map (λ d. sent_to d (window_at rows d)) (range_with_len (0 + (n + 1)) (m - (n + 1))))))
    (tired-walk rows n row before ∙ ap (packet_of n) here)

-- ---- rows of a phase that begins

pub allowed-later : (s : Upload) (p : Phase) (done : Packets) (d : ℕ) → p ≢ Loading → count_of s p d ≡ allowed s p done d
allowed-later s Loading done d other = absurd (other refl)
allowed-later s p done d other = refl

pub row_at-past : (rows : List Row) (d : ℕ) → length rows ≤ d → row_at rows d ≡ record { window = record { items = [] }; next = 0; until = 0 }
row_at-past [] d l = refl
row_at-past (row ∷ rows) zero l = absurd (omega arith)
row_at-past (row ∷ rows) (suc d) l = row_at-past rows d (omega arith)

-- a row of which nothing is in flight, seen from the number 0
pub row-empty : (a : ℕ) (row : Row) → IsRow a row → row.window.items ≡ [] → IsRow 0 row
row-empty a row h empty = grind (arith, common_steps)
