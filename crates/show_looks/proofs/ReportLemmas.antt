-- The numbers of what fits are those of the show.
use Rattle.show_looks.proofs.Prelude.{◌≡◌, ℕ, ◌+◌, ◌≤◌, List, [], ◌∷◌, map, All, refl, ap, ◌∙◌, arith, All-nil, All-cons, All-head, All-tail, Name, PlainShow, chunk_count_of, Traj, Fitted, IsFitted, size, packets_for, report_of, cues_in, nodes_of, sent_of, words_of}
use Rattle.report_text.specs.Report.{Report}
use Rattle.show_looks.specs.Reports.{duration_of}

-- the packets of this many bytes: their writes and a define
abbrev pub packets_of : ℕ → ℕ
packets_of n = chunk_count_of n + 1

abbrev pub numbers : List ℕ → ℕ → List (List ℕ) → ℕ → ℕ → List ℕ → Report
numbers bytes cues drones duration_ms nodes packets =
    record { bytes = bytes; cues = cues; drones = drones; duration_ms = duration_ms; nodes = nodes; packets = packets }

-- what is reported of what fits is the report on the show
pub report_is : (f : Fitted) (s : PlainShow) (depth nodes : ℕ) (bytes packets : List ℕ) → IsFitted f s → nodes ≡ nodes_of s depth → bytes ≡ map size f.sent → packets ≡ map packets_of bytes →
    numbers bytes f.cues (map (λ (name : Name). name.items) f.names) f.duration nodes packets ≡ report_of s depth
report_is f s depth nodes bytes packets is nodes_are bytes_are packets_are =
    let names : List (List ℕ) = map (λ (name : Name). name.items) f.names in
    let sizes : bytes ≡ map size (sent_of s) = bytes_are ∙ ap (λ (ts : List Traj). map size ts) is.sent in
    ap (λ (x : List ℕ). numbers x f.cues names f.duration nodes packets) sizes
    ∙ ap (λ (x : ℕ). numbers (map size (sent_of s)) x names f.duration nodes packets) is.cues
    ∙ ap (λ (x : List Name). numbers (map size (sent_of s)) (cues_in s) (map (λ (name : Name). name.items) x) f.duration nodes packets) is.names
    ∙ ap (λ (x : ℕ). numbers (map size (sent_of s)) (cues_in s) (words_of s) x nodes packets) is.duration
    ∙ ap (λ (x : ℕ). numbers (map size (sent_of s)) (cues_in s) (words_of s) (duration_of s) x packets) nodes_are
    ∙ ap (λ (x : List ℕ). numbers (map size (sent_of s)) (cues_in s) (words_of s) (duration_of s) (nodes_of s depth) x)
    (packets_are ∙ ap (map packets_of) sizes ∙ map-map (sent_of s))
  where
    map-map : (ts : List Traj) → map packets_of (map size ts) ≡ map packets_for ts
    map-map [] = refl
    map-map (t ∷ ts) = ap (λ (ns : List ℕ). packets_for t ∷ ns) (map-map ts)

-- ---- sums of them

-- sizes that are short are small numbers
pub small_sizes : (ts : List Traj) → All (λ (t : Traj). size t ≤ 4096) ts → All (λ (n : ℕ). n ≤ 4096) (map size ts)
small_sizes [] small = All-nil (λ (n : ℕ). n ≤ 4096)
small_sizes (t ∷ ts) small =
    All-cons (λ (n : ℕ). n ≤ 4096) (size t) (map size ts) (All-head (λ (t : Traj). size t ≤ 4096) t ts small)
    (small_sizes ts (All-tail (λ (t : Traj). size t ≤ 4096) t ts small))

-- and so are their packets
pub small_packets : (ns : List ℕ) → All (λ (n : ℕ). n ≤ 4096) ns → All (λ (n : ℕ). n ≤ 4096) (map packets_of ns)
small_packets [] small = All-nil (λ (n : ℕ). n ≤ 4096)
small_packets (n ∷ ns) small =
    let here : n ≤ 4096 = All-head (λ (n : ℕ). n ≤ 4096) n ns small in
    All-cons (λ (n : ℕ). n ≤ 4096) (packets_of n) (map packets_of ns) (omega (arith, here)) (small_packets ns (All-tail (λ (n : ℕ). n ≤ 4096) n ns small))
