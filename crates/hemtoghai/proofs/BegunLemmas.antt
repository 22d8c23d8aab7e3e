-- An upload that began: the whole input is that of a show that it accepted, however much of it was read.
use Rattle.hemtoghai.proofs.Prelude.{◌≡◌, inl, inr, ℕ, ◌+◌, ◌<◌, Bool, true, false, List, [], ◌∷◌, ◌++◌, length, get_or, replicate, take, drop, Option, Some, None, refl, sym, ap, subst, ◌∙◌, arith, append-nil, cases_lt, drop_all, length-append, length-replicate, length-take, take-append-drop, take_all, between_feeds, has_marker, part_of, has_whole_marker, SureIn, told_sure, empty, UploadsText, Does, Runs, IsJudged, Outcome, Span, during, run_on, HasBegun, upload_verb, never_rose, WholeOut, put_in}
use Rattle.std.proofs.lemmas.Option.{none-some}
use Rattle.std.specs.Option.{option_map}
use Rattle.whole_numbers.specs.Limits.{most_text}
use Rattle.byte_streams.specs.Told.{IsInput}
use Rattle.byte_streams.proofs.MarkerLaws.{marker_law}
use Rattle.refusals.specs.declared.refusal.Refusal.{Refusal}
use Rattle.show_judge.specs.Outcome.{IsOutcome, said}
use Rattle.show_judge.specs.Refused.{text_refusal}
use Rattle.hemtoghai.proofs.AnswerLemmas.{begins, not_rose, untouched, whole_of}
use Rattle.hemtoghai.proofs.MarkLemmas.{never_marked}

-- ---- the first byte of a packet

-- it stands in front of what was written, and is 80
pub packet_first : (bytes : List ℕ) → HasBegun (Some []) (Some bytes) → get_or bytes 0 0 ≡ 80
packet_first bytes (before, later, first, then) =
    let none : [] ≡ before = cc in
    let all : bytes ≡ before ++ 80 ∷ later = cc in
    ap (λ (xs : List ℕ). get_or xs 0 0) (all ∙ ap (λ (front : List ℕ). front ++ 80 ∷ later) (sym none))

has_begun : (bytes : List ℕ) → get_or bytes 0 0 ≡ 80 → HasBegun (Some []) (Some bytes)
has_begun [] first = absurd (omega (arith, first))
has_begun (byte ∷ bytes) first = ([], bytes, refl, ap (λ (b : ℕ). Some (b ∷ bytes)) first)

-- a list that has it as its first goes on having it
get_front : (xs ys : List ℕ) → get_or xs 0 0 ≡ 80 → get_or (xs ++ ys) 0 0 ≡ 80
get_front [] ys first = absurd (omega (arith, first))
get_front (x ∷ xs) ys first = first

-- Where a packet began in what the caller has room for, it did in all that was written.
pub begun_whole : (room bytes : List ℕ) (size : ℕ) → size ≡ length bytes → HasBegun (Some []) (Some (take size (put_in room bytes))) → HasBegun (Some []) (Some bytes)
begun_whole room bytes size all begun =
    let first : get_or (take size (put_in room bytes)) 0 0 ≡ 80 = packet_first (take size (put_in room bytes)) begun in
    elim (cases_lt (length room) (length bytes)) [
      | inl lt ↦
          let front : take size (put_in room bytes) ≡ take (length room) bytes =
          ap (λ (rest : List ℕ). take size (take (length room) bytes ++ rest)) (drop_all (length bytes) room (omega (arith, lt)))
          ∙ ap (λ (xs : List ℕ). take size xs) (append-nil (take (length room) bytes))
          ∙ take_all size (take (length room) bytes) (omega (arith, lt, all, length-take (length room) bytes)) in
          has_begun bytes (rw (take-append-drop (length room) bytes) at (get_front (take (length room) bytes) (drop (length room) bytes) (rw front at first)))
      | inr le ↦ has_begun bytes (rw (whole_of room bytes size all le) at first)
    ]

-- ---- a text that is too long

-- the part of a text without a marker line is all of it
part_whole : (text : List ℕ) → has_marker (between_feeds text) ≡ false → part_of text ≡ text
unfolding part_of
part_whole text unmarked = rw unmarked refl

-- a refusal is said by an end frame, whose first byte is 69
never_refused : (depth : ℕ) (start readback : Bool) (o : Outcome) (r : Option Refusal) → option_map (said (upload_verb depth start readback)) r ≡ Some o → get_or o.output 0 0 ≡ 80 → ⊥
never_refused depth start readback o None is first = none-some o is
never_refused depth start readback o (Some r) is first =
    let same : said (upload_verb depth start readback) r ≡ o = cc in
    omega (arith, first, ap (λ (p : Outcome). get_or p.output 0 0) same)

-- No upload of it begins.
never_accepted : (depth : ℕ) (start readback : Bool) (text : List ℕ) (o : Outcome) → has_marker (between_feeds text) ≡ false → most_text < length text →
    IsOutcome (upload_verb depth start readback) text o → get_or o.output 0 0 ≡ 80 → ⊥
never_accepted depth start readback text o unmarked long is first = elim is [
  | inl e ↦ never_refused depth start readback o (text_refusal (part_of text)) e first
  | inr comes ↦ omega (arith, long, comes.short, ap (λ (xs : List ℕ). length xs) (part_whole text unmarked))
]

-- ---- the run

-- an upload over ends that never fail
abbrev pub over : List ℕ → SureIn → WholeOut → Span
over input source sink = during told_sure (λ (k : WholeOut). Some k.written) (λ (k : WholeOut). k.faults) (begins input) source untouched sink

-- one that wrote a packet ended neither out of memory nor by a fault
judged : (depth : ℕ) (start readback : Bool) (input text : List ℕ) (source : SureIn) (sink : WholeOut) (status : ℕ) → sink.faults ≡ 0 →
    Runs (upload_verb depth start readback) (run_on (over input source sink) text) status → get_or sink.written 0 0 ≡ 80 → IsJudged status
judged depth start readback input text source sink status quiet runs first = (
  λ one. (let same : Some sink.written ≡ Some [] = (runs.one one).0 in
      let none : sink.written ≡ [] = cc in
      omega (arith, first, ap (λ (xs : List ℕ). get_or xs 0 0) none)),
  λ six. never_rose (runs.six six).0,
  λ seven. not_rose 0 sink.faults refl quiet (runs.seven seven).0,
)

-- Where bytes are left, what was read has a whole marker line: else the text might have gone on until it is too long, and
-- then no upload begins.
never_unmarked : (depth : ℕ) (start readback : Bool) (input : List ℕ) (source : SureIn) (sink : WholeOut) (status n : ℕ) → sink.faults ≡ 0 →
    Does (upload_verb depth start readback) (over input source sink) status → get_or sink.written 0 0 ≡ 80 → most_text < n →
    (source.left ≡ [] → ⊥) → has_whole_marker source.given ≡ false → ⊥
never_unmarked depth start readback input source sink status n quiet does first long some unmarked =
    let text : List ℕ = source.given ++ replicate n 0 in
    let may : IsInput (told_sure source) text = record { rest = replicate n 0; is = refl; none = λ ended. absurd (some (empty source.left ended)) } in
    let runs : Runs (upload_verb depth start readback) (run_on (over input source sink) text) status = (does.behaves text may).runs in
    let came = runs.outcome (judged depth start readback input text source sink status quiet runs first) in
    let plain : has_marker (between_feeds text) ≡ false = never_marked source.given n (omega (arith, long)) unmarked in
    let size : most_text < length text = omega (arith, long, length-append source.given (replicate n 0), length-replicate {A = ℕ} n 0) in
    let same : sink.written ≡ came.0.output = came.3 in
    never_accepted depth start readback text came.0 plain size came.1 (rw same at first)

-- the show's part of the input is that of what was read
same_part : (input : List ℕ) (source : SureIn) (b : Bool) → input ≡ source.given ++ source.left → has_whole_marker source.given ≡ b → ((source.left ≡ [] → ⊥) → b ≡ false → ⊥) → part_of input ≡ part_of source.given
same_part input source true all is never = rw all (marker_law source.given source.left is).0
same_part input source false all is never = by source.left refl where
  by : (left : List ℕ) → source.left ≡ left → part_of input ≡ part_of source.given
  by [] none = ap (λ (xs : List ℕ). part_of xs) (all ∙ ap (λ (xs : List ℕ). source.given ++ xs) none ∙ append-nil source.given)
  by (x ∷ xs) some = absurd (never (λ none. (let e : [] ≡ x ∷ xs = sym none ∙ some in absurd cc)) refl)

-- What holds of an upload that began, of the bytes that it read, holds of the whole input.
pub begun_over : (depth : ℕ) (start readback : Bool) (input : List ℕ) (source : SureIn) (sink : WholeOut) (status : ℕ) → sink.faults ≡ 0 →
    Does (upload_verb depth start readback) (over input source sink) status → UploadsText (part_of source.given) → HasBegun (Some []) (Some sink.written) → UploadsText (part_of input)
begun_over depth start readback input source sink status quiet does uploads begun =
    let all : input ≡ source.given ++ source.left = does.gives.left ∙ ap (λ (xs : List ℕ). xs ++ source.left) (sym does.gives.given) in
    let same : part_of input ≡ part_of source.given =
    same_part input source (has_whole_marker source.given) all refl
    (λ some unmarked. never_unmarked depth start readback input source sink status (most_text + 1) quiet does (packet_first sink.written begun) (omega arith) some unmarked) in
    subst (λ (text : List ℕ). UploadsText text) (sym same) uploads
