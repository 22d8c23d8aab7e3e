-- A trajectory's start and its segments, and why bytes that begin with a spelling have no fault and stand for one trajectory.
use Rattle.traj_codec.proofs.Prelude.{common_steps, ◌≡◌, ℕ, ◌+◌, ◌≤◌, ℤ, List, length, drop, Option, None, Result, Ok, Err, sym, ap, ◌∙◌, subst, length-append, arith, option_or, flat_map, drop_at, CodecFault, Short, ZeroDuration, Memory, Segment, Traj, numbers, segment, spelling, BeginsWith, DecodeGives, IsDecoded, segments_fault, decode_fault, Spans, NumbersStand, SegmentsStand, SegmentsGive}
use Rattle.traj_codec.proofs.Sizes.{length-numbers}
use Rattle.traj_codec.proofs.SpellingLemmas.{spelling_is_one}
use Rattle.traj_codec.proofs.ReadingLemmas.{spans_on, spans_length, spans_split, numbers_whole, segments_whole}

-- what stands at the beginning
begin_spans : (bytes : List ℕ) (pieces : ℕ) (t : Traj) (used : ℕ) → BeginsWith bytes pieces t used → Spans bytes 0 used (spelling t)
begin_spans bytes pieces t used b = grind (arith, common_steps, drop, drop_at, length-append)

-- the fault of a trajectory whose start stands there
start_whole : (bytes : List ℕ) (pieces : ℕ) → 8 ≤ length bytes → decode_fault bytes pieces ≡ segments_fault bytes pieces 8
start_whole bytes pieces room = ap (λ (f : Option CodecFault). option_or f (segments_fault bytes pieces 8)) (numbers_whole bytes 4 0 room)

-- bytes that begin with a spelling have no fault
pub no_fault : (bytes : List ℕ) (pieces : ℕ) (t : Traj) (used : ℕ) → BeginsWith bytes pieces t used → decode_fault bytes pieces ≡ None
no_fault bytes pieces t used b =
    let parts = spans_split bytes 0 used (numbers t.start) (flat_map segment t.segments) (omega arith) (begin_spans bytes pieces t used b) in
    let start : 0 + length (numbers t.start) ≡ 8 = omega (arith, length-numbers t.start, b.formed.start.many) in
    let room : 8 ≤ length bytes = omega (arith, start, parts.0.within) in
    let segments = segments_whole bytes 8 used t.segments room (record {
      each = b.formed.segments;
      durations = b.spells.durations;
      spans = subst (λ (k : ℕ). Spans bytes k used (flat_map segment t.segments)) start parts.1;
    }) in
    start_whole bytes pieces room ∙ ap (λ (n : ℕ). segments_fault bytes n 8) (sym b.many) ∙ segments

-- a start and the segments after it are a trajectory
pub decoded_is : (bytes : List ℕ) (pieces next used : ℕ) (start : List ℤ) (segments : List Segment) → length start ≡ 4 → NumbersStand bytes 0 next start →
    SegmentsStand bytes next segments used → length segments ≡ pieces → BeginsWith bytes pieces (record { start = start; segments = segments }) used
decoded_is bytes pieces next used start segments four s p many =
    let all = spans_on s.spans p.spans in
    let t : Traj = record { start = start; segments = segments } in
    grind (arith, common_steps, drop, spans_length)

pub gives_ok : (bytes : List ℕ) (pieces next used : ℕ) (start : List ℤ) (segments : List Segment) → length start ≡ 4 → NumbersStand bytes 0 next start →
    SegmentsStand bytes next segments used → length segments ≡ pieces → DecodeGives bytes pieces (Ok (record { start = start; segments = segments }, used))
gives_ok bytes pieces next used start segments four s p many =
    let t : Traj = record { start = start; segments = segments } in
    let begins : BeginsWith bytes pieces t used = decoded_is bytes pieces next used start segments four s p many in
    (begins, no_fault bytes pieces t used begins)

by_fault : (bytes : List ℕ) (pieces next : ℕ) (e : CodecFault) → decode_fault bytes pieces ≡ segments_fault bytes pieces next → SegmentsGive bytes next pieces (Err e) → DecodeGives bytes pieces (Err e)
by_fault bytes pieces next (Short at) w h = w ∙ h
by_fault bytes pieces next (ZeroDuration at) w h = w ∙ h
by_fault bytes pieces next Memory w h = tt

-- the fault of the segments is that of the trajectory
pub gives_fault : (bytes : List ℕ) (pieces next : ℕ) (start : List ℤ) (e : CodecFault) → length start ≡ 4 → NumbersStand bytes 0 next start →
    SegmentsGive bytes next pieces (Err e) → DecodeGives bytes pieces (Err e)
gives_fault bytes pieces next start e four s h = grind (arith, common_steps, spans_length, length-numbers, start_whole, by_fault)

-- what is answered is the one trajectory that the bytes begin with
pub only_one : (bytes : List ℕ) (pieces : ℕ) (r : Result (Traj × ℕ) CodecFault) → DecodeGives bytes pieces r → (t : Traj) (used : ℕ) → BeginsWith bytes pieces t used → IsDecoded t used r
only_one bytes pieces (Ok (u, end')) g t used b = grind (arith, common_steps, begin_spans, spelling_is_one, drop, spans_length)
only_one bytes pieces (Err (Short at)) g t used b = let none = no_fault bytes pieces t used b in absurd (cc)
only_one bytes pieces (Err (ZeroDuration at)) g t used b = let none = no_fault bytes pieces t used b in absurd (cc)
only_one bytes pieces (Err Memory) g t used b = tt
