-- What stands in bytes, one thing after another, and the first fault among fields.
use Rattle.traj_codec.proofs.Prelude.{◌≡◌, ℕ, zero, suc, ◌+◌, ◌*◌, ◌/◌, ◌%◌, ◌^◌, ◌<◌, ◌≤◌, List, [], ◌∷◌, ◌++◌, length, get_or, slice_index, drop, ◌==◌, if◌then◌else◌, Option, Some, None, Err, refl, sym, ap, subst, ◌∙◌, append_assoc, length-append, length-drop, arith, option_or, flat_map, All, nat_tests, flat_map-append, common_steps, append-nil, drop-drop, drop_at, get_or-drop, All-head, All-tail, All-append, little_bytes, little_number, little_number-reads_back, CodecFault, Short, ZeroDuration, Memory, Element, Constant, Linear, Cubic, Seven, Segment, numbers, kind, stored, header, bodies, segment, HasDuration, IsElement, IsSegment, field_fault, numbers_fault, duration_fault, count_of_kind, count_under, segment_fault, segment_length, segments_fault, Spans, ElementStands, SegmentsStand, SegmentsGive}
use Rattle.traj_codec.proofs.Sizes.{length-numbers, length-elements}
use Rattle.traj_codec.proofs.SpellingLemmas.{kind_small}

-- one text after another
pub spans_on : {bytes : List ℕ} {a b c : ℕ} {s t : List ℕ} → Spans bytes a b s → Spans bytes b c t → Spans bytes a c (s ++ t)
spans_on {bytes} {a} {b} {c} {s} {t} p q = grind (arith, common_steps, append_assoc, drop)

-- how long a text is that stands there
pub spans_length : (bytes : List ℕ) (a b : ℕ) (s : List ℕ) → a ≤ length bytes → Spans bytes a b s → b ≡ a + length s
spans_length bytes a b s small p = omega (arith, ap length p.here, length-append s (drop b bytes), length-drop a bytes, length-drop b bytes, p.within)

-- a field that is whole
pub field_whole : (bytes : List ℕ) (size at : ℕ) → at + size ≤ length bytes → field_fault bytes size at ≡ None
field_whole bytes size at h = grind (arith, nat_tests)

-- numbers that are whole
pub numbers_whole : (bytes : List ℕ) (n at : ℕ) → at + 2 * n ≤ length bytes → numbers_fault bytes n at ≡ None
numbers_whole bytes zero at h = refl
numbers_whole bytes (suc n) at h =
    ap (λ (f : Option CodecFault). option_or f (numbers_fault bytes n (at + 2))) (field_whole bytes 2 at (omega arith)) ∙ numbers_whole bytes n (at + 2) (omega arith)

-- numbers after others that are whole
pub numbers_fault-add : (bytes : List ℕ) (m n at : ℕ) → at + 2 * m ≤ length bytes → numbers_fault bytes (m + n) at ≡ numbers_fault bytes n (at + 2 * m)
numbers_fault-add bytes zero n at h = ap (λ (k : ℕ). numbers_fault bytes k at) (let e : 0 + n ≡ n = omega arith in e) ∙ ap (λ (k : ℕ). numbers_fault bytes n k) (let e : at ≡ at + 2 * 0 = omega arith in e)
numbers_fault-add bytes (suc m) n at h =
    let more : suc m + n ≡ suc (m + n) = omega arith in
    let next : at + 2 + 2 * m ≡ at + 2 * suc m = omega arith in
    ap (λ (k : ℕ). numbers_fault bytes k at) more
    ∙ ap (λ (f : Option CodecFault). option_or f (numbers_fault bytes (m + n) (at + 2))) (field_whole bytes 2 at (omega arith))
    ∙ numbers_fault-add bytes m n (at + 2) (omega arith)
    ∙ ap (λ (k : ℕ). numbers_fault bytes n k) next

-- a fault among the first is a fault among all, whatever stands after
or_more : (f g h : Option CodecFault) (e : CodecFault) → (g ≡ Some e → h ≡ Some e) → option_or f g ≡ Some e → option_or f h ≡ Some e
or_more None g h e step p = step p
or_more (Some x) g h e step p = p

-- the fault of the first numbers is that of more
pub numbers_fault-more : (bytes : List ℕ) (m n at : ℕ) (e : CodecFault) → numbers_fault bytes m at ≡ Some e → numbers_fault bytes (m + n) at ≡ Some e
numbers_fault-more bytes zero n at e h = cc
numbers_fault-more bytes (suc m) n at e h =
    let more : suc m + n ≡ suc (m + n) = omega arith in
    ap (λ (k : ℕ). numbers_fault bytes k at) more
    ∙ or_more (field_fault bytes 2 at) (numbers_fault bytes m (at + 2)) (numbers_fault bytes (m + n) (at + 2)) e (numbers_fault-more bytes m n (at + 2) e) h

-- the fault of some numbers is that of all, where those before them are whole
pub fault_among : (bytes : List ℕ) (before some rest total at next : ℕ) (e : CodecFault) → total ≡ before + (some + rest) → next ≡ at + 2 * before → next ≤ length bytes →
    numbers_fault bytes some next ≡ Some e → numbers_fault bytes total at ≡ Some e
fault_among bytes before some rest total at next e sum place small h = grind (arith, common_steps, numbers_fault-add, numbers_fault-more)

-- ---- elements

-- an element has as many numbers as its kind says
pub element_count : (e : Element) → IsElement e → length (stored e) ≡ count_of_kind (kind e)
element_count Constant is = refl
element_count (Linear v) is = refl
element_count (Cubic v) is = is.many
element_count (Seven v) is = is.many

-- where an element ends
pub element_next : (bytes : List ℕ) (at k : ℕ) (e : Element) (next : ℕ) → at ≤ length bytes → ElementStands bytes at k e next → next ≡ at + 2 * count_of_kind k
element_next bytes at k e next small stands =
    let count : length (stored e) ≡ count_of_kind k = element_count e stands.formed ∙ ap count_of_kind stands.of_kind in
    omega (arith, count, length-numbers (stored e), spans_length bytes at next (numbers (stored e)) small stands.spans)

-- how many bytes the numbers of four elements take, by their header
elements_count : (x y z yaw : Element) → IsElement x → IsElement y → IsElement z → IsElement yaw →
    length (bodies (x ∷ y ∷ z ∷ yaw ∷ [])) ≡ 2 * count_under (header (x ∷ y ∷ z ∷ yaw ∷ []))
elements_count x y z yaw p q r s =
    let a : header (x ∷ y ∷ z ∷ yaw ∷ []) % 4 ≡ kind x = omega (arith, kind_small x, kind_small y, kind_small z, kind_small yaw) in
    let b : header (x ∷ y ∷ z ∷ yaw ∷ []) / 4 % 4 ≡ kind y = omega (arith, kind_small x, kind_small y, kind_small z, kind_small yaw) in
    let c : header (x ∷ y ∷ z ∷ yaw ∷ []) / 16 % 4 ≡ kind z = omega (arith, kind_small x, kind_small y, kind_small z, kind_small yaw) in
    let d : header (x ∷ y ∷ z ∷ yaw ∷ []) / 64 ≡ kind yaw = omega (arith, kind_small x, kind_small y, kind_small z, kind_small yaw) in
    grind (arith, common_steps, length-elements, element_count)

bodies_count : (es : List Element) → length es ≡ 4 → All IsElement es → length (bodies es) ≡ 2 * count_under (header es)
bodies_count [] many each = absurd (omega arith)
bodies_count (x ∷ []) many each = absurd (omega arith)
bodies_count (x ∷ y ∷ []) many each = absurd (omega arith)
bodies_count (x ∷ y ∷ z ∷ []) many each = absurd (omega arith)
bodies_count (x ∷ y ∷ z ∷ yaw ∷ []) many each =
    elements_count x y z yaw (each 0 x (omega arith)) (each 1 x (omega arith)) (each 2 x (omega arith)) (each 3 x (omega arith))
bodies_count (x ∷ y ∷ z ∷ yaw ∷ e ∷ es) many each = absurd (omega arith)

-- ---- segments

-- two texts, one after the other, stand each in its place
pub spans_split : (bytes : List ℕ) (a c : ℕ) (s t : List ℕ) → a ≤ length bytes → Spans bytes a c (s ++ t) → Spans bytes a (a + length s) s × Spans bytes (a + length s) c t
spans_split bytes a c s t small p =
    let whole : drop a bytes ≡ s ++ (t ++ drop c bytes) = p.here ∙ append_assoc s t (drop c bytes) in
    let behind : drop (a + length s) bytes ≡ t ++ drop c bytes =
    sym (drop-drop (length s) a bytes) ∙ ap (λ (xs : List ℕ). drop (length s) xs) whole ∙ drop_at s (t ++ drop c bytes) (length s) refl in
    let size : c ≡ a + length (s ++ t) = spans_length bytes a c (s ++ t) small p in grind (arith, common_steps, length-append)

-- the first byte of a segment that stands there is its header
header_stands : (bytes : List ℕ) (at next : ℕ) (s : Segment) → Spans bytes at next (segment s) → slice_index bytes at ≡ header s.elements
header_stands bytes at next s p =
    let place : at + 0 ≡ at = omega arith in
    ap (λ (k : ℕ). get_or bytes k 0) (sym place) ∙ sym (get_or-drop at bytes 0 0) ∙ ap (λ (xs : List ℕ). get_or xs 0 0) p.here

-- after it stands its duration
duration_reads : (bytes : List ℕ) (at next : ℕ) (s : Segment) → s.ms < 2 ^ 16 → Spans bytes at next (segment s) → little_number 2 (drop (at + 1) bytes) ≡ s.ms
duration_reads bytes at next s small p =
    let behind : drop (at + 1) bytes ≡ little_bytes 2 s.ms ++ (bodies s.elements ++ drop next bytes) =
    sym (drop-drop 1 at bytes) ∙ ap (λ (xs : List ℕ). drop 1 xs) p.here ∙ append_assoc (little_bytes 2 s.ms) (bodies s.elements) (drop next bytes) in
    ap (little_number 2) behind ∙ little_number-reads_back 2 s.ms (bodies s.elements ++ drop next bytes) small

some_time : (ms : ℕ) (f : Option CodecFault) → 0 < ms → (if ms == 0 then f else None) ≡ None
some_time ms f some = grind (arith, nat_tests)

-- a duration that stands there and isn't 0 has no fault
duration_whole : (bytes : List ℕ) (at ms : ℕ) → at + 2 ≤ length bytes → 0 < ms → little_number 2 (drop at bytes) ≡ ms → duration_fault bytes at ≡ None
duration_whole bytes at ms room some e = grind (arith, common_steps, drop, field_whole, some_time)

-- how many bytes a segment takes
segment_takes : (bytes : List ℕ) (at next : ℕ) (s : Segment) → IsSegment s → Spans bytes at next (segment s) → length (segment s) ≡ segment_length bytes at
segment_takes bytes at next s is p = grind (arith, common_steps, slice_index, bodies_count, header_stands, length-append)

-- where a segment ends
pub segment_next : (bytes : List ℕ) (at next : ℕ) (s : Segment) → at ≤ length bytes → IsSegment s → Spans bytes at next (segment s) → next ≡ at + segment_length bytes at
segment_next bytes at next s small is p = spans_length bytes at next (segment s) small p ∙ ap (λ (k : ℕ). at + k) (segment_takes bytes at next s is p)

-- a segment that stands there has no fault
pub segment_whole : (bytes : List ℕ) (at next : ℕ) (s : Segment) → at ≤ length bytes → IsSegment s → HasDuration s → Spans bytes at next (segment s) → segment_fault bytes at ≡ None
segment_whole bytes at next s small is some p =
    grind (arith, common_steps, segment_next, field_whole, duration_whole, duration_reads, slice_index, numbers_whole)

-- the first fault of segments, after one that stands there
pub segments_step : (bytes : List ℕ) (at next n : ℕ) (s : Segment) → at ≤ length bytes → IsSegment s → HasDuration s → Spans bytes at next (segment s) →
    segments_fault bytes (suc n) at ≡ segments_fault bytes n next
segments_step bytes at next n s small is some p =
    ap (λ (f : Option CodecFault). option_or f (segments_fault bytes n (at + segment_length bytes at))) (segment_whole bytes at next s small is some p)
    ∙ ap (λ (k : ℕ). segments_fault bytes n k) (sym (segment_next bytes at next s small is p))

-- segments that stand there have no fault
pub segments_whole : (bytes : List ℕ) (at next : ℕ) (ss : List Segment) → at ≤ length bytes → SegmentsStand bytes at ss next → segments_fault bytes (length ss) at ≡ None
segments_whole bytes at next [] small stands = refl
segments_whole bytes at next (s ∷ ss) small stands =
    let parts = spans_split bytes at next (segment s) (flat_map segment ss) small stands.spans in
    let middle : ℕ = at + length (segment s) in
    let inside : middle ≤ length bytes = parts.0.within in
    segments_step bytes at middle (length ss) s small (All-head IsSegment s ss stands.each) (All-head HasDuration s ss stands.durations) parts.0
    ∙ segments_whole bytes middle next ss inside (record {
      each = All-tail IsSegment s ss stands.each;
      durations = All-tail HasDuration s ss stands.durations;
      spans = parts.1;
    })

-- one more segment
pub segments_more : {bytes : List ℕ} {at next behind : ℕ} {ss : List Segment} {s : Segment} → SegmentsStand bytes at ss next → SegmentsStand bytes next (s ∷ []) behind →
    SegmentsStand bytes at (ss ++ s ∷ []) behind
segments_more {bytes} {at} {next} {behind} {ss} {s} p q = grind (arith, common_steps, All-append, flat_map-append, spans_on)

-- the first fault of segments, after one that stands there alone
pub segment_step : (bytes : List ℕ) (at next n : ℕ) (s : Segment) → at ≤ length bytes → SegmentsStand bytes at (s ∷ []) next → segments_fault bytes (suc n) at ≡ segments_fault bytes n next
segment_step bytes at next n s small p =
    segments_step bytes at next n s small (All-head IsSegment s [] p.each) (All-head HasDuration s [] p.durations)
    (subst (λ (xs : List ℕ). Spans bytes at next xs) (append-nil (segment s)) p.spans)

-- the fault of the first segment is that of all
segments_fault-first : (bytes : List ℕ) (at n : ℕ) (e : CodecFault) → segment_fault bytes at ≡ Some e → segments_fault bytes (suc n) at ≡ Some e
segments_fault-first bytes at n e h = ap (λ (f : Option CodecFault). option_or f (segments_fault bytes n (at + segment_length bytes at))) h

fault_given : (bytes : List ℕ) (at pieces : ℕ) (e : CodecFault) → segments_fault bytes pieces at ≡ Some e → SegmentsGive bytes at pieces (Err e)
fault_given bytes at pieces (Short place) h = h
fault_given bytes at pieces (ZeroDuration place) h = h
fault_given bytes at pieces Memory h = tt

-- the fault of a segment after some that stand there
pub segments_fault-among : (bytes : List ℕ) (at next done rest pieces : ℕ) (e : CodecFault) → pieces ≡ done + suc rest →
    ((n : ℕ) → segments_fault bytes (done + n) at ≡ segments_fault bytes n next) → segment_fault bytes next ≡ Some e → SegmentsGive bytes at pieces (Err e)
segments_fault-among bytes at next done rest pieces e sum behind h =
    fault_given bytes at pieces e (ap (λ (k : ℕ). segments_fault bytes k at) sum ∙ behind (suc rest) ∙ segments_fault-first bytes next rest e h)
