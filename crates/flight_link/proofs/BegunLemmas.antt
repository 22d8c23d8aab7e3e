-- Bytes begin an event exactly where they are one with zeros after them.
use Rattle.flight_link.proofs.Prelude.{◌≡◌, ℕ, zero, suc, ◌+◌, ◌-◌, ◌<◌, ◌≤◌, Bool, true, false, cond, List, [], ◌∷◌, ◌++◌, length, take, replicate, slice_index, length-append, length-replicate, append_assoc, append-nil, Some, None, Result, Ok, Err, refl, sym, ap, ◌∙◌, arith, ◌==◌, nat_le, nat_lt, Event, Clock, Seen, Answered, Said, FrameFault, FrameLaw, IsEvent, event_bytes, event_in, length_of, BeginsNoEvent, IsBegun, leb-false, ltb-false, lt-leb, eqb-true, length-take, length-take-le, take-replicate, take_more, take_more_set, get_or, slice_set, little_number, answer_in, clock_in, sample_in, said_in, seen_of, signal_in}
use Rattle.std.proofs.lemmas.Bool.Decides.{nat_tests}
use Rattle.std.proofs.Math.Seq.{set-append_seam, take-append-add}
use Rattle.flight_model.specs.declared.events.Signal.TheVariants as signal
use Rattle.flight_link.specs.declared.events.FrameFault.TheVariants as fault
use Rattle.flight_link.proofs.EventLemmas.{by_cond, longer, same_size}

-- ---- smaller bytes are read too

-- these bytes are read as some event
abbrev pub Reads : Result Event FrameFault → Type 0
Reads r = (y : Event) × (r ≡ Ok y)

-- no byte of these is greater than that of those, and they are as many
pub record Below (xs ys : List ℕ) : Type 0 where
  pub size : length ys ≡ length xs
  pub each : (i : ℕ) → slice_index ys i ≤ slice_index xs i

not_above : (d m n : ℕ) → m ≤ n → nat_le d n ≡ false → nat_le d m ≡ false
not_above d m n l t = lt-leb d m (omega (arith, l, leb-false d n t))

not_more : (m n : ℕ) → m ≤ n → nat_lt 63 n ≡ false → nat_lt 63 m ≡ false
not_more m n l t = let few = ltb-false 63 n t in grind (arith, nat_tests)

clock_below : (xs ys : List ℕ) (x : Event) → Below xs ys → clock_in xs ≡ Ok x → Reads (clock_in ys)
clock_below xs ys x b is =
    by_cond (Reads (clock_in ys)) (length xs == 2) _ _ (Ok x)
    (λ t h. (Clock (little_number 2 ys), ap (λ (c : Bool). cond c (Ok (Clock (little_number 2 ys))) (Err fault.Length)) (ap (λ (n : ℕ). n == 2) b.size ∙ t)))
    (λ t h. absurd (cc)) is

answer_below : (d : ℕ) (xs ys : List ℕ) (x : Event) → Below xs ys → answer_in d xs ≡ Ok x → Reads (answer_in d ys)
answer_below d xs ys x b is =
    by_cond (Reads (answer_in d ys)) (length xs == 2) _ _ (Ok x)
    (λ t h. by_cond (Reads (answer_in d ys)) (nat_le d (slice_index xs 0)) _ _ (Ok x) (λ u g. absurd (cc))
    (λ u g. (Answered (slice_index ys 0) (slice_index ys 1), rw (ap (λ (n : ℕ). n == 2) b.size ∙ t, not_above d (slice_index ys 0) (slice_index xs 0) (b.each 0) u) refl)) h)
    (λ t h. absurd (cc)) is

sample_below : (d : ℕ) (xs ys : List ℕ) (x : Event) → Below xs ys → sample_in d xs ≡ Ok x → Reads (sample_in d ys)
sample_below d xs ys x b is =
    by_cond (Reads (sample_in d ys)) (length xs == 10) _ _ (Ok x)
    (λ t h. by_cond (Reads (sample_in d ys)) (nat_le d (slice_index xs 0)) _ _ (Ok x) (λ u g. absurd (cc))
    (λ u g. by_cond (Reads (sample_in d ys)) (nat_lt 63 (slice_index xs 9)) _ _ (Ok x) (λ v k. absurd (cc))
    (λ v k. (
      Seen (slice_index ys 0) (seen_of ys),
      rw (ap (λ (n : ℕ). n == 10) b.size ∙ t, not_above d (slice_index ys 0) (slice_index xs 0) (b.each 0) u, not_more (slice_index ys 9) (slice_index xs 9) (b.each 9) v) refl,
    )) g) h)
    (λ t h. absurd (cc)) is

-- the signals are numbered from 0 on
signal_small : (n : ℕ) (x : Event) → signal_in n ≡ Ok x → n ≤ 2
signal_small n x is =
    by_cond (n ≤ 2) (n == 0) _ _ (Ok x) (λ t h. let e = eqb-true n 0 t in omega (arith, e))
    (λ t h. by_cond (n ≤ 2) (n == 1) _ _ (Ok x) (λ u g. let e = eqb-true n 1 u in omega (arith, e))
    (λ u g. by_cond (n ≤ 2) (n == 2) _ _ (Ok x) (λ v k. let e = eqb-true n 2 v in omega (arith, e)) (λ v k. absurd (cc)) g) h) is

signal_read : (n : ℕ) → n ≤ 2 → Reads (signal_in n)
signal_read zero l = (Said signal.Go, refl)
signal_read (suc zero) l = (Said signal.Land, refl)
signal_read (suc (suc zero)) l = (Said signal.Stop, refl)
signal_read (suc (suc (suc n))) l = absurd (omega (arith, l))

said_below : (xs ys : List ℕ) (x : Event) → Below xs ys → said_in xs ≡ Ok x → Reads (said_in ys)
said_below xs ys x b is =
    by_cond (Reads (said_in ys)) (length xs == 1) _ _ (Ok x)
    (λ t h. let r = signal_read (slice_index ys 0) (omega (arith, b.each 0, signal_small (slice_index xs 0) x h)) in (r.0, rw (ap (λ (n : ℕ). n == 1) b.size ∙ t) r.1))
    (λ t h. absurd (cc)) is

-- after one first byte
read_below : (d k : ℕ) (xs ys : List ℕ) (x : Event) → Below xs ys → event_in d (k ∷ xs) ≡ Ok x → Reads (event_in d (k ∷ ys))
read_below d k xs ys x b is = by_kind (k == 1) (k == 2) (k == 3) (k == 4) is
  where
    by_kind : (p q r s : Bool) → cond p (clock_in xs) (cond q (sample_in d xs) (cond r (answer_in d xs) (cond s (said_in xs) (Err fault.Kind)))) ≡ Ok x →
        Reads (cond p (clock_in ys) (cond q (sample_in d ys) (cond r (answer_in d ys) (cond s (said_in ys) (Err fault.Kind)))))
    by_kind true q r s h = clock_below xs ys x b h
    by_kind false true r s h = sample_below d xs ys x b h
    by_kind false false true s h = answer_below d xs ys x b h
    by_kind false false false true h = said_below xs ys x b h
    by_kind false false false false h = absurd (cc)

-- ---- zeros

zero_count : (n : ℕ) → length (replicate {A = ℕ} n 0) ≡ n
zero_count n = length-replicate {A = ℕ} n 0

zeros : (n i : ℕ) → slice_index (replicate n 0) i ≤ 0
zeros zero i = omega arith
zeros (suc n) zero = omega arith
zeros (suc n) (suc i) = zeros n i

-- zeros in place of the last bytes
padded : (front more : List ℕ) (i : ℕ) → slice_index (front ++ replicate (length more) 0) i ≤ slice_index (front ++ more) i
padded [] more i = omega (arith, zeros (length more) i)
padded (x ∷ front) more zero = omega arith
padded (x ∷ front) more (suc i) = padded front more i

-- a front of an event with zeros after it is read as an event
pub pads : FrameLaw → (d : ℕ) (x : Event) (front more : List ℕ) → IsEvent d x → 1 ≤ length front → event_bytes x ≡ front ++ more → Reads (event_in d (front ++ replicate (length more) 0))
pads law d x [] more formed some cut = absurd (omega (arith, some))
pads law d x (k ∷ front) more formed some cut =
    read_below d k (front ++ more) (front ++ replicate (length more) 0) x
    (record { size = omega (arith, length-append front more, length-append front (replicate (length more) 0), zero_count (length more)); each = padded front more })
    (ap (λ (l : List ℕ). event_in d l) (sym cut) ∙ law.read d x formed)

-- ---- one byte more

-- how long an event may be
sizes : (k n : ℕ) → length_of k ≡ Some n → (1 ≤ n) × (n ≤ 11)
sizes k n is = by_kind (k == 1) (k == 2) (k == 3) (k == 4) is
  where
    at : (m : ℕ) → 1 ≤ m → m ≤ 11 → Some m ≡ Some n → (1 ≤ n) × (n ≤ 11)
    at m l h e = let same : m ≡ n = cc in (omega (arith, same, l), omega (arith, same, h))

    by_kind : (p q r s : Bool) → cond p (Some 3) (cond q (Some 11) (cond r (Some 3) (cond s (Some 2) None))) ≡ Some n → (1 ≤ n) × (n ≤ 11)
    by_kind true q r s h = at 3 (omega arith) (omega arith) h
    by_kind false true r s h = at 11 (omega arith) (omega arith) h
    by_kind false false true s h = at 3 (omega arith) (omega arith) h
    by_kind false false false true h = at 2 (omega arith) (omega arith) h
    by_kind false false false false h = absurd (cc)

pub size_few : (k n : ℕ) → length_of k ≡ Some n → n ≤ 11
size_few k n is = (sizes k n is).1

-- a byte after those of an event that is begun isn't past its end
pub size_more : FrameLaw → (d byte n : ℕ) (bytes : List ℕ) → IsBegun d bytes → length_of (slice_index (bytes ++ byte ∷ []) 0) ≡ Some n → length bytes + 1 ≤ n
size_more law d byte n [] b is = omega (arith, (sizes byte n is).0)
size_more law d byte n (k ∷ bytes) b is =
    let size = same_size law b.event n [] (event_bytes b.event) (sym (append-nil (event_bytes b.event)))
    (ap (λ (l : List ℕ). length_of (slice_index l 0)) b.cut ∙ is) in
    omega (arith, size, b.some, ap (λ (l : List ℕ). length l) b.cut, length-append (k ∷ bytes) b.more)

-- no event begins with bytes that aren't one with zeros after them
pub none_reads : FrameLaw → (d n m : ℕ) (front later : List ℕ) (why : FrameFault) → 1 ≤ length front → length_of (slice_index front 0) ≡ Some n → n ≡ length front + m →
    event_in d (front ++ replicate m 0) ≡ Err why → BeginsNoEvent d (front ++ later)
none_reads law d n m [] later why some size sum fault x after formed cut = absurd (omega (arith, some))
none_reads law d n m (k ∷ front) later why some size sum fault x after formed cut =
    let len = same_size law x n after (k ∷ (front ++ later)) cut size in
    let l = longer (k ∷ front) later (event_bytes x) after (omega (arith, len, sum)) cut in
    let more : length l.0 ≡ m = omega (arith, len, sum, ap (λ (l : List ℕ). length l) l.1, length-append (k ∷ front) l.0) in
    let reads = pads law d x (k ∷ front) l.0 formed some l.1 in
    let same = ap (λ (j : ℕ). event_in d ((k ∷ front) ++ replicate j 0)) more in cc

-- ---- the bytes with the zeros after them

-- the first byte is that of each front
head_front : (count : ℕ) (bytes : List ℕ) → 1 ≤ count → count ≤ length bytes → slice_index bytes 0 ≡ slice_index (take count bytes) 0
head_front count [] some few = absurd (omega (arith, some, few))
head_front zero (k ∷ bytes) some few = absurd (omega (arith, some))
head_front (suc count) (k ∷ bytes) some few = refl

-- where zeros stand after the front, a longer front has some of them
cut_is : (count size : ℕ) (bytes : List ℕ) → length bytes ≡ 11 → count ≤ size → size ≤ 11 → bytes ≡ take count bytes ++ replicate (11 - count) 0 →
    take size bytes ≡ take count bytes ++ replicate (size - count) 0
cut_is count size bytes len within few is =
    let front : length (take count bytes) ≡ count = length-take-le count bytes (omega (arith, len, within, few)) in
    let sum : size ≡ length (take count bytes) + (size - count) = omega (arith, front, within) in
    ap (λ (l : List ℕ). take size l) is
    ∙ ap (λ (n : ℕ). take n (take count bytes ++ replicate (11 - count) 0)) sum
    ∙ take-append-add (take count bytes) (replicate (11 - count) 0) (size - count)
    ∙ ap (λ (l : List ℕ). take count bytes ++ l) (take-replicate (size - count) (11 - count) 0 (omega (arith, within, few)))

-- the front isn't longer than the event that its first byte begins
pub size_past : FrameLaw → (d count size : ℕ) (bytes : List ℕ) → length bytes ≡ 11 → 1 ≤ count → count ≤ 11 → IsBegun d (take (count - 1) bytes) → length_of (slice_index bytes 0) ≡ Some size → count ≤ size
size_past law d count size bytes len some few begun is =
    let less : count ≡ (count - 1) + 1 = omega (arith, some) in
    let whole : take count bytes ≡ take (count - 1) bytes ++ get_or bytes (count - 1) 0 ∷ [] =
    ap (λ (n : ℕ). take n bytes) less ∙ take_more bytes (count - 1) 0 (omega (arith, len, some, few)) in
    let first = head_front count bytes some (omega (arith, len, few)) in
    let more = size_more law d (get_or bytes (count - 1) 0) size (take (count - 1) bytes) begun
    (ap (λ (l : List ℕ). length_of (slice_index l 0)) (sym whole) ∙ ap length_of (sym first) ∙ is) in
    omega (arith, more, length-take-le (count - 1) bytes (omega (arith, len, few)), some)

pub judged_err : FrameLaw → (d count size : ℕ) (bytes : List ℕ) (why : FrameFault) → length bytes ≡ 11 → 1 ≤ count → count ≤ 11 → bytes ≡ take count bytes ++ replicate (11 - count) 0 →
    IsBegun d (take (count - 1) bytes) → length_of (slice_index bytes 0) ≡ Some size → event_in d (take size bytes) ≡ Err why → (later : List ℕ) → BeginsNoEvent d (take count bytes ++ later)
judged_err law d count size bytes why len some few zeros begun is fault later =
    let within = size_past law d count size bytes len some few begun is in
    let front : length (take count bytes) ≡ count = length-take-le count bytes (omega (arith, len, few)) in
    none_reads law d size (size - count) (take count bytes) later why (omega (arith, front, some)) (ap length_of (sym (head_front count bytes some (omega (arith, len, few)))) ∙ is)
    (omega (arith, front, within)) (ap (λ (l : List ℕ). event_in d l) (sym (cut_is count size bytes len within (size_few (slice_index bytes 0) size is) zeros)) ∙ fault)

pub judged_more : (d count size : ℕ) (bytes : List ℕ) (x : Event) → length bytes ≡ 11 → bytes ≡ take count bytes ++ replicate (11 - count) 0 → length_of (slice_index bytes 0) ≡ Some size →
    count < size → IsEvent d x → take size bytes ≡ event_bytes x → IsBegun d (take count bytes)
judged_more d count size bytes x len zeros is less formed same = record {
  event = x;
  more = replicate (size - count) 0;
  formed = formed;
  cut = sym same ∙ cut_is count size bytes len (omega (arith, less)) (size_few (slice_index bytes 0) size is) zeros;
  some = omega (arith, less, zero_count (size - count));
}

pub judged_whole : FrameLaw → (d count size : ℕ) (bytes : List ℕ) (x : Event) → length bytes ≡ 11 → 1 ≤ count → count ≤ 11 → IsBegun d (take (count - 1) bytes) → length_of (slice_index bytes 0) ≡ Some size →
    size ≤ count → take size bytes ≡ event_bytes x → take count bytes ≡ event_bytes x
judged_whole law d count size bytes x len some few begun is all same =
    let both : count ≡ size = omega (arith, all, size_past law d count size bytes len some few begun is) in
    ap (λ (n : ℕ). take n bytes) both ∙ same

-- one byte more, and a zero less
pub put_byte : (bytes : List ℕ) (count byte : ℕ) → count < 11 → bytes ≡ take count bytes ++ replicate (11 - count) 0 →
    slice_set bytes count byte ≡ take (count + 1) (slice_set bytes count byte) ++ replicate (11 - (count + 1)) 0
put_byte bytes count byte below is =
    let len : length bytes ≡ length (take count bytes) + length (replicate (11 - count) 0) = ap (λ (l : List ℕ). length l) is ∙ length-append (take count bytes) (replicate (11 - count) 0) in
    let front : length (take count bytes) ≡ count = omega (arith, len, zero_count (11 - count), length-take count bytes, below) in
    let less : 11 - count ≡ suc (11 - (count + 1)) = omega (arith, below) in
    let parts : bytes ≡ take count bytes ++ 0 ∷ replicate (11 - (count + 1)) 0 = is ∙ ap (λ (n : ℕ). take count bytes ++ replicate n 0) less in
    let set_is : slice_set bytes count byte ≡ take count bytes ++ byte ∷ replicate (11 - (count + 1)) 0 =
    ap (λ (l : List ℕ). slice_set l count byte) parts
    ∙ ap (λ (n : ℕ). slice_set (take count bytes ++ 0 ∷ replicate (11 - (count + 1)) 0) n byte) (sym front)
    ∙ set-append_seam (take count bytes) 0 (replicate (11 - (count + 1)) 0) byte in
    let more : take (count + 1) (slice_set bytes count byte) ≡ take count bytes ++ byte ∷ [] = take_more_set bytes count byte (omega (arith, len, front, zero_count (11 - count), below)) in
    set_is ∙ sym (ap (λ (l : List ℕ). l ++ replicate (11 - (count + 1)) 0) more ∙ append_assoc (take count bytes) (byte ∷ []) (replicate (11 - (count + 1)) 0))
