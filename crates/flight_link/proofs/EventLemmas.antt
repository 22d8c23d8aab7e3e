-- Events as bytes: how long they are, and that bytes begin with one event or with none.
use Rattle.flight_link.proofs.Prelude.{◌≡◌, ◌⊎◌, inl, inr, ℕ, ◌+◌, ◌<◌, ◌≤◌, ◌^◌, Bool, true, false, cond, List, [], ◌∷◌, ◌++◌, length, take, drop, slice_index, length-append, append_assoc, Option, Some, None, Result, Ok, Err, refl, sym, ap, subst, ◌∙◌, arith, nat_le, nat_lt, Event, Clock, Seen, Answered, Said, FrameFault, FrameLaw, IsEvent, event_bytes, event_in, length_of, BeginsNoEvent, IsBegun, ℤ, FitsSigned, cases_lt, leb-false, length-take-le, take-append-drop, little_bytes, little_number, IsSample, flags, seen_of, signed}
use Rattle.std.specs.Int.{w16, cast_signed, cast_unsigned}
use Rattle.std.proofs.Math.Facts.{sfits_to_z}
use Rattle.std.proofs.lemmas.Slice.Eq.{bytes_eq-Decides}
use Rattle.std.specs.Str.{bytes_eq}
use Rattle.flight_model.specs.declared.events.Sample.{Sample}
use Rattle.flight_model.specs.declared.events.Signal.TheVariants as signal
use Rattle.flight_link.specs.declared.events.FrameFault.TheVariants as fault

-- ---- how long they are

-- an event has some bytes
pub event_some : (x : Event) → 1 ≤ length (event_bytes x)
event_some (Clock ms) = omega arith
event_some (Seen d s) = omega arith
event_some (Answered d status) = omega arith
event_some (Said s) = omega arith

-- and at most 11
pub event_few : (x : Event) → length (event_bytes x) ≤ 11
event_few (Clock ms) = omega arith
event_few (Seen d s) = omega arith
event_few (Answered d status) = omega arith
event_few (Said s) = omega arith

-- an event that is begun has fewer than 11 bytes
pub short : (d : ℕ) (bytes : List ℕ) → IsBegun d bytes → length bytes < 11
short d bytes b =
    let size : length (event_bytes b.event) ≡ length bytes + length b.more = ap (λ (l : List ℕ). length l) b.cut ∙ length-append bytes b.more in
    omega (arith, size, b.some, event_few b.event)

-- the first byte of an event with others after it
pub head : (x : Event) (later : List ℕ) → slice_index (event_bytes x ++ later) 0 ≡ slice_index (event_bytes x) 0
head (Clock ms) later = refl
head (Seen d s) later = refl
head (Answered d status) later = refl
head (Said s) later = refl

some_is : (a b : ℕ) (x y : Option ℕ) → x ≡ Some a → y ≡ Some b → x ≡ y → a ≡ b
some_is a b x y e g same = cc

-- the first byte says how long an event is
pub same_size : FrameLaw → (x : Event) (n : ℕ) (later bytes : List ℕ) → bytes ≡ event_bytes x ++ later → length_of (slice_index bytes 0) ≡ Some n → length (event_bytes x) ≡ n
same_size law x n later bytes is size =
    some_is (length (event_bytes x)) n _ _ (law.lasts x) size (ap length_of (sym (head x later)) ∙ ap (λ (l : List ℕ). length_of (slice_index l 0)) (sym is))

pub sized : FrameLaw → (x : Event) (later bytes : List ℕ) → bytes ≡ event_bytes x ++ later → length_of (slice_index bytes 0) ≡ Some (length (event_bytes x))
sized law x later bytes is = ap (λ (l : List ℕ). length_of (slice_index l 0)) is ∙ ap length_of (head x later) ∙ law.lasts x

-- ---- fronts of lists

-- two fronts that are as long are one
pub same_fronts : (a b c d : List ℕ) → length a ≡ length c → a ++ b ≡ c ++ d → (a ≡ c) × (b ≡ d)
same_fronts [] b [] d l is = (refl, is)
same_fronts [] b (y ∷ c) d l is = absurd (omega (arith, l))
same_fronts (x ∷ a) b [] d l is = absurd (omega (arith, l))
same_fronts (x ∷ a) b (y ∷ c) d l is =
    let r = same_fronts a b c d (omega (arith, l)) (cc) in
    let e : x ≡ y = cc in
    (rw (e, r.0) refl, r.1)

-- of two fronts the shorter one begins the other
pub longer : (a b c d : List ℕ) → length a ≤ length c → a ++ b ≡ c ++ d → (more : List ℕ) × (c ≡ a ++ more)
longer [] b c d l is = (c, refl)
longer (x ∷ a) b [] d l is = absurd (omega (arith, l))
longer (x ∷ a) b (y ∷ c) d l is =
    let r = longer a b c d (omega (arith, l)) (cc) in
    let e : y ≡ x = cc in
    (r.0, ap (λ (k : ℕ). k ∷ c) e ∙ ap (λ (l : List ℕ). x ∷ l) r.1)

-- ---- one event at the front

ok_is : (x y : Event) (r q : Result Event FrameFault) → r ≡ Ok x → q ≡ Ok y → r ≡ q → x ≡ y
ok_is x y r q e g same = cc

-- bytes that begin with an event begin with no other
pub step : FrameLaw → (d : ℕ) (x y : Event) (later after : List ℕ) → IsEvent d x → IsEvent d y → event_bytes x ++ later ≡ event_bytes y ++ after → (x ≡ y) × (later ≡ after)
step law d x y later after is_x is_y is =
    let size = same_size law x (length (event_bytes y)) later (event_bytes x ++ later) refl (sized law y after (event_bytes x ++ later) is) in
    let same = same_fronts (event_bytes x) later (event_bytes y) after size is in
    (ok_is x y _ _ (law.read d x is_x) (law.read d y is_y) (ap (λ (l : List ℕ). event_in d l) same.0), same.1)

-- before any byte
pub none_begun : (d : ℕ) → IsBegun d []
none_begun d = record { event = Said signal.Go; more = 4 ∷ 0 ∷ []; formed = tt; cut = refl; some = omega arith }

-- an event that is begun is no whole one
pub begun : FrameLaw → (d : ℕ) (bytes : List ℕ) → IsBegun d bytes → BeginsNoEvent d bytes
begun law d bytes b y later formed is =
    let cut : event_bytes b.event ≡ event_bytes y ++ (later ++ b.more) =
    b.cut ∙ ap (λ (l : List ℕ). l ++ b.more) is ∙ append_assoc (event_bytes y) later b.more in
    let size = same_size law y (length (event_bytes b.event)) (later ++ b.more) (event_bytes b.event) cut (law.lasts b.event) in
    omega (arith, size, b.some, length-append (event_bytes y) (later ++ b.more), length-append later b.more, ap (λ (l : List ℕ). length l) cut)

-- ---- which bytes are an event

pub by_cond : {X E : Type 0} (P : Type 0) (b : Bool) (x y r : Result X E) → (b ≡ true → x ≡ r → P) → (b ≡ false → y ≡ r → P) → cond b x y ≡ r → P
by_cond P true x y r f g h = f refl h
by_cond P false x y r f g h = g refl h

-- two bytes of a number
two_small : (n : ℕ) (rest : List ℕ) → little_number 2 (little_bytes 2 n ++ rest) < 2 ^ 16
two_small n rest = omega arith

signed-fits : (n : ℕ) → n < 2 ^ 16 → FitsSigned w16 (cast_signed w16 n)
signed-fits n l = sfits_to_z {w = w16} record { fits = l }

-- the number that is read of two bytes fits them
signed_small : (z : ℤ) (rest : List ℕ) → FitsSigned w16 (cast_signed w16 (little_number 2 (signed z ++ rest)))
signed_small z rest = signed-fits (little_number 2 (signed z ++ rest)) (two_small (cast_unsigned w16 z) rest)

-- a sample that was read of its bytes is one that a frame may carry
sample_fits : (d : ℕ) (x : Sample) → seen_of (d ∷ (little_bytes 2 x.age ++ (signed x.x ++ (signed x.y ++ (signed x.z ++ flags x ∷ []))))) ≡ x → IsSample x
sample_fits d x is = record {
  age = subst (λ (s : Sample). s.age < 2 ^ 16) is (two_small x.age (signed x.x ++ (signed x.y ++ (signed x.z ++ flags x ∷ []))));
  x_fits = subst (λ (s : Sample). FitsSigned w16 s.x) is (signed_small x.x (signed x.y ++ (signed x.z ++ flags x ∷ [])));
  y_fits = subst (λ (s : Sample). FitsSigned w16 s.y) is (signed_small x.y (signed x.z ++ flags x ∷ []));
  z_fits = subst (λ (s : Sample). FitsSigned w16 s.z) is (signed_small x.z (flags x ∷ []));
}

-- an event that its own bytes are read as is one that a frame may carry
event_of : (d : ℕ) (x : Event) → event_in d (event_bytes x) ≡ Ok x → IsEvent d x
event_of d (Clock ms) is = let e : little_number 2 (little_bytes 2 ms ++ []) ≡ ms = cc in subst (λ (n : ℕ). n < 2 ^ 16) e (two_small ms [])
event_of d (Said s) is = tt
event_of d (Answered drone status) is =
    by_cond (drone < d) (nat_le d drone) (Err fault.Drone) (Ok (Answered drone status)) (Ok (Answered drone status)) (λ t h. absurd (cc)) (λ t h. leb-false d drone t) is
event_of d (Seen drone x) is =
    by_cond (IsEvent d (Seen drone x)) (nat_le d drone) _ _ (Ok (Seen drone x)) (λ t h. absurd (cc))
    (λ t h. by_cond (IsEvent d (Seen drone x)) (nat_lt 63 (flags x)) _ _ (Ok (Seen drone x)) (λ u g. absurd (cc))
    (λ u g. (leb-false d drone t, sample_fits drone x (cc))) h) is

-- ---- whether an event stands at the front

abbrev pub BeginsEvent : ℕ → List ℕ → Type 0
BeginsEvent d bytes = (x : Event) × (later : List ℕ) × IsEvent d x × (bytes ≡ event_bytes x ++ later)

-- whether these bytes are one event
abbrev IsOne : ℕ → List ℕ → Type 0
IsOne d front = ((x : Event) × IsEvent d x × (front ≡ event_bytes x)) ⊎ ((x : Event) → IsEvent d x → front ≡ event_bytes x → ⊥)

one_by : FrameLaw → (d : ℕ) (front : List ℕ) (y : Event) → event_in d front ≡ Ok y → (b : Bool) → bytes_eq front (event_bytes y) ≡ b → IsOne d front
one_by law d front y is true same =
    let e : front ≡ event_bytes y = (bytes_eq-Decides front (event_bytes y)).0 same in
    inl (y, event_of d y (ap (λ (l : List ℕ). event_in d l) (sym e) ∙ is), e)
one_by law d front y is false other = inr (λ x formed e.
    let same : y ≡ x = ok_is y x _ _ is (law.read d x formed) (ap (λ (l : List ℕ). event_in d l) e) in
    let yes = (bytes_eq-Decides front (event_bytes y)).1 (e ∙ ap event_bytes (sym same)) in absurd (cc))

one_of : FrameLaw → (d : ℕ) (front : List ℕ) (r : Result Event FrameFault) → event_in d front ≡ r → IsOne d front
one_of law d front (Ok y) is = one_by law d front y is (bytes_eq front (event_bytes y)) refl
one_of law d front (Err why) is = inr (λ x formed e. let read = law.read d x formed in let same = ap (λ (l : List ℕ). event_in d l) e in cc)

found_front : FrameLaw → (d n : ℕ) (bytes : List ℕ) → length_of (slice_index bytes 0) ≡ Some n → n ≤ length bytes → IsOne d (take n bytes) → BeginsEvent d bytes ⊎ BeginsNoEvent d bytes
found_front law d n bytes size long (inl (x, formed, is)) =
    inl (x, drop n bytes, formed, sym (take-append-drop n bytes) ∙ ap (λ (l : List ℕ). l ++ drop n bytes) is)
found_front law d n bytes size long (inr none) = inr (λ x later formed is.
    let len : length (take n bytes) ≡ length (event_bytes x) = length-take-le n bytes long ∙ sym (same_size law x n later bytes is size) in
    none x formed (same_fronts (take n bytes) (drop n bytes) (event_bytes x) later len (take-append-drop n bytes ∙ is)).0)

found_sized : FrameLaw → (d n : ℕ) (bytes : List ℕ) → length_of (slice_index bytes 0) ≡ Some n → (length bytes < n) ⊎ (n ≤ length bytes) → BeginsEvent d bytes ⊎ BeginsNoEvent d bytes
found_sized law d n bytes size (inl few) = inr (λ x later formed is.
    let len = same_size law x n later bytes is size in
    omega (arith, len, few, length-append (event_bytes x) later, ap (λ (l : List ℕ). length l) is))
found_sized law d n bytes size (inr long) = found_front law d n bytes size long (one_of law d (take n bytes) (event_in d (take n bytes)) refl)

found_by : FrameLaw → (d : ℕ) (bytes : List ℕ) (o : Option ℕ) → length_of (slice_index bytes 0) ≡ o → BeginsEvent d bytes ⊎ BeginsNoEvent d bytes
found_by law d bytes None is = inr (λ x later formed cut. let size = sized law x later bytes cut in cc)
found_by law d bytes (Some n) is = found_sized law d n bytes is (cases_lt (length bytes) n)

-- an event stands at the front of bytes, or none does
pub found : FrameLaw → (d : ℕ) (bytes : List ℕ) → BeginsEvent d bytes ⊎ BeginsNoEvent d bytes
found law d bytes = found_by law d bytes (length_of (slice_index bytes 0)) refl
