-- Frames lose nothing.
use Rattle.std.proofs.lemmas.Grind.{common_steps}
use Rattle.std.proofs.lemmas.List.{append_assoc}
use Rattle.std.proofs.lemmas.Bool.{lt-leb, le-ltb, leb-false, ltb-false, eqb-true}
use Rattle.std.proofs.Math.Facts.{Fits-of_z, Fits-lt-pow, sfits_to_z}
use Rattle.std.proofs.lemmas.Int.{to_z-of_z, of_z-to_z}
use Rattle.std.proofs.Common.{◌≡◌, ℕ, zero, suc, ◌+◌, ◌*◌, ◌/◌, ◌%◌, ◌^◌, ◌<◌, ◌≤◌, Bool, true, false, cond, nat_le, nat_lt, ◌==◌, List, [], ◌∷◌, ◌++◌, length, drop, slice_index, refl, ap, sym, subst, ◌∙◌, arith, Option, Some, None, Result, Ok, Err, IfOk, ℤ, FitsSigned}
use Rattle.std.specs.Int.{w16, cast_signed, cast_unsigned}
use Rattle.byteorder.specs.Endian.{little_bytes, little_number}
use Rattle.flight_model.specs.declared.events.Order.{Order}
use Rattle.flight_model.specs.declared.events.Order.TheVariants as order
use Rattle.flight_model.specs.declared.events.Sample.{Sample}
use Rattle.flight_model.specs.declared.events.Signal.TheVariants as signal
use Rattle.flight_model.specs.declared.events.Event.{Event}
use Rattle.flight_model.specs.declared.events.Event.TheVariants.{Clock, Seen, Answered, Said}
use Rattle.flight_model.specs.declared.events.Fault.{Fault}
use Rattle.flight_model.specs.declared.events.Fault.TheVariants.{Silent, Astray, Lost, Refused, Late, Unsure, Outside, Uncovered}
use Rattle.flight_model.specs.declared.events.Frame.{Frame}
use Rattle.flight_model.specs.declared.events.Frame.TheVariants.{To, ToAll, Noted, Over}
use Rattle.flight_link.specs.declared.events.FrameFault.{FrameFault}
use Rattle.flight_link.specs.declared.events.FrameFault.TheVariants as fault
use Rattle.flight_link.specs.Frames.{signed, bit, flags, bit_at, event_bytes, event_in, seen_of, IsEvent, IsSample, length_of, order_bytes, order_in, IsOrder, position, output_bytes, output_in, IsOutput, FrameLaw, clock_in, sample_in, answer_in, said_in, signal_in, to_in, all_in, fault_in, fault_byte}

-- ---- numbers of two and of four bytes

two_read : (n : ℕ) (rest : List ℕ) → n < 2 ^ 16 → little_number 2 (little_bytes 2 n ++ rest) ≡ n
two_read n rest l = grind (arith, common_steps)

four_read : (n : ℕ) (rest : List ℕ) → n < 2 ^ 32 → little_number 4 (little_bytes 4 n ++ rest) ≡ n
four_read n rest l = grind (arith, common_steps)

unsigned-small : (z : ℤ) → FitsSigned w16 z → cast_unsigned w16 z < 2 ^ 16
unsigned-small z f = Fits-lt-pow (Fits-of_z f)

signed_read : (z : ℤ) (rest : List ℕ) → FitsSigned w16 z → cast_signed w16 (little_number 2 (signed z ++ rest)) ≡ z
signed_read z rest f = ap (λ n. cast_signed w16 n) (two_read (cast_unsigned w16 z) rest (unsigned-small z f)) ∙ to_z-of_z w16 z f

two_bytes : (a b : ℕ) (rest : List ℕ) → a < 256 → b < 256 → little_bytes 2 (little_number 2 (a ∷ b ∷ rest)) ≡ a ∷ b ∷ []
two_bytes a b rest ha hb = grind (arith, common_steps)

two_fits : (a b : ℕ) (rest : List ℕ) → a < 256 → b < 256 → little_number 2 (a ∷ b ∷ rest) < 2 ^ 16
two_fits a b rest ha hb = omega arith

signed_bytes : (a b : ℕ) (rest : List ℕ) → a < 256 → b < 256 → signed (cast_signed w16 (little_number 2 (a ∷ b ∷ rest))) ≡ a ∷ b ∷ []
signed_bytes a b rest ha hb =
    ap (λ n. little_bytes 2 n) (of_z-to_z w16 (little_number 2 (a ∷ b ∷ rest)) (two_fits a b rest ha hb)) ∙ two_bytes a b rest ha hb

signed-fits : (n : ℕ) → n < 2 ^ 16 → FitsSigned w16 (cast_signed w16 n)
signed-fits n l = sfits_to_z {w = w16} record { fits = l }

-- ---- flags

abbrev flags_of : Bool → Bool → Bool → Bool → Bool → Bool → ℕ
flags_of r m l d f u = bit r + 2 * bit m + 4 * bit l + 8 * bit d + 16 * bit f + 32 * bit u

bit-small : (b : Bool) → bit b < 2
bit-small true = omega arith
bit-small false = omega arith

bit-is : (b : Bool) (n : ℕ) → n ≡ bit b → (n == 1) ≡ b
bit-is true n e = rw e refl
bit-is false n e = rw e refl

bit-of : (n : ℕ) → n < 2 → bit (n == 1) ≡ n
bit-of zero l = refl
bit-of (suc zero) l = refl
bit-of (suc (suc n)) l = absurd (omega (arith, l))

record Bits (r m l d f u : Bool) : Type 0 where
  ready : bit_at 1 (flags_of r m l d f u) ≡ r
  armed : bit_at 2 (flags_of r m l d f u) ≡ m
  lost : bit_at 4 (flags_of r m l d f u) ≡ l
  down : bit_at 8 (flags_of r m l d f u) ≡ d
  flying : bit_at 16 (flags_of r m l d f u) ≡ f
  sure : bit_at 32 (flags_of r m l d f u) ≡ u
  few : nat_lt 63 (flags_of r m l d f u) ≡ false

bits : (r m l d f u : Bool) → Bits r m l d f u
bits r m l d f u =
    let a = bit-small r in
    let b = bit-small m in
    let c = bit-small l in
    let e = bit-small d in
    let g = bit-small f in
    let h = bit-small u in
    record {
      ready = bit-is r ((flags_of r m l d f u / 1) % 2) (omega (arith, a, b, c, e, g, h));
      armed = bit-is m ((flags_of r m l d f u / 2) % 2) (omega (arith, a, b, c, e, g, h));
      lost = bit-is l ((flags_of r m l d f u / 4) % 2) (omega (arith, a, b, c, e, g, h));
      down = bit-is d ((flags_of r m l d f u / 8) % 2) (omega (arith, a, b, c, e, g, h));
      flying = bit-is f ((flags_of r m l d f u / 16) % 2) (omega (arith, a, b, c, e, g, h));
      sure = bit-is u ((flags_of r m l d f u / 32) % 2) (omega (arith, a, b, c, e, g, h));
      few = le-ltb 63 (flags_of r m l d f u) (omega (arith, a, b, c, e, g, h));
    }

flags-of : (n : ℕ) → n < 64 → flags_of (bit_at 1 n) (bit_at 2 n) (bit_at 4 n) (bit_at 8 n) (bit_at 16 n) (bit_at 32 n) ≡ n
flags-of n l =
    let a = bit-of ((n / 1) % 2) (omega arith) in
    let b = bit-of ((n / 2) % 2) (omega arith) in
    let c = bit-of ((n / 4) % 2) (omega arith) in
    let e = bit-of ((n / 8) % 2) (omega arith) in
    let g = bit-of ((n / 16) % 2) (omega arith) in
    let h = bit-of ((n / 32) % 2) (omega arith) in
    omega (arith, a, b, c, e, g, h, l)

-- ---- samples

abbrev sample_of : ℕ → ℤ → ℤ → ℤ → Bool → Bool → Bool → Bool → Bool → Bool → Sample
sample_of a x y z r m l d f u = record { age = a; x = x; y = y; z = z; ready = r; armed = m; lost = l; down = d; flying = f; sure = u }

same : (a a' : ℕ) (x x' y y' z z' : ℤ) (r r' m m' l l' d d' f f' u u' : Bool) → a ≡ a' → x ≡ x' → y ≡ y' → z ≡ z' → r ≡ r' → m ≡ m' → l ≡ l' → d ≡ d' → f ≡ f' → u ≡ u' →
    sample_of a x y z r m l d f u ≡ sample_of a' x' y' z' r' m' l' d' f' u'
same a a' x x' y y' z z' r r' m m' l l' d d' f f' u u' ea ex ey ez er em el ed ef eu = rw (ea, ex, ey, ez, er, em, el, ed, ef, eu) refl

abbrev sample_bytes : ℕ → Sample → List ℕ
sample_bytes d x = d ∷ (little_bytes 2 x.age ++ (signed x.x ++ (signed x.y ++ (signed x.z ++ flags x ∷ []))))

seen_read : (d : ℕ) (x : Sample) → IsSample x → seen_of (sample_bytes d x) ≡ x
seen_read d x is =
    let b = bits x.ready x.armed x.lost x.down x.flying x.sure in
    same (little_number 2 (little_bytes 2 x.age ++ (signed x.x ++ (signed x.y ++ (signed x.z ++ flags x ∷ []))))) x.age
    (cast_signed w16 (little_number 2 (signed x.x ++ (signed x.y ++ (signed x.z ++ flags x ∷ []))))) x.x
    (cast_signed w16 (little_number 2 (signed x.y ++ (signed x.z ++ flags x ∷ [])))) x.y
    (cast_signed w16 (little_number 2 (signed x.z ++ flags x ∷ []))) x.z
    (bit_at 1 (flags x)) x.ready (bit_at 2 (flags x)) x.armed (bit_at 4 (flags x)) x.lost (bit_at 8 (flags x)) x.down
    (bit_at 16 (flags x)) x.flying (bit_at 32 (flags x)) x.sure
    (two_read x.age (signed x.x ++ (signed x.y ++ (signed x.z ++ flags x ∷ []))) is.age)
    (signed_read x.x (signed x.y ++ (signed x.z ++ flags x ∷ [])) is.x_fits)
    (signed_read x.y (signed x.z ++ flags x ∷ []) is.y_fits)
    (signed_read x.z (flags x ∷ []) is.z_fits)
    b.ready b.armed b.lost b.down b.flying b.sure

-- an event that was read
abbrev ok : Event → Result Event FrameFault
ok e = Ok e

-- ---- an event is read as itself

read : (drones : ℕ) (e : Event) → IsEvent drones e → event_in drones (event_bytes e) ≡ Ok e
read drones (Clock ms) l = ap (λ n. Ok (Clock n)) (two_read ms [] l)
read drones (Said signal.Go) l = refl
read drones (Said signal.Land) l = refl
read drones (Said signal.Stop) l = refl
read drones (Answered d status) l =
    ap (λ b. cond b (Err fault.Drone) (Ok (Answered d status))) (lt-leb drones d l)
read drones (Seen d x) l =
    ap (λ b. cond b (Err fault.Drone) (cond (nat_lt 63 (flags x)) (Err fault.Flags) (Ok (Seen d (seen_of (sample_bytes d x)))))) (lt-leb drones d l.0)
    ∙ (ap (λ b. cond b (Err fault.Flags) (Ok (Seen d (seen_of (sample_bytes d x))))) (bits x.ready x.armed x.lost x.down x.flying x.sure).few
    ∙ ap (λ y. Ok (Seen d y)) (seen_read d x l.1))

-- ---- and bytes that are read as an event are its frame

by_cond : {X E : Type 0} (P : Type 0) (b : Bool) (x y r : Result X E) → (b ≡ true → x ≡ r → P) → (b ≡ false → y ≡ r → P) → cond b x y ≡ r → P
by_cond P true x y r f g h = f refl h
by_cond P false x y r f g h = g refl h

abbrev AreSmall : List ℕ → Type 0
AreSmall xs = (i : ℕ) → slice_index xs i < 256

abbrev IsFrameOf : ℕ → List ℕ → Event → Type 0
IsFrameOf drones bytes e = IsEvent drones e × (bytes ≡ event_bytes e)

frame_of : (drones : ℕ) (bytes : List ℕ) (a e : Event) → ok a ≡ Ok e → IsFrameOf drones bytes a → IsFrameOf drones bytes e
frame_of drones bytes a e h f = subst (λ x. IsFrameOf drones bytes x) (ok_is a e h) f where
  ok_is : (a e : Event) → ok a ≡ Ok e → a ≡ e
  ok_is a e h = cc

clock-only : (drones : ℕ) (rest : List ℕ) (e : Event) → AreSmall rest → length rest ≡ 2 → ok (Clock (little_number 2 rest)) ≡ Ok e → IsFrameOf drones (1 ∷ rest) e
clock-only drones (a ∷ b ∷ []) e small two h =
    frame_of drones (1 ∷ a ∷ b ∷ []) (Clock (little_number 2 (a ∷ b ∷ []))) e h
    (two_fits a b [] (small 0) (small 1), ap (λ bs. 1 ∷ bs) (sym (two_bytes a b [] (small 0) (small 1))))
clock-only drones rest e small two h = absurd (omega (arith, two))

answer-only : (drones : ℕ) (rest : List ℕ) (e : Event) → length rest ≡ 2 → slice_index rest 0 < drones →
    ok (Answered (slice_index rest 0) (slice_index rest 1)) ≡ Ok e → IsFrameOf drones (3 ∷ rest) e
answer-only drones (d ∷ s ∷ []) e two l h = frame_of drones (3 ∷ d ∷ s ∷ []) (Answered d s) e h (l, refl)
answer-only drones rest e two l h = absurd (omega (arith, two))

sample-only : (drones : ℕ) (rest : List ℕ) (e : Event) → AreSmall rest → length rest ≡ 10 → slice_index rest 0 < drones → slice_index rest 9 < 64 →
    ok (Seen (slice_index rest 0) (seen_of rest)) ≡ Ok e → IsFrameOf drones (2 ∷ rest) e
sample-only drones (d ∷ a ∷ b ∷ p ∷ q ∷ r ∷ s ∷ t ∷ u ∷ f ∷ []) e small ten l few h =
    frame_of drones (2 ∷ d ∷ a ∷ b ∷ p ∷ q ∷ r ∷ s ∷ t ∷ u ∷ f ∷ []) (Seen d (seen_of (d ∷ a ∷ b ∷ p ∷ q ∷ r ∷ s ∷ t ∷ u ∷ f ∷ []))) e h (
      (
        l,
        record {
          age = two_fits a b (p ∷ q ∷ r ∷ s ∷ t ∷ u ∷ f ∷ []) (small 1) (small 2);
          x_fits = signed-fits (little_number 2 (p ∷ q ∷ r ∷ s ∷ t ∷ u ∷ f ∷ [])) (two_fits p q (r ∷ s ∷ t ∷ u ∷ f ∷ []) (small 3) (small 4));
          y_fits = signed-fits (little_number 2 (r ∷ s ∷ t ∷ u ∷ f ∷ [])) (two_fits r s (t ∷ u ∷ f ∷ []) (small 5) (small 6));
          z_fits = signed-fits (little_number 2 (t ∷ u ∷ f ∷ [])) (two_fits t u (f ∷ []) (small 7) (small 8));
        },
      ),
      sym bytes_are,
    ) where
      bytes_are : event_bytes (Seen d (seen_of (d ∷ a ∷ b ∷ p ∷ q ∷ r ∷ s ∷ t ∷ u ∷ f ∷ []))) ≡ 2 ∷ d ∷ a ∷ b ∷ p ∷ q ∷ r ∷ s ∷ t ∷ u ∷ f ∷ []
      bytes_are =
          join (little_bytes 2 (little_number 2 (a ∷ b ∷ p ∷ q ∷ r ∷ s ∷ t ∷ u ∷ f ∷ [])))
          (signed (cast_signed w16 (little_number 2 (p ∷ q ∷ r ∷ s ∷ t ∷ u ∷ f ∷ []))))
          (signed (cast_signed w16 (little_number 2 (r ∷ s ∷ t ∷ u ∷ f ∷ []))))
          (signed (cast_signed w16 (little_number 2 (t ∷ u ∷ f ∷ []))))
          (flags_of (bit_at 1 f) (bit_at 2 f) (bit_at 4 f) (bit_at 8 f) (bit_at 16 f) (bit_at 32 f))
          (two_bytes a b (p ∷ q ∷ r ∷ s ∷ t ∷ u ∷ f ∷ []) (small 1) (small 2))
          (signed_bytes p q (r ∷ s ∷ t ∷ u ∷ f ∷ []) (small 3) (small 4))
          (signed_bytes r s (t ∷ u ∷ f ∷ []) (small 5) (small 6))
          (signed_bytes t u (f ∷ []) (small 7) (small 8))
          (flags-of f few) where
            join : (ns xs ys zs : List ℕ) (g : ℕ) → ns ≡ a ∷ b ∷ [] → xs ≡ p ∷ q ∷ [] → ys ≡ r ∷ s ∷ [] → zs ≡ t ∷ u ∷ [] → g ≡ f →
                2 ∷ d ∷ (ns ++ (xs ++ (ys ++ (zs ++ g ∷ [])))) ≡ 2 ∷ d ∷ a ∷ b ∷ p ∷ q ∷ r ∷ s ∷ t ∷ u ∷ f ∷ []
            join ns xs ys zs g ea ex ey ez eg = rw (ea, ex, ey, ez, eg) refl
sample-only drones rest e small ten l few h = absurd (omega (arith, ten))

said-only : (drones : ℕ) (rest : List ℕ) (e : Event) → length rest ≡ 1 → signal_in (slice_index rest 0) ≡ Ok e → IsFrameOf drones (4 ∷ rest) e
said-only drones (b ∷ []) e one h =
    by_cond (IsFrameOf drones (4 ∷ b ∷ []) e) (b == 0) _ _ (Ok e) (λ t g. at b 0 (Said signal.Go) t g (tt, refl))
    (λ f g. by_cond (IsFrameOf drones (4 ∷ b ∷ []) e) (b == 1) _ _ (Ok e) (λ t k. at b 1 (Said signal.Land) t k (tt, refl))
    (λ o k. by_cond (IsFrameOf drones (4 ∷ b ∷ []) e) (b == 2) _ _ (Ok e) (λ t m. at b 2 (Said signal.Stop) t m (tt, refl)) (λ n m. absurd (cc)) k) g) h where
      at : (b n : ℕ) (a : Event) → (b == n) ≡ true → ok a ≡ Ok e → IsFrameOf drones (4 ∷ n ∷ []) a → IsFrameOf drones (4 ∷ b ∷ []) e
      at b n a t g is = frame_of drones (4 ∷ b ∷ []) a e g (subst (λ k. IsFrameOf drones (4 ∷ k ∷ []) a) (sym (eqb-true b n t)) is)
said-only drones rest e one h = absurd (omega (arith, one))

of_kind : (drones k n : ℕ) (rest : List ℕ) (e : Event) → (k == n) ≡ true → IsFrameOf drones (n ∷ rest) e → IsFrameOf drones (k ∷ rest) e
of_kind drones k n rest e t is = subst (λ i. IsFrameOf drones (i ∷ rest) e) (sym (eqb-true k n t)) is

module _ (drones : ℕ) (rest : List ℕ) (e : Event) (small : AreSmall rest) where
  clock-frame : clock_in rest ≡ Ok e → IsFrameOf drones (1 ∷ rest) e
  clock-frame h =
      by_cond (IsFrameOf drones (1 ∷ rest) e) (length rest == 2) _ _ (Ok e)
      (λ t g. clock-only drones rest e small (eqb-true (length rest) 2 t) g) (λ f g. absurd (cc)) h

  answer-frame : answer_in drones rest ≡ Ok e → IsFrameOf drones (3 ∷ rest) e
  answer-frame h =
      by_cond (IsFrameOf drones (3 ∷ rest) e) (length rest == 2) _ _ (Ok e)
      (λ t g. by_cond (IsFrameOf drones (3 ∷ rest) e) (nat_le drones (slice_index rest 0)) _ _ (Ok e) (λ u k. absurd (cc))
      (λ u k. answer-only drones rest e (eqb-true (length rest) 2 t) (leb-false drones (slice_index rest 0) u) k) g) (λ f g. absurd (cc)) h

  sample-frame : sample_in drones rest ≡ Ok e → IsFrameOf drones (2 ∷ rest) e
  sample-frame h =
      by_cond (IsFrameOf drones (2 ∷ rest) e) (length rest == 10) _ _ (Ok e)
      (λ t g. by_cond (IsFrameOf drones (2 ∷ rest) e) (nat_le drones (slice_index rest 0)) _ _ (Ok e) (λ u k. absurd (cc))
      (λ u k. by_cond (IsFrameOf drones (2 ∷ rest) e) (nat_lt 63 (slice_index rest 9)) _ _ (Ok e) (λ v m. absurd (cc))
      (λ v m. sample-only drones rest e small (eqb-true (length rest) 10 t) (leb-false drones (slice_index rest 0) u)
      (let few = ltb-false 63 (slice_index rest 9) v in omega (arith, few)) m) k) g) (λ f g. absurd (cc)) h

  said-frame : said_in rest ≡ Ok e → IsFrameOf drones (4 ∷ rest) e
  said-frame h =
      by_cond (IsFrameOf drones (4 ∷ rest) e) (length rest == 1) _ _ (Ok e)
      (λ t g. said-only drones rest e (eqb-true (length rest) 1 t) g) (λ f g. absurd (cc)) h

only : (drones : ℕ) (bytes : List ℕ) (e : Event) → ((i : ℕ) → slice_index bytes i < 256) → event_in drones bytes ≡ Ok e → IsFrameOf drones bytes e
only drones [] e small h = absurd (cc)
only drones (k ∷ rest) e small h =
    let less : AreSmall rest = λ i. small (suc i) in
    by_cond (IsFrameOf drones (k ∷ rest) e) (k == 1) _ _ (Ok e) (λ t g. of_kind drones k 1 rest e t (clock-frame drones rest e less g))
    (λ f g. by_cond (IsFrameOf drones (k ∷ rest) e) (k == 2) _ _ (Ok e) (λ t m. of_kind drones k 2 rest e t (sample-frame drones rest e less m))
    (λ o m. by_cond (IsFrameOf drones (k ∷ rest) e) (k == 3) _ _ (Ok e) (λ t n. of_kind drones k 3 rest e t (answer-frame drones rest e less n))
    (λ p n. by_cond (IsFrameOf drones (k ∷ rest) e) (k == 4) _ _ (Ok e) (λ t q. of_kind drones k 4 rest e t (said-frame drones rest e less q))
    (λ r q. absurd (cc)) n) m) g) h

lasts : (e : Event) → length_of (slice_index (event_bytes e) 0) ≡ Some (length (event_bytes e))
lasts (Clock ms) = refl
lasts (Seen d x) = refl
lasts (Answered d status) = refl
lasts (Said s) = refl

-- ---- what is said

order_read : (o : Order) → IsOrder o → order_in (order_bytes o) ≡ Some o
order_read order.Arm is = refl
order_read order.Start is = refl
order_read order.Halt is = refl
order_read order.Disarm is = refl
order_read order.Group is = refl
order_read (order.Rise z ms) is =
    let ez = signed_read z (little_bytes 4 ms) is.0 in
    let em = four_read ms [] is.1 in
    ap (λ a. Some (order.Rise a (little_number 4 (little_bytes 4 ms)))) ez ∙ ap (λ n. Some (order.Rise z n)) em
order_read (order.Land z ms) is =
    let ez = signed_read z (little_bytes 4 ms) is.0 in
    let em = four_read ms [] is.1 in
    ap (λ a. Some (order.Land a (little_number 4 (little_bytes 4 ms)))) ez ∙ ap (λ n. Some (order.Land z n)) em
order_read (order.Go x y z yaw ms) is =
    same_go
    (cast_signed w16 (little_number 2 (signed x ++ (signed y ++ (signed z ++ (signed yaw ++ little_bytes 4 ms))))))
    (cast_signed w16 (little_number 2 (signed y ++ (signed z ++ (signed yaw ++ little_bytes 4 ms)))))
    (cast_signed w16 (little_number 2 (signed z ++ (signed yaw ++ little_bytes 4 ms))))
    (cast_signed w16 (little_number 2 (signed yaw ++ little_bytes 4 ms)))
    (little_number 4 (little_bytes 4 ms))
    (signed_read x (signed y ++ (signed z ++ (signed yaw ++ little_bytes 4 ms))) is.0)
    (signed_read y (signed z ++ (signed yaw ++ little_bytes 4 ms)) is.1)
    (signed_read z (signed yaw ++ little_bytes 4 ms) is.2)
    (signed_read yaw (little_bytes 4 ms) is.3)
    (four_read ms [] is.4) where
      same_go : (a b c d : ℤ) (n : ℕ) → a ≡ x → b ≡ y → c ≡ z → d ≡ yaw → n ≡ ms → Some (order.Go a b c d n) ≡ Some (order.Go x y z yaw ms)
      same_go a b c d n ea eb ec ed en = rw (ea, eb, ec, ed, en) refl

said : (f : Frame) → IsOutput f → output_in (output_bytes f) ≡ Some f
said (To d o) is = ap (to_in d) (order_read o is)
said (ToAll o) is = ap all_in (order_read o is)
said (Noted n) is = by_fault n.fault where
  by_fault : (g : Fault) → Some (Noted (record { drone = n.drone; fault = fault_in (fault_byte g) })) ≡ Some (Noted (record { drone = n.drone; fault = g }))
  by_fault Silent = refl
  by_fault Astray = refl
  by_fault Lost = refl
  by_fault Refused = refl
  by_fault Late = refl
  by_fault Unsure = refl
  by_fault Outside = refl
  by_fault Uncovered = refl
said (Over true true) is = refl
said (Over true false) is = refl
said (Over false true) is = refl
said (Over false false) is = refl

pub frame_law : FrameLaw
frame_law = record { read = read; only = only; lasts = lasts; said = said }

pub event_read : (drones : ℕ) (e : Event) → IsEvent drones e → event_in drones (event_bytes e) ≡ Ok e
event_read = read

pub event_only : (drones : ℕ) (bytes : List ℕ) (e : Event) → ((i : ℕ) → slice_index bytes i < 256) → event_in drones bytes ≡ Ok e → IsEvent drones e × (bytes ≡ event_bytes e)
event_only = only

-- a fact of each value that a result may have
pub if_each : (r : Result Event FrameFault) (P : Event → Type 0) → ((e : Event) → r ≡ Ok e → P e) → IfOk r P
if_each (Ok e) P f = f e refl
if_each (Err why) P f = tt

-- bytes that are put one after another
pub put_three : (old first second third a b c : List ℕ) → a ≡ old ++ first → b ≡ a ++ second → c ≡ b ++ third → c ≡ old ++ (first ++ (second ++ third))
put_three old first second third a b c ea eb ec =
    ec ∙ (ap (λ xs. xs ++ third) (eb ∙ ap (λ xs. xs ++ second) ea)
    ∙ (append_assoc (old ++ first) second third ∙ append_assoc old first (second ++ third)))

-- a go that is put: its numbers, as the type has them
pub go_put : (x x' y y' z z' w w' : ℤ) (ms : ℕ) (old a b c : List ℕ) → x' ≡ x → y' ≡ y → z' ≡ z → w' ≡ w → a ≡ old ++ 2 ∷ [] → b ≡ a ++ position x' y' z' →
    c ≡ b ++ (signed w' ++ little_bytes 4 ms) → c ≡ old ++ 2 ∷ (position x y z ++ (signed w ++ little_bytes 4 ms))
go_put x x' y y' z z' w w' ms old a b c ex ey ez ew ea eb ec =
    put_three old (2 ∷ []) (position x' y' z') (signed w' ++ little_bytes 4 ms) a b c ea eb ec ∙ same_go where
      same_go : old ++ 2 ∷ (position x' y' z' ++ (signed w' ++ little_bytes 4 ms)) ≡ old ++ 2 ∷ (position x y z ++ (signed w ++ little_bytes 4 ms))
      same_go = rw (ex, ey, ez, ew) refl
