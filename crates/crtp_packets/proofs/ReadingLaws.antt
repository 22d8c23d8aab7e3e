-- A packet that is read as a message is that message, field by field, and the other way round.
use Rattle.std.proofs.lemmas.Grind.{common_steps}
use Rattle.std.proofs.Common.{◌≡◌, ℕ, suc, ◌^◌, ◌<◌, ◌≤◌, Bool, true, false, cond, nat_lt, List, [], ◌∷◌, ◌++◌, length, drop, slice_index, refl, ap, sym, ◌∙◌, arith, Result, IfOk}
use Rattle.byteorder.specs.Endian.{little_bytes, little_number}
use Rattle.crtp_packets.specs.Reading.{IsAt, is_at, down_of, up_of, SpellsDown, SpellsUp}

-- each number of the list is a byte
abbrev pub AreBytes : List ℕ → Type 0
AreBytes xs = (i : ℕ) → slice_index xs i < 256

-- the four bytes of the number that four bytes make are these bytes
pub four_bytes : (a b c d : ℕ) (rest : List ℕ) → a < 256 → b < 256 → c < 256 → d < 256 →
    little_bytes 4 (little_number 4 (a ∷ b ∷ c ∷ d ∷ rest)) ≡ a ∷ b ∷ c ∷ d ∷ []
four_bytes a b c d rest ha hb hc hd = grind (arith, common_steps)

-- a number of four bytes is below 2 ^ 32
pub number_fits : (a b c d : ℕ) (rest : List ℕ) → a < 256 → b < 256 → c < 256 → d < 256 →
    little_number 4 (a ∷ b ∷ c ∷ d ∷ rest) < 2 ^ 32
number_fits a b c d rest ha hb hc hd = omega arith

-- a payload of six bytes or more is an id, an address, a byte and the rest
record IsPlaced (payload : List ℕ) : Type 0 where
  whole : payload ≡ slice_index payload 0 ∷ (little_bytes 4 (little_number 4 (drop 1 payload)) ++ drop 5 payload)
  fits : little_number 4 (drop 1 payload) < 2 ^ 32
  behind : drop 5 payload ≡ slice_index payload 5 ∷ drop 6 payload

placed : (payload : List ℕ) → 6 ≤ length payload → AreBytes payload → IsPlaced payload
placed (i ∷ a ∷ b ∷ c ∷ d ∷ x ∷ rest) long small = record {
  whole = ap (λ (bs : List ℕ). i ∷ (bs ++ x ∷ rest)) (sym (four_bytes a b c d (x ∷ rest) (small 1) (small 2) (small 3) (small 4)));
  fits = number_fits a b c d (x ∷ rest) (small 1) (small 2) (small 3) (small 4);
  behind = refl;
}
placed payload long small = absurd (omega arith)

-- a test of port and channel that holds says them
at_true : (header p c : ℕ) → is_at header p c ≡ true → IsAt header p c
at_true header p c e = grind arith

-- a fact on a choice, from the fact on each side
pub if_ok : {X E : Type 0} (P : X → Type 0) (b : Bool) (x y : Result X E) → (b ≡ true → IfOk x P) → (b ≡ false → IfOk y P) →
    IfOk (cond b x y) P
if_ok P true x y f g = f refl
if_ok P false x y f g = g refl

-- a test that fails says that the payload is long
pub not_short : (n least : ℕ) → nat_lt n least ≡ false → least ≤ n
not_short n least e = grind arith

pub spells-down : (packet : List ℕ) → 1 ≤ length packet → AreBytes packet → IfOk (down_of packet) (SpellsDown packet)
spells-down [] some small = absurd (omega arith)
spells-down (header ∷ payload) some small =
    if_ok (SpellsDown (header ∷ payload)) (is_at header 4 2) _ _
    (λ at. if_ok (SpellsDown (header ∷ payload)) (nat_lt (length payload) 6) _ _ (λ short. tt)
    (λ long. let place = placed payload (not_short (length payload) 6 long) (λ i. small (suc i)) in
    (at_true header 4 2 at, ap (λ (xs : List ℕ). header ∷ xs) place.whole, place.fits, rw place.behind (omega arith))))
    (λ other. if_ok (SpellsDown (header ∷ payload)) (is_at header 4 1) _ _
    (λ at. if_ok (SpellsDown (header ∷ payload)) (nat_lt (length payload) 6) _ _ (λ short. tt)
    (λ long. let place = placed payload (not_short (length payload) 6 long) (λ i. small (suc i)) in
    (drop 6 payload, at_true header 4 1 at, ap (λ (xs : List ℕ). header ∷ xs) (place.whole ∙ ap (λ (xs : List ℕ). slice_index payload 0 ∷ (little_bytes 4 (little_number 4 (drop 1 payload)) ++ xs)) place.behind), place.fits)))
    (λ third. if_ok (SpellsDown (header ∷ payload)) (is_at header 8 0) _ _
    (λ at. if_ok (SpellsDown (header ∷ payload)) (nat_lt (length payload) 1) _ _ (λ short. tt)
    (λ long. (at_true header 8 0 at, refl, not_short (length payload) 1 long)))
    (λ none. tt)))

-- four bytes or more are three bytes, a byte and the rest
answer_whole : (payload : List ℕ) → 4 ≤ length payload →
    payload ≡ (slice_index payload 0 ∷ slice_index payload 1 ∷ slice_index payload 2 ∷ []) ++ slice_index payload 3 ∷ drop 4 payload
answer_whole (a ∷ b ∷ c ∷ d ∷ rest) long = refl
answer_whole payload long = absurd (omega arith)

pub spells-up : (packet : List ℕ) → 1 ≤ length packet → AreBytes packet → IfOk (up_of packet) (SpellsUp packet)
spells-up [] some small = absurd (omega arith)
spells-up (header ∷ payload) some small =
    if_ok (SpellsUp (header ∷ payload)) (is_at header 4 2) _ _
    (λ at. if_ok (SpellsUp (header ∷ payload)) (nat_lt (length payload) 6) _ _ (λ short. tt)
    (λ long. let place = placed payload (not_short (length payload) 6 long) (λ i. small (suc i)) in
    (drop 6 payload, at_true header 4 2 at, ap (λ (xs : List ℕ). header ∷ xs) (place.whole ∙ ap (λ (xs : List ℕ). slice_index payload 0 ∷ (little_bytes 4 (little_number 4 (drop 1 payload)) ++ xs)) place.behind), place.fits)))
    (λ other. if_ok (SpellsUp (header ∷ payload)) (is_at header 4 1) _ _
    (λ at. if_ok (SpellsUp (header ∷ payload)) (nat_lt (length payload) 6) _ _ (λ short. tt)
    (λ long. let place = placed payload (not_short (length payload) 6 long) (λ i. small (suc i)) in
    (at_true header 4 1 at, ap (λ (xs : List ℕ). header ∷ xs) (place.whole ∙ ap (λ (xs : List ℕ). slice_index payload 0 ∷ (little_bytes 4 (little_number 4 (drop 1 payload)) ++ xs)) place.behind), place.fits)))
    (λ third. if_ok (SpellsUp (header ∷ payload)) (is_at header 8 0) _ _
    (λ at. if_ok (SpellsUp (header ∷ payload)) (nat_lt (length payload) 4) _ _ (λ short. tt)
    (λ long. (drop 4 payload, at_true header 8 0 at, ap (λ (xs : List ℕ). header ∷ xs) (answer_whole payload (not_short (length payload) 4 long)), refl)))
    (λ none. tt)))
