-- Rates by the widest differences of parts, and what a search for the greatest may pass over.
use Rattle.std.proofs.Common.{false, nat_eq}
use Rattle.std.proofs.lemmas.Bool.Decides.{nat_tests}
use Rattle.speed_bound.proofs.Prelude.{unsigned_abs, greatest_below, ◌≡◌, ℕ, zero, suc, ◌+◌, ◌-◌, ◌*◌, ◌/◌, ◌^◌, ◌≤◌, ◌<◌, max, ℤ, pos, ◌*ℤ◌, arith, lit<, refl, sym, ◌∙◌, ap, List, [], ◌∷◌, ints, mul-le, mul-div-le, pow-add, pow_pos, pow-le-pow_right, div_ceil_times, at, eight, raised, raised-level, at-eight, IsWithin, Element, Constant, stored, differences, limit, rate_of, segment_rate, time, units, widest, widest_in}
use Rattle.speed_bound.proofs.Differences.{differences-same, widest-most, widest-small, widest-whole}
use Rattle.speed_bound.proofs.Widths.{div_ceil-least, greatest-most}

-- ---- the two orders
pub by_order : (P : ℕ → Type 0) (order : ℕ) → (1 ≤ order) × (order ≤ 2) → P 1 → P 2 → P order
by_order P zero is one two = absurd (omega (arith, is.0))
by_order P (suc zero) is one two = one
by_order P (suc (suc zero)) is one two = two
by_order P (suc (suc (suc order))) is one two = absurd (omega (arith, is.1))

pub not_one : (n : ℕ) → (n ≡ 1 → ⊥) → nat_eq n 1 ≡ false
not_one n other = grind (arith, nat_tests)

pub some_product : (a b : ℕ) → 1 ≤ a → 1 ≤ b → 1 ≤ a * b
some_product a b first second = let product : 1 * 1 ≤ a * b = mul-le 1 1 a b first second in omega (arith, product)

pub some_time : (order ms : ℕ) → (1 ≤ order) × (order ≤ 2) → 1 ≤ ms → 1 ≤ time order ms
unfolding time
some_time order ms is lasting = by_order (λ (n : ℕ). 1 ≤ time n ms) order is (omega arith) (omega (arith, some_product ms ms lasting lasting))

pub units-few : (order : ℕ) → (1 ≤ order) × (order ≤ 2) → (1 ≤ units order) × (units order ≤ 2 ^ 25)
unfolding units
units-few order is = by_order (λ (n : ℕ). (1 ≤ units n) × (units n ≤ 2 ^ 25)) order is (lit< tt, lit< tt) (lit< tt, lit< tt)

pub time-few : (order ms : ℕ) → (1 ≤ order) × (order ≤ 2) → ms < 2 ^ 16 → time order ms ≤ 2 ^ 34
unfolding time
time-few order ms is short = by_order (λ (n : ℕ). time n ms ≤ 2 ^ 34) order is (omega (arith, short)) (omega (arith, mul-le ms ms 65535 65535 (omega (arith, short)) (omega (arith, short))))

-- the widest values allow no rate as high as the limit
rate-room : (order ms : ℕ) → (1 ≤ order) × (order ≤ 2) → 1 ≤ ms → (1 ≤ limit order) × (units order * 2 ^ (28 + order) ≤ time order ms * (limit order - 1))
unfolding units time
rate-room order ms is lasting =
    by_order (λ (n : ℕ). (1 ≤ limit n) × (units n * 2 ^ (28 + n) ≤ time n ms * (limit n - 1))) order is (lit< tt, omega (arith, lasting)) (lit< tt, omega (arith, some_product ms ms lasting lasting))

-- ---- by the widest difference
-- the parts of a depth last the 2^depth-th of the time, and their differences are as much narrower
scales : (order depth : ℕ) → order ≤ 7 → 2 ^ (order * depth) * 2 ^ ((7 - order) * depth) ≡ 2 ^ (7 * depth)
scales order depth low = sym (pow-add 2 (order * depth) ((7 - order) * depth)) ∙ ap (λ (n : ℕ). 2 ^ n) (spread order (7 - order) (omega arith))
  where
    spread : (m n : ℕ) → m + n ≡ 7 → m * depth + n * depth ≡ 7 * depth
    spread m n e = omega arith ∙ ap (λ (k : ℕ). k * depth) e

-- the rate is enough for its difference, and the least number that is
pub rate-enough : (order depth ms w : ℕ) → 1 ≤ time order ms → units order * 2 ^ (order * depth) * w ≤ rate_of order depth ms w * (time order ms * 2 ^ (7 * depth))
unfolding rate_of
rate-enough order depth ms w some = (div_ceil_times (units order * 2 ^ (order * depth) * w) (time order ms * 2 ^ (7 * depth)) (some_product (time order ms) (2 ^ (7 * depth)) some (pow_pos (7 * depth)))).0

rate-least : (order depth ms w most : ℕ) → 1 ≤ time order ms → units order * 2 ^ (order * depth) * w ≤ most * (time order ms * 2 ^ (7 * depth)) → rate_of order depth ms w ≤ most
unfolding rate_of
rate-least order depth ms w most some enough = div_ceil-least _ most (time order ms * 2 ^ (7 * depth)) (some_product (time order ms) (2 ^ (7 * depth)) some (pow_pos (7 * depth))) enough

-- a wider difference has no lower rate
pub rate-grows : (order depth ms w v : ℕ) → 1 ≤ time order ms → w ≤ v → rate_of order depth ms w ≤ rate_of order depth ms v
rate-grows order depth ms w v some less =
    let more : units order * 2 ^ (order * depth) * w ≤ units order * 2 ^ (order * depth) * v = mul-le _ w _ v (omega arith) less in
    rate-least order depth ms w (rate_of order depth ms v) some (omega (arith, more, rate-enough order depth ms v some))

-- a part with no wider difference than a slow one
rate-within : (order depth ms w slow most : ℕ) → order ≤ 7 → 1 ≤ time order ms → w ≤ slow → units order * slow ≤ 2 ^ ((7 - order) * depth) * time order ms * most → rate_of order depth ms w ≤ most
rate-within order depth ms w slow most low some few enough =
    rate-least order depth ms w most some (rw (sym (scales order depth low)) (over (units order) (time order ms) (2 ^ (order * depth)) (2 ^ ((7 - order) * depth)) enough))
  where
    over : (n t p s : ℕ) → n * slow ≤ s * t * most → n * p * w ≤ most * (t * (p * s))
    over n t p s enough =
        let one : n * p * w ≤ n * p * slow = mul-le (n * p) w (n * p) slow (omega arith) few in
        let two : p * (n * slow) ≤ p * (s * t * most) = mul-le p (n * slow) p (s * t * most) (omega arith) enough in
        let swap : n * p * slow ≡ p * (n * slow) = omega arith in
        let spread : p * (s * t * most) ≡ most * (t * (p * s)) = omega arith in
        omega (arith, one, two, swap, spread)

-- parts whose differences are no wider than a number at their scale
pub rate-most : (order depth ms w step most : ℕ) → order ≤ 7 → 1 ≤ time order ms → w ≤ 2 ^ ((7 - order) * depth) * step → units order * step ≤ time order ms * most → rate_of order depth ms w ≤ most
rate-most order depth ms w step most low some few enough =
    rate-within order depth ms w (2 ^ ((7 - order) * depth) * step) most low some few (scaled (units order) (time order ms) (2 ^ ((7 - order) * depth)) enough)
  where
    scaled : (n t s : ℕ) → n * step ≤ t * most → n * (s * step) ≤ s * t * most
    scaled n t s enough =
        let more : s * (n * step) ≤ s * (t * most) = mul-le s (n * step) s (t * most) (omega arith) enough in
        let swap : n * (s * step) ≡ s * (n * step) = omega arith in
        let spread : s * (t * most) ≡ s * t * most = omega arith in
        omega (arith, more, swap, spread)

-- ---- what a search for the greatest rate may pass over
-- a curve that as a whole has no greater one than what was found
pub none_faster : (order depth ms least whole : ℕ) (f : ℕ → ℤ) → (1 ≤ order) × (order ≤ 2) → 1 ≤ ms → whole ≡ widest order f → units order * whole ≤ time order ms * least → least ≡ max least (segment_rate order depth ms f)
none_faster order depth ms least whole f is lasting whole_is slow =
    let most : widest_in order depth f ≤ 2 ^ ((7 - order) * depth) * whole = rw whole_is (widest-most order depth f (omega (arith, is.1))) in
    omega (arith, rate-most order depth ms (widest_in order depth f) whole least (omega (arith, is.1)) (some_time order ms is lasting) most slow)

-- one none of whose parts has a wider difference than the widest slow one
pub parts_no_faster : (order depth ms slow found least : ℕ) (f : ℕ → ℤ) → (1 ≤ order) × (order ≤ 2) → 1 ≤ ms → slow ≡ 2 ^ ((7 - order) * depth) * time order ms * least / units order → found ≡ max slow (widest_in order depth f) →
    found ≤ slow → least ≡ max least (segment_rate order depth ms f)
parts_no_faster order depth ms slow found least f is lasting slow_is found_is few =
    let enough : units order * slow ≤ 2 ^ ((7 - order) * depth) * time order ms * least = rw slow_is (mul-div-le (2 ^ ((7 - order) * depth) * time order ms * least) (units order)) in
    omega (arith, rate-within order depth ms (widest_in order depth f) slow least (omega (arith, is.1)) (some_time order ms is lasting) (omega (arith, found_is, few)) enough)

-- a segment that stays at one value
still : (order i : ℕ) (x : ℤ) → differences (suc order) (λ k. x) i ≡ pos 0
still zero i x = omega (arith, ints)
still (suc order) i x = omega (arith, ints, still order (suc i) x, still order i x)

level : (order : ℕ) (x : ℤ) (b : List ℤ) → (1 ≤ order) × (order ≤ 2) → b ≡ eight (λ k. x) → 0 ≡ widest order (at b)
unfolding widest
level order x b is b_is = by_order (λ (n : ℕ). 0 ≡ greatest_below (8 - n) (λ i. unsigned_abs (differences n (at b) i))) order is (none 0 (omega arith)) (none 1 (omega arith))
  where
    size : (z : ℤ) → z ≡ pos 0 → unsigned_abs z ≤ 0
    size z e = omega (arith, ints)

    none : (n : ℕ) → n ≤ 1 → 0 ≡ greatest_below (8 - suc n) (λ i. unsigned_abs (differences (suc n) (at b) i))
    none n few = omega (
      arith,
      greatest-most (8 - suc n) (λ i. unsigned_abs (differences (suc n) (at b) i)) 0 (λ i small. size _
          (differences-same (suc n) i (at b) (λ k. x) (λ k low. rw b_is (at-eight (λ j. x) k (omega arith))) ∙ still n i x)),
    )

pub still_slow : (order depth ms least : ℕ) (x : ℤ) (e : Element) → (1 ≤ order) × (order ≤ 2) → e ≡ Constant → 1 ≤ ms → least ≡ max least (segment_rate order depth ms (at (raised (x ∷ stored e))))
still_slow order depth ms least x e is e_is lasting =
    rw e_is (none_faster order depth ms least 0 (at (raised (x ∷ []))) is lasting (level order (pos 5040 *ℤ x) (raised (x ∷ [])) is (raised-level (x ∷ []) refl)) (omega arith))

-- ---- what a search for the widest difference may pass over
-- a curve whose parts can't have a wider one than what was found
pub none_wider : (order depth fall whole least : ℕ) (f : ℕ → ℤ) → order ≤ 2 → fall ≡ (7 - order) * depth → whole ≡ widest order f → whole ≤ least / 2 ^ fall → least ≡ max least (widest_in order depth f)
none_wider order depth fall whole least f low fall_is whole_is few =
    let most : widest_in order depth f ≤ 2 ^ fall * whole = rw (fall_is, whole_is) (widest-most order depth f (omega arith)) in
    let grown : 2 ^ fall * whole ≤ 2 ^ fall * (least / 2 ^ fall) = mul-le (2 ^ fall) whole (2 ^ fall) _ (omega arith) few in
    omega (arith, most, grown, mul-div-le least (2 ^ fall))

-- a curve that isn't halved
pub whole_wider : (order depth fall whole least : ℕ) (f : ℕ → ℤ) → depth ≡ 0 → fall ≡ (7 - order) * depth → whole ≡ widest order f → least / 2 ^ fall < whole → whole ≡ max least (widest_in order depth f)
whole_wider order depth fall whole least f none fall_is whole_is more =
    let flat : fall ≡ 0 = rw (fall_is, none) (omega arith) in
    let above : least / 2 ^ 0 < whole = rw flat at more in
    rw none (omega (arith, whole_is, widest-whole order f, above))

-- both halves, one after the other
pub both_wider : (least found widest first second whole : ℕ) → found ≡ max least first → widest ≡ max found second → max first second ≡ whole → widest ≡ max least whole
both_wider least found widest first second whole found_is widest_is whole_is = omega (arith, found_is, widest_is, whole_is)

-- ---- what fits the program's numbers
-- the parts of small values, and their greatest rate
whole-few : (order : ℕ) (f : ℕ → ℤ) → ((k : ℕ) → k ≤ 7 → IsWithin (pos (2 ^ 28)) (f k)) → widest order f ≤ 2 ^ (28 + order)
whole-few order f within = rw (pow-add 2 28 order) (omega (arith, widest-small order (2 ^ 28) f within))

pub widest-few : (order depth : ℕ) (f : ℕ → ℤ) → (1 ≤ order) × (order ≤ 2) → ((k : ℕ) → k ≤ 7 → IsWithin (pos (2 ^ 28)) (f k)) → widest_in order depth f ≤ 2 ^ ((7 - order) * depth) * 2 ^ (28 + order)
widest-few order depth f is within =
    omega (arith, widest-most order depth f (omega (arith, is.1)), mul-le (2 ^ ((7 - order) * depth)) (widest order f) (2 ^ ((7 - order) * depth)) (2 ^ (28 + order)) (omega arith) (whole-few order f within))

pub rate-small : (order depth ms w : ℕ) → (1 ≤ order) × (order ≤ 2) → 1 ≤ ms → w ≤ 2 ^ ((7 - order) * depth) * 2 ^ (28 + order) → rate_of order depth ms w < limit order
rate-small order depth ms w is lasting few =
    let room = rate-room order ms is lasting in
    omega (arith, rate-most order depth ms w (2 ^ (28 + order)) (limit order - 1) (omega (arith, is.1)) (some_time order ms is lasting) few room.1, room.0)

pub under_limit : (order m : ℕ) → (1 ≤ order) × (order ≤ 2) → m < limit order → m < 2 ^ 64
under_limit order m is below = by_order (λ (n : ℕ). m < limit n → m < 2 ^ 64) order is (λ low. omega (arith, low)) (λ low. omega (arith, low)) below

pub whole-fits : (order ms least whole : ℕ) (f : ℕ → ℤ) → (1 ≤ order) × (order ≤ 2) → ms < 2 ^ 16 → least < limit order → whole ≡ widest order f → ((k : ℕ) → k ≤ 7 → IsWithin (pos (2 ^ 28)) (f k)) →
    (units order * whole < 2 ^ 128) × (time order ms * least < 2 ^ 128)
whole-fits order ms least whole f is short low whole_is within =
    let k_low : 28 + order ≤ 30 = omega (arith, is.1) in
    let k_few : 2 ^ (28 + order) ≤ 2 ^ 30 = pow-le-pow_right {n = 2} (lit< tt) k_low in
    let one : units order * whole ≤ 2 ^ 25 * 2 ^ 30 = mul-le _ whole (2 ^ 25) (2 ^ 30) (units-few order is).1 (omega (arith, whole_is, whole-few order f within, k_few)) in
    let two : time order ms * least ≤ 2 ^ 34 * 2 ^ 64 = mul-le _ least (2 ^ 34) (2 ^ 64) (time-few order ms is short) (omega (arith, under_limit order least is low)) in
    (omega (arith, one), omega (arith, two))

pub rate-fits : (order depth ms w : ℕ) → (1 ≤ order) × (order ≤ 2) → depth ≤ 8 → ms < 2 ^ 16 → w ≤ 2 ^ ((7 - order) * depth) * 2 ^ (28 + order) →
    (units order * 2 ^ (order * depth) < 2 ^ 128) × (units order * 2 ^ (order * depth) * w < 2 ^ 128) × (time order ms * 2 ^ (7 * depth) < 2 ^ 128)
rate-fits order depth ms w is shallow short few =
    let p_few : 2 ^ (order * depth) ≤ 2 ^ 16 = pow-le-pow_right {n = 2} (lit< tt) (mul-le order depth 2 8 is.1 shallow) in
    let k_low : 28 + order ≤ 30 = omega (arith, is.1) in
    let q_few : 2 ^ (7 * depth) ≤ 2 ^ 56 = pow-le-pow_right {n = 2} (lit< tt) (mul-le 7 depth 7 8 (omega arith) shallow) in
    let k_few : 2 ^ (28 + order) ≤ 2 ^ 30 = pow-le-pow_right {n = 2} (lit< tt) k_low in
    let one : units order * 2 ^ (order * depth) ≤ 2 ^ 25 * 2 ^ 16 = mul-le _ _ (2 ^ 25) (2 ^ 16) (units-few order is).1 p_few in
    let three : time order ms * 2 ^ (7 * depth) ≤ 2 ^ 34 * 2 ^ 56 = mul-le _ _ (2 ^ 34) (2 ^ 56) (time-few order ms is short) q_few in
    (omega (arith, one), two (units order) (2 ^ (order * depth)) (2 ^ ((7 - order) * depth)) (2 ^ (28 + order)) (2 ^ (7 * depth)) (units-few order is).1 k_few q_few (scales order depth (omega (arith, is.1))) few, omega (arith, three))
  where
    two : (u p s k q : ℕ) → u ≤ 2 ^ 25 → k ≤ 2 ^ 30 → q ≤ 2 ^ 56 → p * s ≡ q → w ≤ s * k → u * p * w < 2 ^ 128
    two u p s k q u_few k_few q_few q_is few =
        let way : p * w ≤ p * (s * k) = mul-le p w p (s * k) (omega arith) few in
        let same : p * (s * k) ≡ q * k = omega arith ∙ ap (λ (n : ℕ). n * k) q_is in
        let most : q * k ≤ 2 ^ 56 * 2 ^ 30 = mul-le q k (2 ^ 56) (2 ^ 30) q_few k_few in
        let all : u * (p * w) ≤ 2 ^ 25 * (2 ^ 56 * 2 ^ 30) = mul-le u (p * w) (2 ^ 25) (2 ^ 56 * 2 ^ 30) u_few (omega (arith, way, same, most)) in
        let regroup : u * p * w ≡ u * (p * w) = omega arith in
        omega (arith, all, regroup)

-- what is slow enough
pub slow-few : (order depth ms least : ℕ) → (1 ≤ order) × (order ≤ 2) → depth ≤ 8 → ms < 2 ^ 16 → least < limit order →
    (2 ^ ((7 - order) * depth) * time order ms < 2 ^ 128) × (2 ^ ((7 - order) * depth) * time order ms * least < 2 ^ 128)
unfolding time
slow-few order depth ms least is shallow short few =
    by_order (λ (n : ℕ). least < limit n → (2 ^ ((7 - n) * depth) * time n ms < 2 ^ 128) × (2 ^ ((7 - n) * depth) * time n ms * least < 2 ^ 128)) order is
    (λ low. grown (2 ^ (6 * depth)) (5040 * ms) least (2 ^ 48) (5040 * 65535) (2 ^ 50) (power_few 6) (omega (arith, short)) (omega (arith, low)) (lit< tt) (lit< tt))
    (λ low. grown (2 ^ (5 * depth)) (3 * (ms * ms)) least (2 ^ 40) (3 * (65535 * 65535)) (2 ^ 53) (power_few 5)
    (omega (arith, mul-le ms ms 65535 65535 (omega (arith, short)) (omega (arith, short)))) (omega (arith, low)) (lit< tt) (lit< tt)) few
  where
    power_few : (n : ℕ) → 2 ^ (n * depth) ≤ 2 ^ (n * 8)
    power_few n = pow-le-pow_right {n = 2} (lit< tt) (mul-le n depth n 8 (omega arith) shallow)

    grown : (x y z a b c : ℕ) → x ≤ a → y ≤ b → z ≤ c → a * b < 2 ^ 128 → a * b * c < 2 ^ 128 → (x * y < 2 ^ 128) × (x * y * z < 2 ^ 128)
    grown x y z a b c first second third small room =
        let two : x * y ≤ a * b = mul-le x y a b first second in
        (omega (arith, two, small), omega (arith, mul-le (x * y) z (a * b) c two third, room))
