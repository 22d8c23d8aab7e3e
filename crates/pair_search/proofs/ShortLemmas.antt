-- Numbers of lanes in 16 bits, and what they tell of a direction.
use Rattle.pair_search.proofs.Prelude.{◌≡◌, ℕ, zero, suc, ◌+◌, ◌*◌, ◌%◌, ◌^◌, ◌≤◌, ◌<◌, ℤ, pos, negsuc, neg_ℤ, ◌+ℤ◌, ◌-ℤ◌, ◌*ℤ◌, ◌≤ℤ◌, ◌<ℤ◌, List, unsigned_abs, FitsSigned, arith, refl, sym, ◌∙◌, ap, subst, ints, int_wrap, int_wrap_fits, wrapping_add_onto, unsigned_abs-mul, mul-le, pow-add, to_z, of_z, to_z-of_z, w16, w32, w64, linear, at, IsBelow, IsWithin, IsFloor, shr_z, le_mul_pos, mul_add_ℤ, mul_assoc_ℤ, mul_comm_ℤ, neg_mul_ℤ, Bez, Level, IsLevel, Clearance, threshold, weights, least_value, part_along, Lanes, IsLane, slack_on, slack_of, CancelAt, ShortLane, ShortPoint, FitsShort, HasSmallWeights, IsRough, IsShortPoint, ShortLanes, TellsShort, short_lane_at, short_low, short_value, Option, Some, None, IfSome, controls, by_lt, mul_neg_ℤ, length, get_or, [], curves_of, controls_row, root, slice_set, get_or-set_other, get_or-set_same, ◌≢◌}
use Rattle.pair_search.proofs.LaneLemmas.{steps_along}

-- ---- a product by 2^16
pub shifted_floor : (v : ℤ) → IsFloor 16 v (shr_z v 65536)
shifted_floor (pos a) = record { low = omega (arith, ints); high = omega (arith, ints) }
shifted_floor (negsuc a) = record { low = omega (arith, ints); high = omega (arith, ints) }

pub product_within : (a b : ℤ) → FitsSigned w16 a → FitsSigned w16 b → IsWithin (pos 1073741824) (a *ℤ b)
product_within a b p q =
    let m : unsigned_abs (a *ℤ b) ≤ 32768 * 32768 = rw (unsigned_abs-mul a b) (mul-le (unsigned_abs a) (unsigned_abs b) 32768 32768 (omega (arith, ints)) (omega (arith, ints))) in
    (omega (arith, ints), omega (arith, ints))

pub product_fits : (v : ℤ) → IsWithin (pos 1073741824) v → FitsSigned w32 v
product_fits v within = omega (arith, ints)

pub shifted_fits : (v : ℤ) → IsWithin (pos 1073741824) v → FitsSigned w16 (shr_z v 65536)
shifted_fits (pos a) within = omega (arith, ints)
shifted_fits (negsuc a) within = omega (arith, ints)

pub short_wide : (v : ℤ) → FitsSigned w16 v → FitsSigned w32 v
short_wide v fits = omega (arith, ints)

pub product_told : (a b p q : ℤ) → FitsSigned w16 a → FitsSigned w16 b → p ≡ to_z w16 (of_z w16 a) → q ≡ to_z w16 (of_z w16 b) →
    IsFloor 16 (a *ℤ b) (to_z w16 (of_z w16 (to_z w32 (of_z w32 (shr_z (to_z w32 (of_z w32 (to_z w32 (of_z w32 p) *ℤ to_z w32 (of_z w32 q)))) 65536)))))
product_told a b p q f g p_is q_is =
    let within : IsWithin (pos 1073741824) (a *ℤ b) = product_within a b f g in
    let low : FitsSigned w16 (shr_z (a *ℤ b) 65536) = shifted_fits (a *ℤ b) within in
    let p_same : p ≡ a = p_is ∙ to_z-of_z w16 a f in
    let q_same : q ≡ b = q_is ∙ to_z-of_z w16 b g in
    rw (
      p_same,
      q_same,
      to_z-of_z w32 a (short_wide a f),
      to_z-of_z w32 b (short_wide b g),
      to_z-of_z w32 (a *ℤ b) (product_fits (a *ℤ b) within),
      to_z-of_z w32 (shr_z (a *ℤ b) 65536) (short_wide (shr_z (a *ℤ b) 65536) low),
      to_z-of_z w16 (shr_z (a *ℤ b) 65536) low,
    ) (shifted_floor (a *ℤ b))

-- ---- three products
pub floor_taken : (w x a : ℤ) → FitsSigned w16 w → FitsSigned w16 x → IsFloor 16 (to_z w16 (of_z w16 w) *ℤ to_z w16 (of_z w16 x)) a → IsFloor 16 (w *ℤ x) a
floor_taken w x a f g floor = rw (to_z-of_z w16 w f, to_z-of_z w16 x g) at floor

pub weight_short : (w : ℤ) → IsWithin (pos 21840) w → FitsSigned w16 w
weight_short w within = omega (arith, ints)

floor_few : (w x a : ℤ) → IsWithin (pos 21840) w → FitsSigned w16 x → IsFloor 16 (w *ℤ x) a → IsWithin (pos 10920) a
floor_few w x a small fits floor = few (w *ℤ x) a within floor.low floor.high
  where
    within : IsWithin (pos 715653120) (w *ℤ x)
    within =
        let m : unsigned_abs (w *ℤ x) ≤ 21840 * 32768 = rw (unsigned_abs-mul w x) (mul-le (unsigned_abs w) (unsigned_abs x) 21840 32768 (omega (arith, ints)) (omega (arith, ints))) in
        (omega (arith, ints), omega (arith, ints))

    few : (v a : ℤ) → IsWithin (pos 715653120) v → (pos 65536 *ℤ a) ≤ℤ v → v <ℤ (pos 65536 *ℤ (a +ℤ pos 1)) → IsWithin (pos 10920) a
    few v a within low high = (omega (arith, ints), omega (arith, ints))

pub sum_fits : (a b c : ℤ) → IsWithin (pos 10920) a → IsWithin (pos 10920) b → IsWithin (pos 10920) c → FitsSigned w16 (a +ℤ b +ℤ c)
sum_fits a b c p q r = omega (arith, ints)

pub sum_wrapped : (a b c : ℤ) → IsWithin (pos 10920) a → IsWithin (pos 10920) b → IsWithin (pos 10920) c → to_z w16 (((of_z w16 a + of_z w16 b) % 65536 + of_z w16 c) % 65536) ≡ a +ℤ b +ℤ c
sum_wrapped a b c p q r =
    let a_fits : FitsSigned w16 a = omega (arith, ints) in
    let b_fits : FitsSigned w16 b = omega (arith, ints) in
    let c_fits : FitsSigned w16 c = omega (arith, ints) in
    let both : FitsSigned w16 (a +ℤ b) = omega (arith, ints) in
    let two : to_z w16 ((of_z w16 a + of_z w16 b) % 65536) ≡ a +ℤ b =
    wrapping_add_onto w16 (of_z w16 a) b (omega (arith, ints)) b_fits ∙ ap (λ (z : ℤ). int_wrap w16 (z +ℤ b)) (to_z-of_z w16 a a_fits) ∙ int_wrap_fits w16 (a +ℤ b) both in
    wrapping_add_onto w16 ((of_z w16 a + of_z w16 b) % 65536) c (omega arith) c_fits ∙ ap (λ (z : ℤ). int_wrap w16 (z +ℤ c)) two ∙ int_wrap_fits w16 (a +ℤ b +ℤ c) (sum_fits a b c p q r)

-- a rough value has 16 bits
pub rough_fits : (s : ShortLane) (p : ShortPoint) (v : ℤ) → HasSmallWeights s → FitsShort p → IsRough s p v → FitsSigned w16 v
rough_fits s p v small fits rough =
    subst (λ (z : ℤ). FitsSigned w16 z) (sym rough.sum)
    (sum_fits rough.a rough.b rough.c (floor_few s.x p.x rough.a small.x fits.x rough.x) (floor_few s.y p.y rough.b small.y fits.y rough.y) (floor_few s.z p.z rough.c small.z fits.z rough.z))

pub rough_of : (s : ShortLane) (p : ShortPoint) (a b c : ℤ) → HasSmallWeights s → FitsShort p →
    IsFloor 16 (to_z w16 (of_z w16 s.x) *ℤ to_z w16 (of_z w16 p.x)) a → IsFloor 16 (to_z w16 (of_z w16 s.y) *ℤ to_z w16 (of_z w16 p.y)) b → IsFloor 16 (to_z w16 (of_z w16 s.z) *ℤ to_z w16 (of_z w16 p.z)) c →
    IsRough s p (to_z w16 (((of_z w16 a + of_z w16 b) % 65536 + of_z w16 c) % 65536))
rough_of s p a b c small fits first second third =
    let x : IsFloor 16 (s.x *ℤ p.x) a = floor_taken s.x p.x a (weight_short s.x small.x) fits.x first in
    let y : IsFloor 16 (s.y *ℤ p.y) b = floor_taken s.y p.y b (weight_short s.y small.y) fits.y second in
    let z : IsFloor 16 (s.z *ℤ p.z) c = floor_taken s.z p.z c (weight_short s.z small.z) fits.z third in
    record {
      a = a;
      b = b;
      c = c;
      x = x;
      y = y;
      z = z;
      sum = sum_wrapped a b c (floor_few s.x p.x a small.x fits.x x) (floor_few s.y p.y b small.y fits.y y) (floor_few s.z p.z c small.z fits.z z);
    }

-- ---- what a rough value has to reach
pub shift_less : (x v : ℤ) → shr_z x 65536 <ℤ v → x <ℤ (pos 65536 *ℤ v)
shift_less x v less = go (shr_z x 65536) (shifted_floor x).high less
  where
    go : (q : ℤ) → x <ℤ (pos 65536 *ℤ (q +ℤ pos 1)) → q <ℤ v → x <ℤ (pos 65536 *ℤ v)
    go q high less = omega (arith, linear, high, less)

pub shift_more : (x v : ℤ) → v <ℤ (shr_z x 65536 -ℤ pos 2) → (pos 65536 *ℤ (v +ℤ pos 3)) ≤ℤ x
shift_more x v less = go (shr_z x 65536) (shifted_floor x).low less
  where
    go : (q : ℤ) → (pos 65536 *ℤ q) ≤ℤ x → v <ℤ (q -ℤ pos 2) → (pos 65536 *ℤ (v +ℤ pos 3)) ≤ℤ x
    go q low less = omega (arith, linear, low, less)

shift_within : (x : ℤ) → IsWithin (pos 200000000000000) x → IsWithin (pos 200000000000000) (shr_z x 65536)
shift_within (pos a) within = (omega (arith, ints), omega (arith, ints))
shift_within (negsuc a) within = (omega (arith, ints), omega (arith, ints))

wide_fits : (x : ℤ) → IsWithin (pos 200000000000000) x → FitsSigned w64 x
wide_fits x within = omega (arith, ints)

less_fits : (x : ℤ) → IsWithin (pos 200000000000000) x → FitsSigned w64 (x -ℤ pos 2)
less_fits x within = omega (arith, ints)

times_within : (high times : ℤ) → IsBelow (2 ^ 33) high → (pos 0 ≤ℤ times) × (times ≤ℤ pos 21840) → IsWithin (pos 200000000000000) (high *ℤ times)
times_within high times small few =
    let m : unsigned_abs (high *ℤ times) ≤ 8589934592 * 21840 = rw (unsigned_abs-mul high times) (mul-le (unsigned_abs high) (unsigned_abs times) 8589934592 21840 (omega (arith, ints)) (omega (arith, ints))) in
    (omega (arith, ints), omega (arith, ints))

pub shifted_is : (high times t : ℤ) → IsBelow (2 ^ 33) high → (pos 0 ≤ℤ times) × (times ≤ℤ pos 21840) → t ≡ to_z w32 (of_z w32 times) →
    to_z w64 (of_z w64 (shr_z (to_z w64 (of_z w64 (to_z w64 (of_z w64 high) *ℤ to_z w64 (of_z w64 t)))) 65536)) ≡ shr_z (high *ℤ times) 65536
shifted_is high times t small few is =
    let short : FitsSigned w32 times = omega (arith, ints) in
    let high_fits : FitsSigned w64 high = omega (arith, ints) in
    let times_fits : FitsSigned w64 times = omega (arith, ints) in
    let same : t ≡ times = is ∙ to_z-of_z w32 times short in
    let within : IsWithin (pos 200000000000000) (high *ℤ times) = times_within high times small few in
    rw (same, to_z-of_z w64 high high_fits, to_z-of_z w64 times times_fits, to_z-of_z w64 (high *ℤ times) (wide_fits (high *ℤ times) within))
    (to_z-of_z w64 (shr_z (high *ℤ times) 65536) (wide_fits (shr_z (high *ℤ times) 65536) (shift_within (high *ℤ times) within)))

pub shifted_less : (high times t : ℤ) → IsBelow (2 ^ 33) high → (pos 0 ≤ℤ times) × (times ≤ℤ pos 21840) → t ≡ to_z w32 (of_z w32 times) →
    to_z w64 (of_z w64 (to_z w64 (of_z w64 (shr_z (to_z w64 (of_z w64 (to_z w64 (of_z w64 high) *ℤ to_z w64 (of_z w64 t)))) 65536)) -ℤ pos 2)) ≡ shr_z (high *ℤ times) 65536 -ℤ pos 2
shifted_less high times t small few is =
    rw (shifted_is high times t small few is)
    (to_z-of_z w64 (shr_z (high *ℤ times) 65536 -ℤ pos 2) (less_fits (shr_z (high *ℤ times) 65536) (shift_within (high *ℤ times) (times_within high times small few))))

-- what a point in short steps has to reach
pub short_told : (low f a b c : ℤ) → IsBelow (2 ^ 29) low → f ≡ to_z w32 (of_z w32 low) → (pos 0 ≤ℤ a) × (a <ℤ pos 4001) → (pos 0 ≤ℤ b) × (b <ℤ pos 4001) → (pos 0 ≤ℤ c) × (c <ℤ pos 4001) →
    FitsSigned w64 (to_z w64 (of_z w64 (pos 8 *ℤ to_z w64 (of_z w64 f))) +ℤ to_z w64 (of_z w64 (pos 7 *ℤ to_z w64 (of_z w64 (to_z w64 (of_z w64 (to_z w64 (of_z w64 a) +ℤ to_z w64 (of_z w64 b))) +ℤ to_z w64 (of_z w64 c))))))
    × (to_z w64 (of_z w64 (to_z w64 (of_z w64 (pos 8 *ℤ to_z w64 (of_z w64 f))) +ℤ to_z w64 (of_z w64 (pos 7 *ℤ to_z w64 (of_z w64 (to_z w64 (of_z w64 (to_z w64 (of_z w64 a) +ℤ to_z w64 (of_z w64 b))) +ℤ to_z w64 (of_z w64 c))))))) ≡ pos 8 *ℤ low +ℤ pos 7 *ℤ (a +ℤ b +ℤ c))
    × IsBelow (2 ^ 33) (pos 8 *ℤ low +ℤ pos 7 *ℤ (a +ℤ b +ℤ c))
short_told low f a b c small is p q r =
    let low_32 : FitsSigned w32 low = omega (arith, ints) in
    let low_64 : FitsSigned w64 low = omega (arith, ints) in
    let same : f ≡ low = is ∙ to_z-of_z w32 low low_32 in
    let fa : FitsSigned w64 a = omega (arith, ints) in
    let fb : FitsSigned w64 b = omega (arith, ints) in
    let fc : FitsSigned w64 c = omega (arith, ints) in
    let f1 : FitsSigned w64 (a +ℤ b) = omega (arith, ints) in
    let f2 : FitsSigned w64 (a +ℤ b +ℤ c) = omega (arith, ints) in
    let f3 : FitsSigned w64 (pos 7 *ℤ (a +ℤ b +ℤ c)) = omega (arith, ints) in
    let f4 : FitsSigned w64 (pos 8 *ℤ low) = omega (arith, ints) in
    let f5 : FitsSigned w64 (pos 8 *ℤ low +ℤ pos 7 *ℤ (a +ℤ b +ℤ c)) = omega (arith, ints) in
    let below : IsBelow (2 ^ 33) (pos 8 *ℤ low +ℤ pos 7 *ℤ (a +ℤ b +ℤ c)) = (omega (arith, ints), omega (arith, ints)) in
    rw (same, to_z-of_z w64 low low_64, to_z-of_z w64 a fa, to_z-of_z w64 b fb, to_z-of_z w64 c fc, to_z-of_z w64 (a +ℤ b) f1, to_z-of_z w64 (a +ℤ b +ℤ c) f2, to_z-of_z w64 (pos 7 *ℤ (a +ℤ b +ℤ c)) f3, to_z-of_z w64 (pos 8 *ℤ low) f4)
    (f5, to_z-of_z w64 (pos 8 *ℤ low +ℤ pos 7 *ℤ (a +ℤ b +ℤ c)) f5, below)

-- ---- what a rough value tells
less_scaled : (a b g : ℤ) → pos 0 ≤ℤ g → (a *ℤ g) <ℤ (b *ℤ g) → a <ℤ b
less_scaled a b (negsuc n) some less = absurd (omega (arith, ints, some))
less_scaled a b (pos n) some less = by_less a b (λ here. here) (λ other. absurd (omega (arith, linear, less, le_mul_pos n b a other, mul_comm_ℤ a (pos n), mul_comm_ℤ b (pos n))))
  where
    by_less : {P : Type 0} (a b : ℤ) → (a <ℤ b → P) → (b ≤ℤ a → P) → P
    by_less {P} a b less more = grind (arith, ints)

-- weights that are times the weights of a lane have the sum times as large
sum_scaled : (u v w x y z g : ℤ) → (u *ℤ g) *ℤ x +ℤ (v *ℤ g) *ℤ y +ℤ (w *ℤ g) *ℤ z ≡ (u *ℤ x +ℤ v *ℤ y +ℤ w *ℤ z) *ℤ g
sum_scaled u v w x y z g = rw (moved u x g, moved v y g, moved w z g) (gathered (u *ℤ x) (v *ℤ y) (w *ℤ z) g)
  where
    moved : (u x g : ℤ) → (u *ℤ g) *ℤ x ≡ g *ℤ (u *ℤ x)
    moved u x g = ap (λ (m : ℤ). m *ℤ x) (mul_comm_ℤ u g) ∙ mul_assoc_ℤ g u x

    gathered : (a b c g : ℤ) → g *ℤ a +ℤ g *ℤ b +ℤ g *ℤ c ≡ (a +ℤ b +ℤ c) *ℤ g
    gathered a b c g = sym (mul_comm_ℤ (a +ℤ b +ℤ c) g ∙ mul_add_ℤ g (a +ℤ b) c ∙ ap (λ (m : ℤ). m +ℤ g *ℤ c) (mul_add_ℤ g a b))

module _ (l : Lanes) (i : ℕ) (g : ℤ) (s : ShortLane) (some : pos 0 ≤ℤ g) (x_is : s.x ≡ at l.x i *ℤ g) (y_is : s.y ≡ at l.y i *ℤ g) (z_is : s.z ≡ at l.z i *ℤ g) where
  scaled : (p : ShortPoint) → s.x *ℤ p.x +ℤ s.y *ℤ p.y +ℤ s.z *ℤ p.z ≡ short_value l p i *ℤ g
  scaled p = rw (x_is, y_is, z_is) (sum_scaled (at l.x i) (at l.y i) (at l.z i) p.x p.y p.z g)

  pub rough_below : (p : ShortPoint) (v low : ℤ) → IsRough s p v → (pos 65536 *ℤ (v +ℤ pos 3)) ≤ℤ (low *ℤ g) → short_value l p i <ℤ low
  rough_below p v low rough reach = less_scaled (short_value l p i) low g some (go rough.a rough.b rough.c rough.x.high rough.y.high rough.z.high rough.sum (scaled p) reach)
    where
      go : {x y z sum most : ℤ} (a b c : ℤ) → x <ℤ (pos 65536 *ℤ (a +ℤ pos 1)) → y <ℤ (pos 65536 *ℤ (b +ℤ pos 1)) → z <ℤ (pos 65536 *ℤ (c +ℤ pos 1)) → v ≡ a +ℤ b +ℤ c → x +ℤ y +ℤ z ≡ sum → (pos 65536 *ℤ (v +ℤ pos 3)) ≤ℤ most → sum <ℤ most
      go {x} {y} {z} {sum} {most} a b c p q r is same reach = omega (arith, linear, p, q, r, is, same, reach)

  pub rough_above : (p : ShortPoint) (v high : ℤ) → IsRough s p v → (high *ℤ g) <ℤ (pos 65536 *ℤ v) → high <ℤ short_value l p i
  rough_above p v high rough reach = less_scaled high (short_value l p i) g some (go rough.a rough.b rough.c rough.x.low rough.y.low rough.z.low rough.sum (scaled p) reach)
    where
      go : {x y z sum most : ℤ} (a b c : ℤ) → (pos 65536 *ℤ a) ≤ℤ x → (pos 65536 *ℤ b) ≤ℤ y → (pos 65536 *ℤ c) ≤ℤ z → v ≡ a +ℤ b +ℤ c → x +ℤ y +ℤ z ≡ sum → most <ℤ (pos 65536 *ℤ v) → most <ℤ sum
      go {x} {y} {z} {sum} {most} a b c p q r is same reach = omega (arith, linear, p, q, r, is, same, reach)

-- in the lane of the opposite direction
turned : (a b c x y z : ℤ) → neg_ℤ a *ℤ x +ℤ neg_ℤ b *ℤ y +ℤ neg_ℤ c *ℤ z ≡ neg_ℤ (a *ℤ x +ℤ b *ℤ y +ℤ c *ℤ z)
turned a b c x y z = omega (arith, linear, neg_mul_ℤ a x, neg_mul_ℤ b y, neg_mul_ℤ c z)

other_is : (a b : ℤ) → a +ℤ b ≡ pos 0 → b ≡ neg_ℤ a
other_is a b none = omega (arith, linear, none)

pub short_opposite : (l : Lanes) (p : ShortPoint) (i j : ℕ) (low : ℤ) → CancelAt l i j → neg_ℤ low <ℤ short_value l p i → short_value l p j <ℤ low
short_opposite l p i j low are less =
    let sum : short_value l p j ≡ neg_ℤ (short_value l p i) =
    rw (other_is (at l.x i) (at l.x j) are.x, other_is (at l.y i) (at l.y j) are.y, other_is (at l.z i) (at l.z j) are.z)
    (turned (at l.x i) (at l.y i) (at l.z i) p.x p.y p.z) in
    low_of (short_value l p i) (short_value l p j) low sum less
  where
    low_of : (u v low : ℤ) → v ≡ neg_ℤ u → neg_ℤ low <ℤ u → v <ℤ low
    low_of u v low is less = omega (arith, linear, is, less)

-- ---- the end of a part
-- a point in short steps that is too low in a lane: so is the value there along its direction
pub short_along : (diff : List (Bez 8)) (level : Level) (clear : Clearance) (n : List ℤ) (l : Lanes) (p : ShortPoint) (i k : ℕ) → k ≤ 7 → IsLevel diff level → IsShortPoint level k p → IsLane clear n l i →
    short_value l p i <ℤ short_low l i → part_along clear.r clear.h diff level.place n k <ℤ least_value (threshold clear n) level.place.depth
short_along diff level clear n l p i k few is point lane less =
    steps_along 2048 (11 + 7 * level.place.depth) diff level clear n l p.x p.y p.z (short_low l i) i k few is lane (omega arith) (pow-add 2 11 (7 * level.place.depth)) point.x point.y point.z less
    (reach (at l.low i) (slack_of (weights n clear.r clear.h)) (slack_on (at l.x i) +ℤ slack_on (at l.y i) +ℤ slack_on (at l.z i)) (pos 5040 *ℤ threshold clear n) slacks lane.low)
  where
    slacks : slack_on (at l.x i) +ℤ slack_on (at l.y i) +ℤ slack_on (at l.z i) ≡ slack_of (weights n clear.r clear.h)
    slacks = rw (lane.x, lane.y, lane.z) refl

    reach : (low s t most : ℤ) → t ≡ s → (pos 16384 *ℤ (low +ℤ s)) ≤ℤ most → (pos 2048 *ℤ ((pos 8 *ℤ low +ℤ pos 7 *ℤ t) +ℤ s)) ≤ℤ most
    reach low s t most same less = omega (arith, linear, same, less)

-- a control value of a part is few short steps
pub short_few : (e : ℕ) (v q : ℤ) → IsBelow (2 ^ (7 * e) * 2 ^ 30) v → IsFloor (11 + 7 * e) v q → FitsSigned w64 q
short_few e v q below floor = few (2 ^ (11 + 7 * e)) (2 ^ (7 * e)) v q (pow-add 2 11 (7 * e)) below floor.low floor.high
  where
    next : (n : ℕ) → negsuc (suc n) +ℤ pos 1 ≡ neg_ℤ (pos (suc n))
    next n = omega (arith, ints)

    turned : (t n : ℕ) → pos t *ℤ (negsuc (suc n) +ℤ pos 1) ≡ neg_ℤ (pos (t * suc n))
    turned t n = ap (λ (z : ℤ). pos t *ℤ z) (next n) ∙ mul_neg_ℤ (pos t) (pos (suc n))

    small : (p t n : ℕ) → t ≡ 2048 * p → t * n < p * 2 ^ 30 → n < 524288
    small p t n is less = by_lt n 524288 (λ here. here) (λ later. absurd (omega (arith, is, less, mul-le t 524288 t n (omega arith) later)))

    few : (t p : ℕ) (v q : ℤ) → t ≡ 2048 * p → IsBelow (p * 2 ^ 30) v → (pos t *ℤ q) ≤ℤ v → v <ℤ (pos t *ℤ (q +ℤ pos 1)) → FitsSigned w64 q
    few t p v (pos n) is below low high = omega (arith, ints, small p t n is (omega (arith, ints, low, below)))
    few t p v (negsuc zero) is below low high = omega (arith, ints)
    few t p v (negsuc (suc n)) is below low high =
        let less : v <ℤ neg_ℤ (pos (t * suc n)) = subst (λ (z : ℤ). v <ℤ z) (turned t n) high in
        omega (arith, ints, small p t (suc n) is (omega (arith, ints, less, below)))

-- the point of numbers in short steps
pub short_point_of : (level : Level) (k : ℕ) (x y z : ℤ) (o : Option ShortPoint) → IfSome o (λ (p : ShortPoint). FitsShort p × (p.x ≡ x) × (p.y ≡ y) × (p.z ≡ z)) →
    IsFloor (11 + 7 * level.place.depth) (at (controls level.part 0) k) x → IsFloor (11 + 7 * level.place.depth) (at (controls level.part 1) k) y → IsFloor (11 + 7 * level.place.depth) (at (controls level.part 2) k) z →
    IfSome o (IsShortPoint level k)
short_point_of level k x y z None is first second third = tt
short_point_of level k x y z (Some p) is first second third = record {
  fits = is.0;
  x = subst (λ (v : ℤ). IsFloor (11 + 7 * level.place.depth) (at (controls level.part 0) k) v) (sym is.1) first;
  y = subst (λ (v : ℤ). IsFloor (11 + 7 * level.place.depth) (at (controls level.part 1) k) v) (sym is.2) second;
  z = subst (λ (v : ℤ). IsFloor (11 + 7 * level.place.depth) (at (controls level.part 2) k) v) (sym is.3) third;
}

-- the point of numbers of rows in short steps
pub short_point_of_rows : (rows : List (List ℤ)) (diff : List (Bez 8)) (k : ℕ) (x y z : ℤ) (o : Option ShortPoint) → curves_of rows ≡ diff → IfSome o (λ (p : ShortPoint). FitsShort p × (p.x ≡ x) × (p.y ≡ y) × (p.z ≡ z)) →
    IsFloor 11 (at (get_or rows 0 []) k) x → IsFloor 11 (at (get_or rows 1 []) k) y → IsFloor 11 (at (get_or rows 2 []) k) z → IfSome o (IsShortPoint (record { place = root; part = diff }) k)
short_point_of_rows rows diff k x y z o is point first second third =
    subst (λ (curves : List (Bez 8)). IfSome o (IsShortPoint (record { place = root; part = curves }) k)) is
    (short_point_of (record { place = root; part = curves_of rows }) k x y z o point
    (subst (λ (xs : List ℤ). IsFloor 11 (at xs k) x) (sym (controls_row rows 0)) first)
    (subst (λ (xs : List ℤ). IsFloor 11 (at xs k) y) (sym (controls_row rows 1)) second)
    (subst (λ (xs : List ℤ). IsFloor 11 (at xs k) z) (sym (controls_row rows 2)) third))

-- ---- a lane in 16 bits
pub lane_told : (l : Lanes) (i j : ℕ) (g : ℤ) (s : ShortLane) → (pos 0 ≤ℤ g) → s.x ≡ at l.x i *ℤ g → s.y ≡ at l.y i *ℤ g → s.z ≡ at l.z i *ℤ g →
    IsWithin (pos 21840) (at l.x i *ℤ g) → IsWithin (pos 21840) (at l.y i *ℤ g) → IsWithin (pos 21840) (at l.z i *ℤ g) →
    ((v : ℤ) → FitsSigned w16 v → v <ℤ s.low → (pos 65536 *ℤ (v +ℤ pos 3)) ≤ℤ (short_low l i *ℤ g)) →
    ((v : ℤ) → FitsSigned w16 v → s.high <ℤ v → CancelAt l i j × ((neg_ℤ (short_low l j) *ℤ g) <ℤ (pos 65536 *ℤ v))) → TellsShort l i j s
lane_told l i j g s some x_is y_is z_is x y z low high =
    let small : HasSmallWeights s = record { x = rw x_is x; y = rw y_is y; z = rw z_is z } in
    record {
      small = small;
      low = λ p v fits rough less. rough_below l i g s some x_is y_is z_is p v (short_low l i) rough (low v (rough_fits s p v small fits rough) less);
      high = λ p v fits rough more.
          let told : CancelAt l i j × ((neg_ℤ (short_low l j) *ℤ g) <ℤ (pos 65536 *ℤ v)) = high v (rough_fits s p v small fits rough) more in
          short_opposite l p i j (short_low l j) told.0 (rough_above l i g s some x_is y_is z_is p v (neg_ℤ (short_low l j)) rough told.1);
    }

-- ---- lanes that are put in
abbrev put_short : ShortLanes → ℕ → ShortLane → ShortLanes
put_short s i l = record { x = slice_set s.x i l.x; y = slice_set s.y i l.y; z = slice_set s.z i l.z; low = slice_set s.low i l.low; high = slice_set s.high i l.high }

-- another lane stays as it was
pub kept_short : (s : ShortLanes) (l : ShortLane) (i k : ℕ) → k ≢ i → short_lane_at (put_short s i l) k ≡ short_lane_at s k
kept_short s l i k ne = rw (other s.x l.x, other s.y l.y, other s.z l.z, other s.low l.low, other s.high l.high) refl
  where
    other : (xs : List ℤ) (v : ℤ) → at (slice_set xs i v) k ≡ at xs k
    other xs v = rw get_or-set_other refl

-- the new lane
pub new_short : (s : ShortLanes) (l : ShortLane) (i : ℕ) → i < length s.x → i < length s.y → i < length s.z → i < length s.low → i < length s.high → short_lane_at (put_short s i l) i ≡ l
new_short s l i x y z low high = rw (same s.x l.x x, same s.y l.y y, same s.z l.z z, same s.low l.low low, same s.high l.high high) refl
  where
    same : (xs : List ℤ) (v : ℤ) → i < length xs → at (slice_set xs i v) i ≡ v
    same xs v inside = rw get_or-set_same refl
