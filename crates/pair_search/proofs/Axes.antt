-- Drones that are far apart on an axis are separated by its direction.
use Rattle.pair_search.proofs.Prelude.{common_steps, ◌≡◌, ◌⊎◌, inl, inr, ℕ, zero, suc, ◌+◌, ◌*◌, ◌≤◌, ℤ, pos, negsuc, neg_ℤ, ◌+ℤ◌, ◌-ℤ◌, ◌*ℤ◌, ◌≤ℤ◌, ◌<ℤ◌, unsigned_abs, arith, refl, sym, ◌∙◌, ap, List, [], ◌∷◌, ints, unsigned_abs-mul, at, linear, le_mul_pos, mul_comm_ℤ, mul_neg_ℤ, neg_mul_ℤ, one_mul_ℤ, zero_mul_ℤ, Bez, controls, at-eight, part_value, part-whole, Clearance, IsAxis, IsClearance, Stands, for_reach, length_squared, limit_along, reach_on, root_above, stray_limit, threshold, weights, Separates, part_along, root, Raised, curves_at, difference, Extent, HasAxes, IsExtent, IsFar, IsFarOn, least_distance, room_on, HasDirection}
use Rattle.sep_parts.proofs.Limits.{root_above-least}

-- (2 p + 1)^2 is above 4 p^2
square_above : (r h : ℕ) → (pos (4 * (r * r) * (h * h)) *ℤ pos 1) <ℤ pos ((2 * (r * h) + 1) * (2 * (r * h) + 1))
square_above r h = grind (arith, common_steps, ints)

-- what the strays take away along an axis with this weight is at most twice a stray, times the weight
square_reaching : (stray other : ℕ) → ((pos (4 * (stray * stray)) *ℤ pos (other * other)) -ℤ pos 1) <ℤ pos ((2 * (stray * other)) * (2 * (stray * other)))
square_reaching stray other = grind (arith, common_steps, ints)

-- the threshold along an axis with this weight is at most that of the ellipsoids, that of the strays, and the way of a late drone
axis_threshold : (c : Clearance) (n : List ℤ) (half other reach : ℕ) → length_squared n ≡ pos 1 → length_squared (weights n c.r c.h) ≡ pos (other * other) →
    for_reach c n ≡ pos (other * reach) → half * other ≡ c.r * c.h → threshold c n ≤ℤ pos ((2 * (half * other) + 1) + 2 * (c.stray * other) + other * reach)
axis_threshold c n half other reach one weight way same =
    let first : root_above (limit_along c.r c.h n) ≤ 2 * (c.r * c.h) + 1 =
    root_above-least (limit_along c.r c.h n) (2 * (c.r * c.h) + 1) (rw one (square_above c.r c.h)) in
    let second : root_above (stray_limit c n -ℤ pos 1) ≤ 2 * (c.stray * other) =
    root_above-least (stray_limit c n -ℤ pos 1) (2 * (c.stray * other)) (rw weight (square_reaching c.stray other)) in
    together (root_above (limit_along c.r c.h n)) (root_above (stray_limit c n -ℤ pos 1)) (for_reach c n) (c.r * c.h) (half * other) (c.stray * other) (other * reach) first second way same
  where
    together : (a b : ℕ) (w : ℤ) (p q s v : ℕ) → a ≤ 2 * p + 1 → b ≤ 2 * s → w ≡ pos v → q ≡ p → (pos a +ℤ pos b +ℤ w) ≤ℤ pos ((2 * q + 1) + 2 * s + v)
    together a b w p q s v first second way same = omega (arith, ints, first, second, way, same)

-- what a value times a weight reaches, where it is at least the gap of the room
reached : (half stray reach other : ℕ) (d : ℤ) → 1 ≤ other → least_distance (2 * half + 2 * stray + reach) ≤ℤ d →
    (pos ((2 * (half * other) + 1) + 2 * (stray * other) + other * reach) *ℤ pos 5040) ≤ℤ (pos other *ℤ d)
reached half stray reach other d some wide =
    let more : (pos other *ℤ least_distance (2 * half + 2 * stray + reach)) ≤ℤ (pos other *ℤ d) = le_mul_pos other (least_distance (2 * half + 2 * stray + reach)) d wide in
    omega (arith, ints, more, nat half stray reach other some)
  where
    spread : (half stray reach other : ℕ) → other * (5040 * ((2 * half + 2 * stray + reach) + 1)) ≡ 5040 * (2 * (half * other) + other + 2 * (stray * other) + other * reach)
    spread half stray reach other = grind arith

    nat : (half stray reach other : ℕ) → 1 ≤ other → ((2 * (half * other) + 1) + 2 * (stray * other) + other * reach) * 5040 ≤ other * (5040 * ((2 * half + 2 * stray + reach) + 1))
    nat half stray reach other some = omega (arith, some, spread half stray reach other)

-- ---- one axis
-- a weighted sum in which two entries of the direction are 0
along_x : (s u v w : ℤ) (x y z : ℤ) → (s *ℤ u) *ℤ x +ℤ (pos 0 *ℤ v) *ℤ y +ℤ (pos 0 *ℤ w) *ℤ z ≡ (s *ℤ u) *ℤ x
along_x s u v w x y z = simp (zero_mul_ℤ) (omega (arith, linear))

along_y : (s u v w : ℤ) (x y z : ℤ) → (pos 0 *ℤ u) *ℤ x +ℤ (s *ℤ v) *ℤ y +ℤ (pos 0 *ℤ w) *ℤ z ≡ (s *ℤ v) *ℤ y
along_y s u v w x y z = simp (zero_mul_ℤ) (omega (arith, linear))

along_z : (s u v w : ℤ) (x y z : ℤ) → (pos 0 *ℤ u) *ℤ x +ℤ (pos 0 *ℤ v) *ℤ y +ℤ (s *ℤ w) *ℤ z ≡ (s *ℤ w) *ℤ z
along_z s u v w x y z = simp (zero_mul_ℤ) (omega (arith, linear))

minus_one : (x : ℤ) → negsuc 0 *ℤ x ≡ neg_ℤ x
minus_one x = neg_mul_ℤ (pos 1) x ∙ ap (λ (z : ℤ). neg_ℤ z) (one_mul_ℤ x)

turned : (u d : ℤ) → (negsuc 0 *ℤ u) *ℤ d ≡ u *ℤ neg_ℤ d
turned u d = ap (λ (z : ℤ). z *ℤ d) (minus_one u) ∙ neg_mul_ℤ u d ∙ sym (mul_neg_ℤ u d)

straight : (u d : ℤ) → (pos 1 *ℤ u) *ℤ d ≡ u *ℤ d
straight u d = ap (λ (z : ℤ). z *ℤ d) (one_mul_ℤ u)

-- the square of the weight along an axis, one way and the other
square_one : (w : ℕ) → (pos 1 *ℤ pos w) *ℤ (pos 1 *ℤ pos w) ≡ pos (w * w)
square_one w = ap (λ (z : ℤ). z *ℤ z) (one_mul_ℤ (pos w))

square_minus : (w : ℕ) → (negsuc 0 *ℤ pos w) *ℤ (negsuc 0 *ℤ pos w) ≡ pos (w * w)
square_minus w = grind (arith, common_steps, minus_one, pos, neg_mul_ℤ, neg_ℤ, mul_neg_ℤ)

size_one : (w : ℕ) → unsigned_abs (pos 1 *ℤ pos w) ≡ w
size_one w = ap (λ (z : ℤ). unsigned_abs z) (one_mul_ℤ (pos w))

size_minus : (w : ℕ) → unsigned_abs (negsuc 0 *ℤ pos w) ≡ w
size_minus w = grind (arith, common_steps, unsigned_abs-mul, negsuc, pos)

size_none : (w : ℕ) → unsigned_abs (pos 0 *ℤ pos w) ≡ 0
size_none w = ap (λ (z : ℤ). unsigned_abs z) (zero_mul_ℤ (pos w))

-- one way or the other
abbrev IsUnit : ℤ → Type 0
IsUnit s = (s ≡ pos 1) ⊎ (s ≡ negsuc 0)

square_unit : (s : ℤ) (w : ℕ) → IsUnit s → (s *ℤ pos w) *ℤ (s *ℤ pos w) ≡ pos (w * w)
square_unit s w (inl is) = rw is (square_one w)
square_unit s w (inr is) = rw is (square_minus w)

size_unit : (s : ℤ) (w : ℕ) → IsUnit s → unsigned_abs (s *ℤ pos w) ≡ w
size_unit s w (inl is) = rw is (size_one w)
size_unit s w (inr is) = rw is (size_minus w)

square_none : (w : ℕ) → (pos 0 *ℤ pos w) *ℤ (pos 0 *ℤ pos w) ≡ pos 0
square_none w = ap (λ (z : ℤ). z *ℤ z) (zero_mul_ℤ (pos w))

-- sums of which two are nothing
only_first : (x y z : ℤ) (w : ℕ) → x ≡ pos w → y ≡ pos 0 → z ≡ pos 0 → x +ℤ y +ℤ z ≡ pos w
only_first x y z w a b c = omega (arith, linear, a, b, c)

only_second : (x y z : ℤ) (w : ℕ) → x ≡ pos 0 → y ≡ pos w → z ≡ pos 0 → x +ℤ y +ℤ z ≡ pos w
only_second x y z w a b c = omega (arith, linear, a, b, c)

only_third : (x y z : ℤ) (w : ℕ) → x ≡ pos 0 → y ≡ pos 0 → z ≡ pos w → x +ℤ y +ℤ z ≡ pos w
only_third x y z w a b c = omega (arith, linear, a, b, c)

first_way : (u v w x y z other : ℕ) → u ≡ other → v ≡ 0 → w ≡ 0 → pos (u * x + v * y + w * z) ≡ pos (other * x)
first_way u v w x y z other a b c = grind (arith, common_steps, pos)

second_way : (u v w x y z other : ℕ) → u ≡ 0 → v ≡ other → w ≡ 0 → pos (u * x + v * y + w * z) ≡ pos (other * y)
second_way u v w x y z other a b c = grind (arith, common_steps, pos)

third_way : (u v w x y z other : ℕ) → u ≡ 0 → v ≡ 0 → w ≡ other → pos (u * x + v * y + w * z) ≡ pos (other * z)
third_way u v w x y z other a b c = grind (arith, common_steps, pos)

module _ (c : Clearance) (diff : List (Bez 8)) where
  -- the control values of the whole, on an axis
  abbrev value : ℕ → ℕ → ℤ
  value axis k = at (controls diff axis) k

  -- a direction along which the sums are at least a weight times what is more than the gap of the room
  separates_by : (n : List ℤ) (half other reach : ℕ) (e : ℕ → ℤ) → length_squared n ≡ pos 1 → length_squared (weights n c.r c.h) ≡ pos (other * other) →
      for_reach c n ≡ pos (other * reach) → 1 ≤ other → half * other ≡ c.r * c.h →
      ((k : ℕ) → k ≤ 7 → part_along c.r c.h diff root n k ≡ pos other *ℤ e k) → ((k : ℕ) → k ≤ 7 → least_distance (2 * half + 2 * c.stray + reach) ≤ℤ e k) → Separates c diff root n
  separates_by n half other reach e one weight way some same along wide k few =
      rw (along k few)
      (close (threshold c n) ((2 * (half * other) + 1) + 2 * (c.stray * other) + other * reach) (pos other *ℤ e k) (axis_threshold c n half other reach one weight way same)
      (reached half c.stray reach other (e k) some (wide k few)))
    where
      close : (t : ℤ) (m : ℕ) (v : ℤ) → t ≤ℤ pos m → (pos m *ℤ pos 5040) ≤ℤ v → (t *ℤ pos 5040) ≤ℤ v
      close t m v most high = omega (arith, linear, le_mul_pos 5040 t (pos m) most, mul_comm_ℤ t (pos 5040), mul_comm_ℤ (pos m) (pos 5040), high)

  -- the sums along each of the axes
  on_x : (s : ℤ) (k : ℕ) → part_along c.r c.h diff root (s ∷ pos 0 ∷ pos 0 ∷ []) k ≡ (s *ℤ pos c.h) *ℤ value 0 k
  on_x s k =
      along_x s (pos c.h) (pos c.h) (pos c.r) (part_value 0 0 (at (controls diff 0)) k) (part_value 0 0 (at (controls diff 1)) k) (part_value 0 0 (at (controls diff 2)) k)
      ∙ ap (λ (z : ℤ). (s *ℤ pos c.h) *ℤ z) (part-whole (at (controls diff 0)) k)

  on_y : (s : ℤ) (k : ℕ) → part_along c.r c.h diff root (pos 0 ∷ s ∷ pos 0 ∷ []) k ≡ (s *ℤ pos c.h) *ℤ value 1 k
  on_y s k =
      along_y s (pos c.h) (pos c.h) (pos c.r) (part_value 0 0 (at (controls diff 0)) k) (part_value 0 0 (at (controls diff 1)) k) (part_value 0 0 (at (controls diff 2)) k)
      ∙ ap (λ (z : ℤ). (s *ℤ pos c.h) *ℤ z) (part-whole (at (controls diff 1)) k)

  on_z : (s : ℤ) (k : ℕ) → part_along c.r c.h diff root (pos 0 ∷ pos 0 ∷ s ∷ []) k ≡ (s *ℤ pos c.r) *ℤ value 2 k
  on_z s k =
      along_z s (pos c.h) (pos c.h) (pos c.r) (part_value 0 0 (at (controls diff 0)) k) (part_value 0 0 (at (controls diff 1)) k) (part_value 0 0 (at (controls diff 2)) k)
      ∙ ap (λ (z : ℤ). (s *ℤ pos c.r) *ℤ z) (part-whole (at (controls diff 2)) k)

  -- a direction of the table that separates the whole
  there : (dirs : List (List ℤ)) (n : List ℤ) → Stands dirs n → Separates c diff root n → HasDirection c diff dirs root
  there dirs n stands separates = (stands.0, stands.1, rw (stands.2) separates)

  -- the direction of an axis, one way or the other
  by_x : (s : ℤ) (e : ℕ → ℤ) → IsUnit s → length_squared (s ∷ pos 0 ∷ pos 0 ∷ []) ≡ pos 1 → IsAxis c.h → ((k : ℕ) → (s *ℤ pos c.h) *ℤ value 0 k ≡ pos c.h *ℤ e k) →
      ((k : ℕ) → k ≤ 7 → least_distance (room_on c c.r 0) ≤ℤ e k) → Separates c diff root (s ∷ pos 0 ∷ pos 0 ∷ [])
  by_x s e unit one some turns wide =
      separates_by (s ∷ pos 0 ∷ pos 0 ∷ []) c.r c.h (reach_on c 0) e one
      (only_first _ _ _ _ (square_unit s c.h unit) (square_none c.h) (square_none c.r))
      (first_way _ _ _ (reach_on c 0) (reach_on c 1) (reach_on c 2) c.h (size_unit s c.h unit) (size_none c.h) (size_none c.r))
      some.0 refl (λ k few. on_x s k ∙ turns k) wide

  by_y : (s : ℤ) (e : ℕ → ℤ) → IsUnit s → length_squared (pos 0 ∷ s ∷ pos 0 ∷ []) ≡ pos 1 → IsAxis c.h → ((k : ℕ) → (s *ℤ pos c.h) *ℤ value 1 k ≡ pos c.h *ℤ e k) →
      ((k : ℕ) → k ≤ 7 → least_distance (room_on c c.r 1) ≤ℤ e k) → Separates c diff root (pos 0 ∷ s ∷ pos 0 ∷ [])
  by_y s e unit one some turns wide =
      separates_by (pos 0 ∷ s ∷ pos 0 ∷ []) c.r c.h (reach_on c 1) e one
      (only_second _ _ _ _ (square_none c.h) (square_unit s c.h unit) (square_none c.r))
      (second_way _ _ _ (reach_on c 0) (reach_on c 1) (reach_on c 2) c.h (size_none c.h) (size_unit s c.h unit) (size_none c.r))
      some.0 refl (λ k few. on_y s k ∙ turns k) wide

  by_z : (s : ℤ) (e : ℕ → ℤ) → IsUnit s → length_squared (pos 0 ∷ pos 0 ∷ s ∷ []) ≡ pos 1 → IsAxis c.r → ((k : ℕ) → (s *ℤ pos c.r) *ℤ value 2 k ≡ pos c.r *ℤ e k) →
      ((k : ℕ) → k ≤ 7 → least_distance (room_on c c.h 2) ≤ℤ e k) → Separates c diff root (pos 0 ∷ pos 0 ∷ s ∷ [])
  by_z s e unit one some turns wide =
      separates_by (pos 0 ∷ pos 0 ∷ s ∷ []) c.h c.r (reach_on c 2) e one
      (only_third _ _ _ _ (square_none c.h) (square_none c.h) (square_unit s c.r unit))
      (third_way _ _ _ (reach_on c 0) (reach_on c 1) (reach_on c 2) c.r (size_none c.h) (size_none c.h) (size_unit s c.r unit))
      some.0 (turn c.h c.r) (λ k few. on_z s k ∙ turns k) wide
    where
      turn : (a b : ℕ) → a * b ≡ b * a
      turn a b = grind arith

  -- where on some axis all control values lie beyond the gap, on one side
  apart_x : (dirs : List (List ℤ)) → IsAxis c.h → HasAxes dirs →
      ((k : ℕ) → k ≤ 7 → least_distance (room_on c c.r 0) ≤ℤ value 0 k) ⊎ ((k : ℕ) → k ≤ 7 → least_distance (room_on c c.r 0) ≤ℤ neg_ℤ (value 0 k)) → HasDirection c diff dirs root
  apart_x dirs some axes (inl wide) = there dirs (pos 1 ∷ pos 0 ∷ pos 0 ∷ []) axes.right (by_x (pos 1) (value 0) (inl refl) refl some (λ k. straight (pos c.h) (value 0 k)) wide)
  apart_x dirs some axes (inr wide) = there dirs (negsuc 0 ∷ pos 0 ∷ pos 0 ∷ []) axes.left (by_x (negsuc 0) (λ k. neg_ℤ (value 0 k)) (inr refl) refl some (λ k. turned (pos c.h) (value 0 k)) wide)

  apart_y : (dirs : List (List ℤ)) → IsAxis c.h → HasAxes dirs →
      ((k : ℕ) → k ≤ 7 → least_distance (room_on c c.r 1) ≤ℤ value 1 k) ⊎ ((k : ℕ) → k ≤ 7 → least_distance (room_on c c.r 1) ≤ℤ neg_ℤ (value 1 k)) → HasDirection c diff dirs root
  apart_y dirs some axes (inl wide) = there dirs (pos 0 ∷ pos 1 ∷ pos 0 ∷ []) axes.forth (by_y (pos 1) (value 1) (inl refl) refl some (λ k. straight (pos c.h) (value 1 k)) wide)
  apart_y dirs some axes (inr wide) = there dirs (pos 0 ∷ negsuc 0 ∷ pos 0 ∷ []) axes.back (by_y (negsuc 0) (λ k. neg_ℤ (value 1 k)) (inr refl) refl some (λ k. turned (pos c.h) (value 1 k)) wide)

  apart_z : (dirs : List (List ℤ)) → IsAxis c.r → HasAxes dirs →
      ((k : ℕ) → k ≤ 7 → least_distance (room_on c c.h 2) ≤ℤ value 2 k) ⊎ ((k : ℕ) → k ≤ 7 → least_distance (room_on c c.h 2) ≤ℤ neg_ℤ (value 2 k)) → HasDirection c diff dirs root
  apart_z dirs some axes (inl wide) = there dirs (pos 0 ∷ pos 0 ∷ pos 1 ∷ []) axes.up (by_z (pos 1) (value 2) (inl refl) refl some (λ k. straight (pos c.r) (value 2 k)) wide)
  apart_z dirs some axes (inr wide) = there dirs (pos 0 ∷ pos 0 ∷ negsuc 0 ∷ []) axes.down (by_z (negsuc 0) (λ k. neg_ℤ (value 2 k)) (inr refl) refl some (λ k. turned (pos c.r) (value 2 k)) wide)

-- ---- extents
module _ (c : Raised) (a b cue : ℕ) (first second : Extent) (near : IsExtent (curves_at c a cue) first) (far : IsExtent (curves_at c b cue) second) where
  -- a control value of the difference
  gap_at : (axis k : ℕ) → axis ≤ 2 → k ≤ 7 → at (controls (difference c a b cue) axis) k ≡ at (controls (curves_at c b cue) axis) k -ℤ at (controls (curves_at c a cue) axis) k
  unfolding difference
  gap_at zero k few small = at-eight (λ k. at (controls (curves_at c b cue) 0) k -ℤ at (controls (curves_at c a cue) 0) k) k small
  gap_at (suc zero) k few small = at-eight (λ k. at (controls (curves_at c b cue) 1) k -ℤ at (controls (curves_at c a cue) 1) k) k small
  gap_at (suc (suc zero)) k few small = at-eight (λ k. at (controls (curves_at c b cue) 2) k -ℤ at (controls (curves_at c a cue) 2) k) k small
  gap_at (suc (suc (suc axis))) k few small = absurd (omega arith)

  -- where the extents are far apart on an axis, so are the control values
  beyond : (room axis : ℕ) → axis ≤ 2 → IsFarOn room axis first second →
      ((k : ℕ) → k ≤ 7 → least_distance room ≤ℤ at (controls (difference c a b cue) axis) k) ⊎ ((k : ℕ) → k ≤ 7 → least_distance room ≤ℤ neg_ℤ (at (controls (difference c a b cue) axis) k))
  beyond room axis few (inl wide) = inl (λ k small. more (least_distance room) (at first.high axis) (at second.low axis) _ _ _ wide (near.high axis k few small) (far.low axis k few small) (gap_at axis k few small))
    where
      more : (g high low x y d : ℤ) → g ≤ℤ (low -ℤ high) → x ≤ℤ high → low ≤ℤ y → d ≡ y -ℤ x → g ≤ℤ d
      more g high low x y d wide below above is = omega (arith, linear, wide, below, above, is)
  beyond room axis few (inr wide) = inr (λ k small. less (least_distance room) (at second.high axis) (at first.low axis) _ _ _ wide (far.high axis k few small) (near.low axis k few small) (gap_at axis k few small))
    where
      less : (g high low x y d : ℤ) → g ≤ℤ (low -ℤ high) → x ≤ℤ high → low ≤ℤ y → d ≡ x -ℤ y → g ≤ℤ neg_ℤ d
      less g high low x y d wide below above is = omega (arith, linear, wide, below, above, is)

  -- a direction of the table separates the whole cue
  pub far_separates : (clear : Clearance) (dirs : List (List ℤ)) → IsClearance clear → HasAxes dirs → IsFar clear first second → HasDirection clear (difference c a b cue) dirs root
  far_separates clear dirs is axes (inl x) = apart_x clear (difference c a b cue) dirs is.upwards axes (beyond (room_on clear clear.r 0) 0 (omega arith) x)
  far_separates clear dirs is axes (inr (inl y)) = apart_y clear (difference c a b cue) dirs is.upwards axes (beyond (room_on clear clear.r 1) 1 (omega arith) y)
  far_separates clear dirs is axes (inr (inr z)) = apart_z clear (difference c a b cue) dirs is.across axes (beyond (room_on clear clear.h 2) 2 (omega arith) z)
