-- Numbers of lanes, and what they tell of a direction.
use Rattle.pair_search.proofs.Prelude.{All, [], get_or, below_at, controls_row, curves_of, root, common_steps, lit<, ◌≡◌, ◌≢◌, ℕ, zero, suc, ◌+◌, ◌*◌, ◌^◌, ◌≤◌, ◌<◌, ℤ, pos, negsuc, neg_ℤ, ◌+ℤ◌, ◌-ℤ◌, ◌*ℤ◌, ◌≤ℤ◌, ◌<ℤ◌, unsigned_abs, FitsSigned, to_z, of_z, arith, refl, sym, ◌∙◌, ap, subst, List, length, get_or-set_other, get_or-set_same, slice_set, replicate, ints, unsigned_abs-mul, to_z-of_z, mul-le, pow-add, pow_pos, pow-le-pow_right, w32, w64, at, IsBelow, by_lt, Clearance, threshold, weights, least_value, part_along, IsLevel, Level, Bez, controls, at-eight, part_value, linear, le_mul_pos, mul_add_ℤ, mul_assoc_ℤ, mul_comm_ℤ, mul_left_comm_ℤ, mul_neg_ℤ, neg_mul_ℤ, one_mul_ℤ, IsWithin, Lanes, Point, IsFloor, IsLane, IsPoint, IsSmallLane, lane_value, slack_on, slack_of}

-- ---- sizes
pub lane_product : (w x : ℤ) → IsBelow 4001 w → IsWithin (pos 65536) x → IsWithin (pos 262144000) (w *ℤ x)
lane_product w x small within =
    let m : unsigned_abs (w *ℤ x) ≤ 4000 * 65536 = rw (unsigned_abs-mul w x) (mul-le (unsigned_abs w) (unsigned_abs x) 4000 65536 (omega (arith, ints)) (omega (arith, ints))) in
    (omega (arith, ints), omega (arith, ints))

pub lane_fits : (x : ℤ) → IsWithin (pos 262144000) x → FitsSigned w32 x
lane_fits x within = omega (arith, ints)

pub weight_fits : (x : ℤ) → IsBelow 4001 x → FitsSigned w32 x
weight_fits x small = omega (arith, ints)

pub long_fits : (x : ℤ) → IsBelow 4001 x → FitsSigned w64 x
long_fits x small = omega (arith, ints)

pub low_fits : (x : ℤ) → IsBelow (2 ^ 29) x → FitsSigned w32 x
low_fits x small = omega (arith, ints)

pub point_fits : (x : ℤ) → IsWithin (pos 65536) x → FitsSigned w32 x
point_fits x small = omega (arith, ints)

pub value_fits : (x : ℤ) → IsBelow 800000000 x → FitsSigned w32 x
value_fits x small = omega (arith, ints)

-- three products
pub lane_sum : (x y z : ℤ) → IsWithin (pos 262144000) x → IsWithin (pos 262144000) y → IsWithin (pos 262144000) z →
    FitsSigned w32 (x +ℤ y) × FitsSigned w32 (x +ℤ y +ℤ z) × IsBelow 800000000 (x +ℤ y +ℤ z)
lane_sum x y z p q r = (omega (arith, ints), omega (arith, ints), (omega (arith, ints), omega (arith, ints)))

-- ---- what a lane has to reach
pub low_told : (reach a b c : ℤ) → pos 0 ≤ℤ reach → reach <ℤ pos (2 ^ 29) → (pos 0 ≤ℤ a) × (a <ℤ pos 4001) → (pos 0 ≤ℤ b) × (b <ℤ pos 4001) → (pos 0 ≤ℤ c) × (c <ℤ pos 4001) →
    (FitsSigned w64 (to_z w64 (of_z w64 (to_z w64 (of_z w64 (to_z w64 (of_z w64 reach) -ℤ to_z w64 (of_z w64 a))) -ℤ to_z w64 (of_z w64 b))) -ℤ to_z w64 (of_z w64 c)))
    × FitsSigned w32 (to_z w64 (of_z w64 (to_z w64 (of_z w64 (to_z w64 (of_z w64 (to_z w64 (of_z w64 reach) -ℤ to_z w64 (of_z w64 a))) -ℤ to_z w64 (of_z w64 b))) -ℤ to_z w64 (of_z w64 c))))
    × (to_z w32 (of_z w32 (to_z w64 (of_z w64 (to_z w64 (of_z w64 (to_z w64 (of_z w64 (to_z w64 (of_z w64 reach) -ℤ to_z w64 (of_z w64 a))) -ℤ to_z w64 (of_z w64 b))) -ℤ to_z w64 (of_z w64 c))))) ≡ reach -ℤ a -ℤ b -ℤ c)
low_told reach a b c positive small p q r =
    let fr : FitsSigned w64 reach = omega (arith, ints) in
    let fa : FitsSigned w64 a = omega (arith, ints) in
    let fb : FitsSigned w64 b = omega (arith, ints) in
    let fc : FitsSigned w64 c = omega (arith, ints) in
    let f1 : FitsSigned w64 (reach -ℤ a) = omega (arith, ints) in
    let f2 : FitsSigned w64 (reach -ℤ a -ℤ b) = omega (arith, ints) in
    let f3 : FitsSigned w64 (reach -ℤ a -ℤ b -ℤ c) = omega (arith, ints) in
    let f4 : FitsSigned w32 (reach -ℤ a -ℤ b -ℤ c) = omega (arith, ints) in
    rw (to_z-of_z w64 reach fr, to_z-of_z w64 a fa, to_z-of_z w64 b fb, to_z-of_z w64 c fc, to_z-of_z w64 (reach -ℤ a) f1, to_z-of_z w64 (reach -ℤ a -ℤ b) f2, to_z-of_z w64 (reach -ℤ a -ℤ b -ℤ c) f3)
    (f3, f4, to_z-of_z w32 (reach -ℤ a -ℤ b -ℤ c) f4)

pub low_reach : (reach a b c t : ℤ) → (pos 16384 *ℤ reach) ≤ℤ (pos 5040 *ℤ t) → (pos 16384 *ℤ ((reach -ℤ a -ℤ b -ℤ c) +ℤ (a +ℤ b +ℤ c))) ≤ℤ (pos 5040 *ℤ t)
low_reach reach a b c t most = subst (λ (z : ℤ). (pos 16384 *ℤ z) ≤ℤ (pos 5040 *ℤ t)) (same reach a b c) most
  where
    same : (reach a b c : ℤ) → reach ≡ (reach -ℤ a -ℤ b -ℤ c) +ℤ (a +ℤ b +ℤ c)
    same reach a b c = omega (arith, linear)

pub low_small : (reach a b c : ℤ) → pos 0 ≤ℤ reach → reach <ℤ pos (2 ^ 29) → (pos 0 ≤ℤ a) × (a <ℤ pos 4001) → (pos 0 ≤ℤ b) × (b <ℤ pos 4001) → (pos 0 ≤ℤ c) × (c <ℤ pos 4001) → IsBelow (2 ^ 29) (reach -ℤ a -ℤ b -ℤ c)
low_small reach a b c positive small p q r = (omega (arith, ints), omega (arith, ints))

-- ---- what rounding down loses
-- a value by its steps, times a weight
weighed : (d : ℕ) (w q x : ℤ) → (pos d *ℤ q) ≤ℤ x → x <ℤ (pos d *ℤ (q +ℤ pos 1)) → (w *ℤ x) ≤ℤ (pos d *ℤ (w *ℤ q +ℤ slack_on w))
weighed d (pos n) q x low high =
    let more : (pos n *ℤ x) ≤ℤ (pos n *ℤ (pos d *ℤ (q +ℤ pos 1))) = le_mul_pos n x (pos d *ℤ (q +ℤ pos 1)) (omega (arith, linear, high)) in
    subst (λ (z : ℤ). (pos n *ℤ x) ≤ℤ z) (mul_left_comm_ℤ (pos n) (pos d) (q +ℤ pos 1) ∙ ap (λ (z : ℤ). pos d *ℤ z) (spread n q)) more
  where
    spread : (n : ℕ) (q : ℤ) → pos n *ℤ (q +ℤ pos 1) ≡ pos n *ℤ q +ℤ pos n
    spread n q = mul_add_ℤ (pos n) q (pos 1) ∙ ap (λ (z : ℤ). pos n *ℤ q +ℤ z) (mul_comm_ℤ (pos n) (pos 1) ∙ one_mul_ℤ (pos n))
weighed d (negsuc n) q x low high =
    let less : (pos (suc n) *ℤ (pos d *ℤ q)) ≤ℤ (pos (suc n) *ℤ x) = le_mul_pos (suc n) (pos d *ℤ q) x low in
    omega (arith, linear, less, neg_mul_ℤ (pos (suc n)) x, neg_mul_ℤ (pos (suc n)) (pos d *ℤ q), moved d n q)
  where
    moved : (d n : ℕ) (q : ℤ) → pos d *ℤ (negsuc n *ℤ q +ℤ pos 0) ≡ negsuc n *ℤ (pos d *ℤ q)
    moved d n q = ap (λ (z : ℤ). pos d *ℤ z) (none (negsuc n *ℤ q)) ∙ mul_left_comm_ℤ (pos d) (negsuc n) q
      where
        none : (z : ℤ) → z +ℤ pos 0 ≡ z
        none z = omega (arith, linear)

-- three values along a direction
sum_weighed : (d : ℕ) (u v w p q r x y z : ℤ) → (pos d *ℤ p) ≤ℤ x → x <ℤ (pos d *ℤ (p +ℤ pos 1)) → (pos d *ℤ q) ≤ℤ y → y <ℤ (pos d *ℤ (q +ℤ pos 1)) → (pos d *ℤ r) ≤ℤ z → z <ℤ (pos d *ℤ (r +ℤ pos 1)) →
    (u *ℤ x +ℤ v *ℤ y +ℤ w *ℤ z) ≤ℤ (pos d *ℤ ((u *ℤ p +ℤ v *ℤ q +ℤ w *ℤ r) +ℤ (slack_on u +ℤ slack_on v +ℤ slack_on w)))
sum_weighed d u v w p q r x y z px xp qy yq rz zr =
    subst (λ (m : ℤ). (u *ℤ x +ℤ v *ℤ y +ℤ w *ℤ z) ≤ℤ m) (sym (spread (pos d) (u *ℤ p) (v *ℤ q) (w *ℤ r) (slack_on u) (slack_on v) (slack_on w)))
    (omega (arith, linear, weighed d u p x px xp, weighed d v q y qy yq, weighed d w r z rz zr))
  where
    regroup : (a b c e f g : ℤ) → (a +ℤ b +ℤ c) +ℤ (e +ℤ f +ℤ g) ≡ (a +ℤ e) +ℤ (b +ℤ f) +ℤ (c +ℤ g)
    regroup a b c e f g = omega (arith, linear)

    spread : (d a b c e f g : ℤ) → d *ℤ ((a +ℤ b +ℤ c) +ℤ (e +ℤ f +ℤ g)) ≡ d *ℤ (a +ℤ e) +ℤ d *ℤ (b +ℤ f) +ℤ d *ℤ (c +ℤ g)
    spread d a b c e f g =
        ap (λ (z : ℤ). d *ℤ z) (regroup a b c e f g) ∙ mul_add_ℤ d ((a +ℤ e) +ℤ (b +ℤ f)) (c +ℤ g) ∙ ap (λ (z : ℤ). z +ℤ d *ℤ (c +ℤ g)) (mul_add_ℤ d (a +ℤ e) (b +ℤ f))

-- ---- tables that are filled
pub zeros : (n j : ℕ) → at (replicate n (pos 0)) j ≡ pos 0
zeros zero j = refl
zeros (suc n) zero = refl
zeros (suc n) (suc j) = zeros n j

pub ones_small : (m n j : ℕ) → 1 < m → IsBelow m (at (replicate n (pos 1)) j)
ones_small m zero j some = (omega (arith, ints), omega (arith, ints))
ones_small m (suc n) zero some = (omega (arith, ints), omega (arith, ints))
ones_small m (suc n) (suc j) some = ones_small m n j some

pub by_same : {P : Type 0} (j i : ℕ) → (j ≡ i → P) → (j ≢ i → P) → P
by_same {P} j i same other = grind (arith, common_steps, by_lt)

-- what holds of each entry and of a new one holds after the new one is put in
pub set_all : (P : ℤ → Type 0) (xs : List ℤ) (i j : ℕ) (v : ℤ) → i < length xs → P v → P (at xs j) → P (at (slice_set xs i v) j)
set_all P xs i j v inside new old = grind (arith, common_steps, by_same, get_or-set_same, get_or-set_other)

abbrev put_lane : Lanes → ℕ → ℤ → ℤ → ℤ → ℤ → Lanes
put_lane l i x y z low = record { x = slice_set l.x i x; y = slice_set l.y i y; z = slice_set l.z i z; low = slice_set l.low i low }

-- all lanes stay small
pub small_lane : (l : Lanes) (i j : ℕ) (x y z low : ℤ) → length l.x ≡ 112 → length l.y ≡ 112 → length l.z ≡ 112 → length l.low ≡ 112 → i < 112 →
    IsBelow 4001 x → IsBelow 4001 y → IsBelow 4001 z → IsBelow (2 ^ 29) low → IsSmallLane l j → IsSmallLane (put_lane l i x y z low) j
small_lane l i j x y z low x_long y_long z_long low_long inside x_small y_small z_small low_small is = record {
  x = set_all (IsBelow 4001) l.x i j x (omega (arith, x_long, inside)) x_small is.x;
  y = set_all (IsBelow 4001) l.y i j y (omega (arith, y_long, inside)) y_small is.y;
  z = set_all (IsBelow 4001) l.z i j z (omega (arith, z_long, inside)) z_small is.z;
  low = set_all (IsBelow (2 ^ 29)) l.low i j low (omega (arith, low_long, inside)) low_small is.low;
}

-- another lane stays as it was
pub kept_lane : (clear : Clearance) (n : List ℤ) (l : Lanes) (i j : ℕ) (x y z low : ℤ) → j ≢ i → IsLane clear n l j → IsLane clear n (put_lane l i x y z low) j
kept_lane clear n l i j x y z low ne is = grind (arith, common_steps, get_or-set_other)

-- the new lane
pub new_lane : (clear : Clearance) (n : List ℤ) (l : Lanes) (i : ℕ) (x y z low : ℤ) → length l.x ≡ 112 → length l.y ≡ 112 → length l.z ≡ 112 → length l.low ≡ 112 → i < 112 →
    x ≡ at (weights n clear.r clear.h) 0 → y ≡ at (weights n clear.r clear.h) 1 → z ≡ at (weights n clear.r clear.h) 2 → (pos 16384 *ℤ (low +ℤ slack_of (weights n clear.r clear.h))) ≤ℤ (pos 5040 *ℤ threshold clear n) → IsLane clear n (put_lane l i x y z low) i
new_lane clear n l i x y z low x_long y_long z_long low_long inside x_is y_is z_is reach = grind (arith, common_steps, get_or-set_same)

-- ---- a lane that is too low
-- the steps of a part, and what it has to be at least
scale_split : (e : ℕ) → 2 ^ (14 + 7 * e) ≡ 16384 * 2 ^ (7 * e)
scale_split e = pow-add 2 14 (7 * e)

least_is : (t : ℤ) (p : ℕ) → t *ℤ pos (5040 * p) ≡ pos p *ℤ (pos 5040 *ℤ t)
least_is t p =
    mul_comm_ℤ t (pos (5040 * p)) ∙ ap (λ (n : ℕ). pos n *ℤ t) (swap p) ∙ mul_assoc_ℤ (pos p) (pos 5040) t
  where
    swap : (p : ℕ) → 5040 * p ≡ p * 5040
    swap p = omega arith

-- a sum whose point is below what it has to reach is below the least value
lane_low : (step times e : ℕ) (t sum v low s : ℤ) → 0 < step → times ≡ step * 2 ^ (7 * e) → sum ≤ℤ (pos times *ℤ (v +ℤ s)) → v <ℤ low → (pos step *ℤ (low +ℤ s)) ≤ℤ (pos 5040 *ℤ t) → sum <ℤ least_value t e
lane_low step times e t sum v low s whole split most less reach =
    let some : 0 < 2 ^ (7 * e) = pow_pos (7 * e) in
    let next : (pos step *ℤ (v +ℤ s +ℤ pos 1)) ≤ℤ (pos step *ℤ (low +ℤ s)) = le_mul_pos step (v +ℤ s +ℤ pos 1) (low +ℤ s) (omega (arith, linear, less)) in
    let scaled : (pos (2 ^ (7 * e)) *ℤ (pos step *ℤ (v +ℤ s +ℤ pos 1))) ≤ℤ (pos (2 ^ (7 * e)) *ℤ (pos 5040 *ℤ t)) = le_mul_pos (2 ^ (7 * e)) _ _ (omega (arith, linear, next, reach)) in
    let spread : pos (2 ^ (7 * e)) *ℤ (pos step *ℤ (v +ℤ s +ℤ pos 1)) ≡ pos (step * 2 ^ (7 * e)) *ℤ (v +ℤ s) +ℤ pos (step * 2 ^ (7 * e)) =
    sym (mul_assoc_ℤ (pos (2 ^ (7 * e))) (pos step) (v +ℤ s +ℤ pos 1)) ∙ ap (λ (n : ℕ). pos n *ℤ (v +ℤ s +ℤ pos 1)) (mul-comm (2 ^ (7 * e)) step)
    ∙ mul_add_ℤ (pos (step * 2 ^ (7 * e))) (v +ℤ s) (pos 1) ∙ ap (λ (z : ℤ). pos (step * 2 ^ (7 * e)) *ℤ (v +ℤ s) +ℤ z) (mul_comm_ℤ (pos (step * 2 ^ (7 * e))) (pos 1) ∙ one_mul_ℤ (pos (step * 2 ^ (7 * e)))) in
    let most_is : sum ≤ℤ (pos (step * 2 ^ (7 * e)) *ℤ (v +ℤ s)) = subst (λ (n : ℕ). sum ≤ℤ (pos n *ℤ (v +ℤ s))) split most in
    close (step * 2 ^ (7 * e)) sum (pos (step * 2 ^ (7 * e)) *ℤ (v +ℤ s)) (pos (2 ^ (7 * e)) *ℤ (pos 5040 *ℤ t)) (least_value t e) (mul-pos step (2 ^ (7 * e)) whole some) most_is (subst (λ (z : ℤ). z ≤ℤ (pos (2 ^ (7 * e)) *ℤ (pos 5040 *ℤ t))) spread scaled) (least_is t (2 ^ (7 * e)))
  where
    mul-comm : (a b : ℕ) → a * b ≡ b * a
    mul-comm a b = omega arith

    mul-pos : (a b : ℕ) → 0 < a → 0 < b → 0 < a * b
    mul-pos a b p q = omega (arith, mul-le 1 1 a b p q)

    close : (d : ℕ) (sum a b least : ℤ) → 0 < d → sum ≤ℤ a → (a +ℤ pos d) ≤ℤ b → least ≡ b → sum <ℤ least
    close d sum a b least some most step is = omega (arith, ints, some, most, step, is)

-- a sum of weighted coordinates in steps of a part that is too low: so is the value there along the direction
pub steps_along : (step times : ℕ) (diff : List (Bez 8)) (level : Level) (clear : Clearance) (n : List ℤ) (l : Lanes) (x y z low : ℤ) (i k : ℕ) → k ≤ 7 → IsLevel diff level → IsLane clear n l i →
    0 < step → 2 ^ times ≡ step * 2 ^ (7 * level.place.depth) → IsFloor times (at (controls level.part 0) k) x → IsFloor times (at (controls level.part 1) k) y → IsFloor times (at (controls level.part 2) k) z →
    (at l.x i *ℤ x +ℤ at l.y i *ℤ y +ℤ at l.z i *ℤ z) <ℤ low → (pos step *ℤ (low +ℤ slack_of (weights n clear.r clear.h))) ≤ℤ (pos 5040 *ℤ threshold clear n) →
    part_along clear.r clear.h diff level.place n k <ℤ least_value (threshold clear n) level.place.depth
steps_along step times diff level clear n l x y z low i k few is lane whole split x_floor y_floor z_floor less reach =
    let ws : List ℤ = weights n clear.r clear.h in
    let same : at ws 0 *ℤ at (controls level.part 0) k +ℤ at ws 1 *ℤ at (controls level.part 1) k +ℤ at ws 2 *ℤ at (controls level.part 2) k ≡ part_along clear.r clear.h diff level.place n k =
    sums (at ws 0) (at ws 1) (at ws 2) (value 0 (omega arith)) (value 1 (omega arith)) (value 2 (omega arith)) in
    let lane_is : at l.x i *ℤ x +ℤ at l.y i *ℤ y +ℤ at l.z i *ℤ z ≡ at ws 0 *ℤ x +ℤ at ws 1 *ℤ y +ℤ at ws 2 *ℤ z = lanes x y z lane.x lane.y lane.z in
    lane_low step (2 ^ times) level.place.depth (threshold clear n) (part_along clear.r clear.h diff level.place n k) (at ws 0 *ℤ x +ℤ at ws 1 *ℤ y +ℤ at ws 2 *ℤ z) low (slack_of ws) whole split
    (subst (λ (m : ℤ). m ≤ℤ (pos (2 ^ times) *ℤ ((at ws 0 *ℤ x +ℤ at ws 1 *ℤ y +ℤ at ws 2 *ℤ z) +ℤ slack_of ws))) same
    (sum_weighed (2 ^ times) (at ws 0) (at ws 1) (at ws 2) x y z (at (controls level.part 0) k) (at (controls level.part 1) k) (at (controls level.part 2) k)
    x_floor.low x_floor.high y_floor.low y_floor.high z_floor.low z_floor.high))
    (subst (λ (m : ℤ). m <ℤ low) lane_is less) reach
  where
    value : (axis : ℕ) → axis ≤ 2 → at (controls level.part axis) k ≡ part_value level.place.depth level.place.index (at (controls diff axis)) k
    value axis low = ap (λ (xs : List ℤ). at xs k) (is.part axis low) ∙ at-eight (part_value level.place.depth level.place.index (at (controls diff axis))) k few

    sums : {x y z u v w : ℤ} (a b c : ℤ) → x ≡ u → y ≡ v → z ≡ w → a *ℤ x +ℤ b *ℤ y +ℤ c *ℤ z ≡ a *ℤ u +ℤ b *ℤ v +ℤ c *ℤ w
    sums {x} {y} {z} {u} {v} {w} a b c p q r = cc

    lanes : {a b c u v w : ℤ} (x y z : ℤ) → a ≡ u → b ≡ v → c ≡ w → a *ℤ x +ℤ b *ℤ y +ℤ c *ℤ z ≡ u *ℤ x +ℤ v *ℤ y +ℤ w *ℤ z
    lanes {a} {b} {c} {u} {v} {w} x y z p q r = cc

-- a lane that is too low at a point of a part: so is the value there along its direction
pub lane_along : (diff : List (Bez 8)) (level : Level) (clear : Clearance) (n : List ℤ) (l : Lanes) (p : Point) (i k : ℕ) → k ≤ 7 → IsLevel diff level → IsPoint level k p → IsLane clear n l i →
    lane_value l p i <ℤ at l.low i → part_along clear.r clear.h diff level.place n k <ℤ least_value (threshold clear n) level.place.depth
lane_along diff level clear n l p i k few is point lane less =
    steps_along 16384 (14 + 7 * level.place.depth) diff level clear n l p.x p.y p.z (at l.low i) i k few is lane (omega arith) (scale_split level.place.depth) point.x point.y point.z less lane.low

-- ---- whole steps
-- a value of a part is few steps
steps_split : (e : ℕ) → 2 ^ (14 + 7 * e) ≡ 16384 * 2 ^ (7 * e)
steps_split e = pow-add 2 14 (7 * e)

pub floor_small : (e : ℕ) (v q : ℤ) → IsBelow (2 ^ (7 * e) * 2 ^ 30) v → IsFloor (14 + 7 * e) v q → IsWithin (pos 65536) q
floor_small e v q below floor = within q floor.low floor.high
  where
    next : (n : ℕ) → negsuc (suc n) +ℤ pos 1 ≡ neg_ℤ (pos (suc n))
    next n = omega (arith, ints)

    turned : (t n : ℕ) → pos t *ℤ (negsuc (suc n) +ℤ pos 1) ≡ neg_ℤ (pos (t * suc n))
    turned t n = ap (λ (z : ℤ). pos t *ℤ z) (next n) ∙ mul_neg_ℤ (pos t) (pos (suc n))

    few : (p t n : ℕ) → t ≡ 16384 * p → t * n < p * 2 ^ 30 → n < 65536
    few p t n is less = by_lt n 65536 (λ here. here) (λ later. absurd (omega (arith, is, less, mul-le t 65536 t n (omega arith) later)))

    within : (q : ℤ) → (pos (2 ^ (14 + 7 * e)) *ℤ q) ≤ℤ v → v <ℤ (pos (2 ^ (14 + 7 * e)) *ℤ (q +ℤ pos 1)) → IsWithin (pos 65536) q
    within (pos n) low high = (omega (arith, ints), omega (arith, ints, few (2 ^ (7 * e)) (2 ^ (14 + 7 * e)) n (steps_split e) (omega (arith, ints, low, below))))
    within (negsuc zero) low high = (omega (arith, ints), omega (arith, ints))
    within (negsuc (suc n)) low high =
        let less : v <ℤ neg_ℤ (pos (2 ^ (14 + 7 * e) * suc n)) = subst (λ (z : ℤ). v <ℤ z) (turned (2 ^ (14 + 7 * e)) n) high in
        (omega (arith, ints, few (2 ^ (7 * e)) (2 ^ (14 + 7 * e)) (suc n) (steps_split e) (omega (arith, ints, less, below))), omega (arith, ints))

-- it fits 64 bits where it is halved at most four times
pub value_short : (e : ℕ) (v : ℤ) → e ≤ 4 → IsBelow (2 ^ (7 * e) * 2 ^ 30) v → FitsSigned w64 v
value_short e v shallow below = grind (arith, common_steps, ints, pow-le-pow_right, lit<)

-- ---- the ends of a whole cue
pub row_fits : (x : ℤ) → IsBelow (2 ^ 30) x → FitsSigned w32 x
row_fits x small = omega (arith, ints)

-- a number of a row of a difference
pub row_within : (rows : List (List ℤ)) (diff : List (Bez 8)) (axis k : ℕ) → curves_of rows ≡ diff → length diff ≡ 3 → axis ≤ 2 → All (λ (curve : Bez 8). All (IsBelow (2 ^ 30)) curve.b) diff → IsBelow (2 ^ 30) (at (get_or rows axis []) k)
row_within rows diff axis k is axes near all =
    subst (λ (xs : List ℤ). IsBelow (2 ^ 30) (at xs k)) (controls_row rows axis)
    (subst (λ (curves : List (Bez 8)). IsBelow (2 ^ 30) (at (controls curves axis) k)) (sym is)
    (below_at (2 ^ 30) (controls diff axis) k (omega arith) (all axis (record { b = [] }) (omega (arith, axes, near)))))

-- the point of numbers of rows in whole steps
pub point_of_rows : (rows : List (List ℤ)) (diff : List (Bez 8)) (k : ℕ) (x y z : ℤ) → curves_of rows ≡ diff →
    IsFloor 14 (at (get_or rows 0 []) k) x → IsFloor 14 (at (get_or rows 1 []) k) y → IsFloor 14 (at (get_or rows 2 []) k) z → IsPoint (record { place = root; part = diff }) k (record { x = x; y = y; z = z })
point_of_rows rows diff k x y z is first second third =
    subst (λ (curves : List (Bez 8)). IsPoint (record { place = root; part = curves }) k (record { x = x; y = y; z = z })) is record {
      x = subst (λ (xs : List ℤ). IsFloor 14 (at xs k) x) (sym (controls_row rows 0)) first;
      y = subst (λ (xs : List ℤ). IsFloor 14 (at xs k) y) (sym (controls_row rows 1)) second;
      z = subst (λ (xs : List ℤ). IsFloor 14 (at xs k) z) (sym (controls_row rows 2)) third;
    }
