-- From the bends of the parts to the acceleration between each three instants of a segment.
use Rattle.dynamics_bound.proofs.Prelude.{◌+◌, rate, rate_of, segment_rate, time, units, widest, widest_in, AreWithin, all_within, in_units, some_time, greatest-same, pow-add, pow-suc, lit<, ◌≡◌, ℕ, zero, suc, ◌*◌, ◌^◌, ◌≤◌, ◌<◌, ℤ, pos, ◌-ℤ◌, ◌*ℤ◌, ◌≤ℤ◌, arith, refl, sym, ◌∙◌, ap, List, [], ◌∷◌, length, map, get_or, All, ints, length-map, All-head, All-tail, power, at, bernstein, IsPiece, ring, linear, mul_not_negative, raised, IsWithin, within_mul, Segment, Traj, durations, piece_on, pieces_on, points, duration, within_same, piece_value, power_low, greatest-at, KeepsAcceleration, widest_bend, widest_bend_part, acceleration_of, segment_acceleration, acceleration, after}
use Rattle.dynamics_bound.proofs.Parts.{three_by_parts}

-- ---- the accelerations are the rates of the second order
pub acceleration_is : (depth ms : ℕ) (f : ℕ → ℤ) → segment_rate 2 depth ms f ≡ segment_acceleration depth ms f
unfolding rate_of units time widest_in widest segment_acceleration acceleration_of widest_bend_part widest_bend
acceleration_is depth ms f =
    let lasts : 3 * (ms * ms) * 2 ^ (7 * depth) ≡ 3 * 2 ^ (7 * depth) * (ms * ms) = omega arith in
    rw (fourth depth, lasts) refl
  where
    fourth : (e : ℕ) → 2 ^ (2 * e) ≡ 4 ^ e
    fourth zero = refl
    fourth (suc e) = let more : 2 * suc e ≡ 2 * e + 2 = omega arith in rw (more, pow-add 2 (2 * e) 2, fourth e, pow-suc 4 e) refl

pub acceleration-is : (depth axis : ℕ) (t : Traj) → rate 2 depth t axis ≡ acceleration depth t axis
unfolding acceleration
acceleration-is depth axis t = greatest-same (length t.segments) _ _ (λ cue inside. acceleration_is depth (duration t cue) (at (raised (points t cue axis))))

-- that of a segment is at most that of the trajectory
pub slow_at : (depth axis cue : ℕ) (t : Traj) → cue < length t.segments → segment_rate 2 depth (duration t cue) (at (raised (points t cue axis))) ≤ acceleration depth t axis
slow_at depth axis cue t inside =
    rw (sym (acceleration-is depth axis t)) (greatest-at (length t.segments) (λ k. segment_rate 2 depth (duration t k) (at (raised (points t k axis)))) cue inside)

-- ---- units
pub in_squares : (e a m ms : ℕ) (y room value d : ℤ) → 1 ≤ ms → rate_of 2 e ms m ≤ a → pos 0 ≤ℤ y → room ≡ (pos (2 ^ (2 * e)) *ℤ pos m) *ℤ y → pos 2000000000 *ℤ value ≡ (pos 5040 *ℤ pos (2 ^ (7 * e))) *ℤ d →
    IsWithin (pos 21 *ℤ room) value → IsWithin (pos (a * (ms * ms)) *ℤ y) d
unfolding units time
in_squares e a m ms y room value d lasting slow = in_units 2 e ms m a 2000000000 21 1680 3 (ms * ms) y room value d (some_time 2 ms (lit< tt, lit< tt) lasting) slow refl refl refl

clock_ring : (q a t w s : ℤ) → (q *ℤ q) *ℤ ((a *ℤ (t *ℤ t)) *ℤ (w *ℤ s)) ≡ (a *ℤ w) *ℤ ((q *ℤ t) *ℤ ((q *ℤ t) *ℤ s))
clock_ring q a t w s = simp ring refl

-- by the clock: the scale is q times the duration t
pub in_time : (q a t : ℕ) (w d : ℤ) → IsWithin (pos (a * (t * t)) *ℤ (w *ℤ power (pos (q * t)) 5)) (pos 2000000000 *ℤ d) →
    IsWithin ((pos a *ℤ w) *ℤ power (pos (q * t)) 7) (pos (2000000000 * (q * q)) *ℤ d)
in_time q a t w d within =
    within_same
    (ap (λ (v : ℤ). (pos q *ℤ pos q) *ℤ (v *ℤ (w *ℤ power (pos (q * t)) 5))) (squares a t)
    ∙ clock_ring (pos q) (pos a) (pos t) w (power (pos (q * t)) 5)
    ∙ ap (λ (v : ℤ). (pos a *ℤ w) *ℤ (v *ℤ (v *ℤ power (pos (q * t)) 5))) (one_product q t))
    (swap (pos q) (pos 2000000000) d ∙ ap (λ (v : ℤ). v *ℤ d) (counts q))
    (within_mul (pos q *ℤ pos q) _ _ (mul_not_negative (pos q) (pos q) (omega (arith, ints)) (omega (arith, ints))) within)
  where
    swap : (q u d : ℤ) → (q *ℤ q) *ℤ (u *ℤ d) ≡ (u *ℤ (q *ℤ q)) *ℤ d
    swap q u d = simp ring refl

    squares : (a t : ℕ) → pos (a * (t * t)) ≡ pos a *ℤ (pos t *ℤ pos t)
    squares a t = omega (arith, ints)

    one_product : (q t : ℕ) → pos q *ℤ pos t ≡ pos (q * t)
    one_product q t = omega (arith, ints)

    counts : (q : ℕ) → pos 2000000000 *ℤ (pos q *ℤ pos q) ≡ pos (2000000000 * (q * q))
    counts q = omega (arith, ints)

-- ---- one curve
value_ring : (u q f a b px py pz : ℤ) → u *ℤ (q *ℤ ((f *ℤ pz -ℤ f *ℤ py) *ℤ a -ℤ (f *ℤ py -ℤ f *ℤ px) *ℤ b)) ≡ (f *ℤ q) *ℤ (u *ℤ ((pz -ℤ py) *ℤ a -ℤ (py -ℤ px) *ℤ b))
value_ring u q f a b px py pz = simp ring (omega (arith, linear))

room_ring : (a b c p s m : ℤ) → a *ℤ (b *ℤ (c *ℤ (p *ℤ (s *ℤ m)))) ≡ (p *ℤ m) *ℤ ((a *ℤ (b *ℤ c)) *ℤ s)
room_ring a b c p s m = simp ring refl

-- the product of the three times
abbrev times : ℤ → ℤ → ℤ → ℤ
times x y z = (z -ℤ x) *ℤ ((z -ℤ y) *ℤ (y -ℤ x))

in_curve : (e a m ms : ℕ) (f : ℕ → ℤ) (x y z s px py pz : ℤ) → pos 0 ≤ℤ x → x ≤ℤ y → y ≤ℤ z → z ≤ℤ s → AreWithin 2 e f (pos m) → 1 ≤ ms → rate_of 2 e ms m ≤ a →
    bernstein 7 f x s ≡ pos 5040 *ℤ px → bernstein 7 f y s ≡ pos 5040 *ℤ py → bernstein 7 f z s ≡ pos 5040 *ℤ pz →
    IsWithin (pos (a * (ms * ms)) *ℤ (times x y z *ℤ power s 5)) (pos 2000000000 *ℤ ((pz -ℤ py) *ℤ (y -ℤ x) -ℤ (py -ℤ px) *ℤ (z -ℤ y)))
in_curve e a m ms f x y z s px py pz low first second high bends lasting slow x_is y_is z_is =
    in_squares e a m ms (times x y z *ℤ power s 5) _ _ _ lasting slow
    (mul_not_negative (times x y z) (power s 5)
    (mul_not_negative (z -ℤ x) _ (omega (arith, linear)) (mul_not_negative (z -ℤ y) (y -ℤ x) (omega (arith, linear)) (omega (arith, linear)))) (power_low s 5 (omega (arith, linear))))
    (room_ring (z -ℤ x) (z -ℤ y) (y -ℤ x) (pos (2 ^ (2 * e))) (power s 5) (pos m))
    (value_ring (pos 2000000000) (pos (2 ^ (7 * e))) (pos 5040) (y -ℤ x) (z -ℤ y) px py pz)
    (within_same refl (same_value (pos (2 ^ (7 * e))) (y -ℤ x) (z -ℤ y) x_is y_is z_is) (three_by_parts e f (pos m) x y z s low first second high bends))
  where
    same_value : (q a b : ℤ) {fx fy fz gx gy gz : ℤ} → fx ≡ gx → fy ≡ gy → fz ≡ gz → q *ℤ ((fz -ℤ fy) *ℤ a -ℤ (fy -ℤ fx) *ℤ b) ≡ q *ℤ ((gz -ℤ gy) *ℤ a -ℤ (gy -ℤ gx) *ℤ b)
    same_value q a b {fx} {fy} {fz} {gx} {gy} {gz} xs ys zs = cc

-- ---- one segment
pub lasts : (axis : ℕ) (segments : List Segment) (cue : ℕ) → cue < length segments → All IsPiece (map (piece_on axis) segments) → 1 ≤ get_or (durations segments) cue 0
lasts axis [] cue inside formed = absurd (omega arith)
lasts axis (s ∷ rest) zero inside formed = (All-head IsPiece (piece_on axis s) (map (piece_on axis) rest) formed).lasts
lasts axis (s ∷ rest) (suc cue) inside formed = lasts axis rest cue (omega arith) (All-tail IsPiece (piece_on axis s) (map (piece_on axis) rest) formed)

-- Within each of its segments a trajectory keeps below its bound.
pub keeps_acceleration : (depth axis : ℕ) (t : Traj) → All IsPiece (pieces_on axis t) → KeepsAcceleration t axis (acceleration depth t axis)
keeps_acceleration depth axis t formed cue q x y z inside first second last =
    let ms : ℕ = duration t cue in
    let f : ℕ → ℤ = at (raised (points t cue axis)) in
    let near : cue < length (pieces_on axis t) = omega (arith, length-map t.segments (piece_on axis)) in
    let value : (i : ℕ) → bernstein 7 f (pos i) (pos (q * ms)) ≡ pos 5040 *ℤ after t axis cue q i = λ i. piece_value (at t.start axis) (pieces_on axis t) cue i (q * ms) formed near in
    in_time q (acceleration depth t axis) ms (times (pos x) (pos y) (pos z)) _
    (in_curve depth (acceleration depth t axis) (widest_in 2 depth f) ms f (pos x) (pos y) (pos z) (pos (q * ms)) (after t axis cue q x) (after t axis cue q y) (after t axis cue q z)
    (omega (arith, ints)) (omega (arith, ints)) (omega (arith, ints)) (omega (arith, ints)) (all_within 2 depth f) (lasts axis t.segments cue inside formed) (slow_at depth axis cue t inside) (value x) (value y) (value z))
