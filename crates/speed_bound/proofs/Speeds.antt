-- From the steps of the parts to the speed between each two instants of a trajectory.
use Rattle.speed_bound.proofs.Prelude.{rate_of, time, units, lit<, common_steps, ◌≡◌, ℕ, zero, suc, ◌+◌, ◌-◌, ◌*◌, ◌^◌, ◌≤◌, ◌<◌, ℤ, pos, negsuc, ◌+ℤ◌, ◌-ℤ◌, ◌*ℤ◌, ◌≤ℤ◌, neg_ℤ, unsigned_abs, arith, refl, sym, ◌∙◌, ap, subst, List, length, get_or, All, sum, ints, length-map, power, at, bernstein, Moment, moment, time_before, Piece, IsPiece, ring, linear, le_mul_ℤ, le_mul_pos, mul_not_negative, mul_add_ℤ, mul_assoc_ℤ, one_mul_ℤ, zero_mul_ℤ, mul_comm_ℤ, mul_neg_ℤ, by_lt, points-count, points-joined, decoded-at_start, decoded-at_end, raised, IsWithin, within_mul, raise, Lies, moment-lies, time_before-suc}
use Rattle.whole_numbers.proofs.SumLemmas.{power-mul}
use Rattle.whole_numbers.specs.Decoded.{points, durations, decoded}
use Rattle.speed_bound.proofs.Slopes.{minus_same, within_add, within_same}
use Rattle.speed_bound.proofs.Differences.{AreWithin}
use Rattle.speed_bound.proofs.Changes.{steep_between}
use Rattle.speed_bound.proofs.RateLemmas.{some_time}
use Rattle.speed_bound.proofs.Units.{in_units}

-- two products
same_product : {x y z w : ℤ} → x ≡ y → z ≡ w → x *ℤ z ≡ y *ℤ w
same_product {x} {y} {z} {w} p q = cc

-- ---- one segment
value_ring : (u q f k x l y : ℤ) → u *ℤ (q *ℤ (k *ℤ (f *ℤ x) -ℤ l *ℤ (f *ℤ y))) ≡ (f *ℤ q) *ℤ (u *ℤ (k *ℤ x -ℤ l *ℤ y))
value_ring u q f k x l y = simp ring (omega (arith, linear))

room_ring : (p t w m : ℤ) → p *ℤ (t *ℤ (w *ℤ m)) ≡ (p *ℤ m) *ℤ (t *ℤ w)
room_ring p t w m = simp ring refl

-- Between two instants a / c and b / d of one curve: m bounds the steps of its parts of a depth, and v the speed.
in_curve : (e v m ms : ℕ) (f : ℕ → ℤ) (a c b d x y : ℤ) → pos 0 ≤ℤ a → a ≤ℤ c → pos 0 ≤ℤ b → b ≤ℤ d → (d *ℤ a) ≤ℤ (c *ℤ b) → pos 0 ≤ℤ (power (c *ℤ d) 6) →
    AreWithin 1 e f (pos m) → 1 ≤ ms → rate_of 1 e ms m ≤ v → bernstein 7 f a c ≡ pos 5040 *ℤ x → bernstein 7 f b d ≡ pos 5040 *ℤ y →
    IsWithin (pos (v * ms) *ℤ ((c *ℤ b -ℤ d *ℤ a) *ℤ power (c *ℤ d) 6)) (pos 1000000 *ℤ (power c 7 *ℤ y -ℤ power d 7 *ℤ x))
unfolding units time
in_curve e v m ms f a c b d x y a_low a_high b_low b_high order even flat lasting slow first second =
    let one : 1 * e ≡ e = omega arith in
    in_units 1 e ms m v 1000000 7 1 5040 ms ((c *ℤ b -ℤ d *ℤ a) *ℤ power (c *ℤ d) 6) (pos (2 ^ e) *ℤ ((c *ℤ b -ℤ d *ℤ a) *ℤ (power (c *ℤ d) 6 *ℤ pos m))) _ _ (some_time 1 ms (lit< tt, lit< tt) lasting) slow refl refl refl
    (mul_not_negative (c *ℤ b -ℤ d *ℤ a) (power (c *ℤ d) 6) (omega (arith, linear)) even)
    (rw one (room_ring (pos (2 ^ e)) (c *ℤ b -ℤ d *ℤ a) (power (c *ℤ d) 6) (pos m)))
    (value_ring (pos 1000000) (pos (2 ^ (7 * e))) (pos 5040) (power c 7) y (power d 7) x)
    (within_same refl (ap (λ (z : ℤ). pos (2 ^ (7 * e)) *ℤ (power c 7 *ℤ z -ℤ power d 7 *ℤ bernstein 7 f a c)) second ∙ ap (λ (z : ℤ). pos (2 ^ (7 * e)) *ℤ (power c 7 *ℤ (pos 5040 *ℤ y) -ℤ power d 7 *ℤ z)) first)
    (steep_between e f (pos m) a c b d a_low a_high b_low b_high order flat))

-- ---- a trajectory on an axis
-- On an axis no part of a depth of a piece is faster than v.
pub record AreSlow (e v : ℕ) (start : ℤ) (pieces : List Piece) : Type 0 where
  pub formed : All IsPiece pieces
  pub width : ℕ → ℕ
  pub flat : (cue : ℕ) → cue < length pieces → AreWithin 1 e (at (raised (points start pieces cue))) (pos (width cue))
  pub lasts : (cue : ℕ) → cue < length pieces → 1 ≤ get_or (durations pieces) cue 0
  pub slow : (cue : ℕ) → cue < length pieces → rate_of 1 e (get_or (durations pieces) cue 0) (width cue) ≤ v

-- the position in a piece
abbrev pub place : ℤ → List Piece → ℕ → ℕ → ℕ → ℤ
place start pieces cue a c = decoded start pieces (record { cue = cue; a = a; c = c })

-- The value of a raised curve is 5,040 times the position.
pub piece_value : (start : ℤ) (pieces : List Piece) (cue a c : ℕ) → All IsPiece pieces → cue < length pieces →
    bernstein 7 (at (raised (points start pieces cue))) (pos a) (pos c) ≡ pos 5040 *ℤ place start pieces cue a c
unfolding decoded
piece_value start pieces cue a c formed inside =
    let count : (1 ≤ length (points start pieces cue)) × (length (points start pieces cue) ≤ 8) = points-count start pieces cue formed inside in
    raise (points start pieces cue) (length (points start pieces cue)) (pos a) (pos c) refl count.0 count.1

-- a power of what is not negative is not negative
pub power_low : (c : ℤ) (n : ℕ) → pos 0 ≤ℤ c → pos 0 ≤ℤ power c n
power_low c zero low = omega (arith, ints)
power_low c (suc n) low = omega (arith, linear, le_mul_ℤ c (pos 0) (power c n) low (power_low c n low), mul_comm_ℤ c (pos 0), zero_mul_ℤ c)

-- between two instants of one piece
in_piece : (e v : ℕ) (start : ℤ) (pieces : List Piece) (cue a c b d : ℕ) → AreSlow e v start pieces → cue < length pieces → a ≤ c → b ≤ d → d * a ≤ c * b →
    IsWithin (pos (v * get_or (durations pieces) cue 0) *ℤ ((pos c *ℤ pos b -ℤ pos d *ℤ pos a) *ℤ power (pos c *ℤ pos d) 6))
    (pos 1000000 *ℤ (power (pos c) 7 *ℤ place start pieces cue b d -ℤ power (pos d) 7 *ℤ place start pieces cue a c))
in_piece e v start pieces cue a c b d slow inside first second order =
    in_curve e v (slow.width cue) (get_or (durations pieces) cue 0) (at (raised (points start pieces cue))) (pos a) (pos c) (pos b) (pos d) (place start pieces cue a c) (place start pieces cue b d)
    (omega (arith, ints)) (omega (arith, ints)) (omega (arith, ints)) (omega (arith, ints)) (omega (arith, ints, order)) (power_low (pos c *ℤ pos d) 6 (omega (arith, ints)))
    (slow.flat cue inside) (slow.lasts cue inside) (slow.slow cue inside) (piece_value start pieces cue a c slow.formed inside) (piece_value start pieces cue b d slow.formed inside)

-- the first and the last value of a piece
abbrev first_of_piece : ℤ → List Piece → ℕ → ℤ
first_of_piece start pieces cue = at (points start pieces cue) 0

abbrev last_of_piece : ℤ → List Piece → ℕ → ℤ
last_of_piece start pieces cue = at (points start pieces cue) (length (points start pieces cue) - 1)

-- from an instant to the end of its piece
to_end : (e v : ℕ) (start : ℤ) (pieces : List Piece) (cue a c : ℕ) → AreSlow e v start pieces → cue < length pieces → a ≤ c →
    IsWithin (pos (v * get_or (durations pieces) cue 0) *ℤ ((pos c -ℤ pos a) *ℤ power (pos c) 6))
    (pos 1000000 *ℤ (power (pos c) 7 *ℤ last_of_piece start pieces cue -ℤ place start pieces cue a c))
to_end e v start pieces cue a c slow inside before =
    let ended : place start pieces cue 1 1 ≡ last_of_piece start pieces cue = decoded-at_end start pieces cue 1 slow.formed inside ∙ one_mul_ℤ (last_of_piece start pieces cue) in
    within_same
    (ap (λ (z : ℤ). pos (v * get_or (durations pieces) cue 0) *ℤ z) (same_product (ones (pos c) (pos a)) (ap (λ (z : ℤ). power z 6) (times_one (pos c)))))
    (ap (λ (z : ℤ). pos 1000000 *ℤ z) (minus_same (ap (λ (z : ℤ). power (pos c) 7 *ℤ z) ended) (one_mul_ℤ (place start pieces cue a c))))
    (in_piece e v start pieces cue a c 1 1 slow inside before (omega arith) (omega arith))
  where
    ones : (c a : ℤ) → c *ℤ pos 1 -ℤ pos 1 *ℤ a ≡ c -ℤ a
    ones c a = omega (arith, linear, mul_comm_ℤ c (pos 1), one_mul_ℤ c, one_mul_ℤ a)

    times_one : (c : ℤ) → c *ℤ pos 1 ≡ c
    times_one c = omega (arith, linear, mul_comm_ℤ c (pos 1), one_mul_ℤ c)

-- from the beginning of a piece to one of its instants
from_start : (e v : ℕ) (start : ℤ) (pieces : List Piece) (cue b d : ℕ) → AreSlow e v start pieces → cue < length pieces → b ≤ d →
    IsWithin (pos (v * get_or (durations pieces) cue 0) *ℤ (pos b *ℤ power (pos d) 6))
    (pos 1000000 *ℤ (place start pieces cue b d -ℤ power (pos d) 7 *ℤ first_of_piece start pieces cue))
from_start e v start pieces cue b d slow inside before =
    let begun : place start pieces cue 0 1 ≡ first_of_piece start pieces cue = decoded-at_start start pieces cue 1 slow.formed inside ∙ one_mul_ℤ (first_of_piece start pieces cue) in
    within_same
    (ap (λ (z : ℤ). pos (v * get_or (durations pieces) cue 0) *ℤ z) (same_product (ones (pos d) (pos b)) (ap (λ (z : ℤ). power z 6) (one_mul_ℤ (pos d)))))
    (ap (λ (z : ℤ). pos 1000000 *ℤ z) (minus_same (one_mul_ℤ (place start pieces cue b d)) (ap (λ (z : ℤ). power (pos d) 7 *ℤ z) begun)))
    (in_piece e v start pieces cue 0 1 b d slow inside (omega arith) before (omega arith))
  where
    ones : (d b : ℤ) → pos 1 *ℤ b -ℤ d *ℤ pos 0 ≡ b
    ones d b = omega (arith, linear, one_mul_ℤ b, mul_comm_ℤ d (pos 0), zero_mul_ℤ d)

-- from one end of a piece to the other
through : (e v : ℕ) (start : ℤ) (pieces : List Piece) (cue : ℕ) → AreSlow e v start pieces → cue < length pieces →
    IsWithin (pos (v * get_or (durations pieces) cue 0)) (pos 1000000 *ℤ (last_of_piece start pieces cue -ℤ first_of_piece start pieces cue))
through e v start pieces cue slow inside =
    let ended : place start pieces cue 1 1 ≡ last_of_piece start pieces cue = decoded-at_end start pieces cue 1 slow.formed inside ∙ one_mul_ℤ (last_of_piece start pieces cue) in
    within_same
    (mul_comm_ℤ (pos (v * get_or (durations pieces) cue 0)) (pos 1) ∙ one_mul_ℤ (pos (v * get_or (durations pieces) cue 0)))
    (ap (λ (z : ℤ). pos 1000000 *ℤ z) (minus_same ended (one_mul_ℤ (first_of_piece start pieces cue))))
    (from_start e v start pieces cue 1 1 slow inside (omega arith))

-- from the beginning of a piece to that of a later one
along_pieces : (e v : ℕ) (start : ℤ) (pieces : List Piece) (i n : ℕ) → AreSlow e v start pieces → i + n < length pieces →
    IsWithin (pos v *ℤ (pos (time_before (durations pieces) (i + n)) -ℤ pos (time_before (durations pieces) i)))
    (pos 1000000 *ℤ (first_of_piece start pieces (i + n) -ℤ first_of_piece start pieces i))
along_pieces e v start pieces i zero slow inside = grind (arith, common_steps, ints, first_of_piece, pos, within_same, mul_comm_ℤ, zero_mul_ℤ)
along_pieces e v start pieces i (suc n) slow inside =
    let up : i + suc n ≡ suc (i + n) = omega arith in
    let here : i + n < length pieces = omega arith in
    let before : time_before (durations pieces) (suc (i + n)) ≡ time_before (durations pieces) (i + n) + get_or (durations pieces) (i + n) 0 =
    time_before-suc (durations pieces) (i + n) (omega (arith, length-map pieces (λ (piece : Piece). piece.ms))) in
    let joined : first_of_piece start pieces (suc (i + n)) ≡ last_of_piece start pieces (i + n) = points-joined start pieces (i + n) (omega arith) in
    rw (up, before, joined)
    (within_same (times v (time_before (durations pieces) (i + n)) (get_or (durations pieces) (i + n) 0) (time_before (durations pieces) i))
    (values (first_of_piece start pieces (i + n)) (last_of_piece start pieces (i + n)) (first_of_piece start pieces i))
    (within_add _ _ _ _ (along_pieces e v start pieces i n slow here) (through e v start pieces (i + n) slow here)))
  where
    times : (v t ms s : ℕ) → pos v *ℤ (pos t -ℤ pos s) +ℤ pos (v * ms) ≡ pos v *ℤ (pos (t + ms) -ℤ pos s)
    times v t ms s = omega (arith, linear, mul_add_ℤ (pos v) (pos t -ℤ pos s) (pos ms), product v ms, ap (λ (z : ℤ). pos v *ℤ z) (longer t ms s))
      where
        product : (v ms : ℕ) → pos v *ℤ pos ms ≡ pos (v * ms)
        product v ms = omega (arith, ints)

        longer : (t ms s : ℕ) → (pos t -ℤ pos s) +ℤ pos ms ≡ pos (t + ms) -ℤ pos s
        longer t ms s = omega (arith, ints)

    values : (x y z : ℤ) → pos 1000000 *ℤ (x -ℤ z) +ℤ pos 1000000 *ℤ (y -ℤ x) ≡ pos 1000000 *ℤ (y -ℤ z)
    values x y z = omega (arith, linear)

-- ---- two instants of a trajectory
-- what is promised of two instants p / q and r / s at their moments
abbrev within_speed : (v : ℕ) (start : ℤ) (pieces : List Piece) (p q r s : ℕ) (m n : Moment) → Type 0
within_speed v start pieces p q r s m n =
    IsWithin (pos v *ℤ ((pos (r * q) -ℤ pos (p * s)) *ℤ (power (pos m.c) 7 *ℤ power (pos n.c) 7)))
    (pos (1000000 * (q * s)) *ℤ (power (pos m.c) 7 *ℤ decoded start pieces n -ℤ power (pos n.c) 7 *ℤ decoded start pieces m))

end_ring : (q v ms x w : ℤ) → q *ℤ ((v *ℤ ms) *ℤ (x *ℤ w)) ≡ v *ℤ (x *ℤ ((q *ℤ ms) *ℤ w))
end_ring q v ms x w = simp ring refl

combine_bound : (v p q r s t u k l : ℤ) →
    (s *ℤ l) *ℤ (v *ℤ ((q *ℤ t -ℤ p) *ℤ k)) +ℤ ((q *ℤ s) *ℤ (k *ℤ l)) *ℤ (v *ℤ (u -ℤ t)) +ℤ (q *ℤ k) *ℤ (v *ℤ ((r -ℤ s *ℤ u) *ℤ l))
    ≡ v *ℤ ((r *ℤ q -ℤ p *ℤ s) *ℤ (k *ℤ l))
combine_bound v p q r s t u k l = simp ring (omega (arith, linear))

combine_value : (w q s k l x y e f : ℤ) →
    (s *ℤ l) *ℤ (q *ℤ (w *ℤ (k *ℤ e -ℤ x))) +ℤ ((q *ℤ s) *ℤ (k *ℤ l)) *ℤ (w *ℤ (f -ℤ e)) +ℤ (q *ℤ k) *ℤ (s *ℤ (w *ℤ (y -ℤ l *ℤ f)))
    ≡ (w *ℤ (q *ℤ s)) *ℤ (k *ℤ y -ℤ l *ℤ x)
combine_value w q s k l x y e f = simp ring (omega (arith, linear))

pub product_of : (m n : ℕ) → pos m *ℤ pos n ≡ pos (m * n)
product_of m n = omega (arith, ints)

-- three bounds, each multiplied, make one
three_within : (i j k l m n x y z : ℤ) → pos 0 ≤ℤ i → pos 0 ≤ℤ j → pos 0 ≤ℤ k → IsWithin l x → IsWithin m y → IsWithin n z →
    IsWithin (i *ℤ l +ℤ j *ℤ m +ℤ k *ℤ n) (i *ℤ x +ℤ j *ℤ y +ℤ k *ℤ z)
three_within i j k l m n x y z i_low j_low k_low first second third =
    within_add _ _ _ _ (within_add _ _ _ _ (within_mul i l x i_low first) (within_mul j m y j_low second)) (within_mul k n z k_low third)

-- over numbers alone: the piece of the first instant ends at t, and that of the second begins at u
apart_in_time : (v p q r s t u ms ms' a b c d : ℕ) (x y e f : ℤ) → c ≡ q * ms → d ≡ s * ms' → p + (c - a) ≡ q * t → a ≤ c → r ≡ s * u + b →
    IsWithin (pos (v * ms) *ℤ ((pos c -ℤ pos a) *ℤ power (pos c) 6)) (pos 1000000 *ℤ (power (pos c) 7 *ℤ e -ℤ x)) →
    IsWithin (pos v *ℤ (pos u -ℤ pos t)) (pos 1000000 *ℤ (f -ℤ e)) →
    IsWithin (pos (v * ms') *ℤ (pos b *ℤ power (pos d) 6)) (pos 1000000 *ℤ (y -ℤ power (pos d) 7 *ℤ f)) →
    IsWithin (pos v *ℤ ((pos (r * q) -ℤ pos (p * s)) *ℤ (power (pos c) 7 *ℤ power (pos d) 7))) (pos (1000000 * (q * s)) *ℤ (power (pos c) 7 *ℤ y -ℤ power (pos d) 7 *ℤ x))
apart_in_time v p q r s t u ms ms' a b c d x y e f c_is d_is ended before begun first second third =
    let k : ℤ = power (pos c) 7 in
    let l : ℤ = power (pos d) 7 in
    let k_low : pos 0 ≤ℤ k = power_low (pos c) 7 (omega (arith, ints)) in
    let l_low : pos 0 ≤ℤ l = power_low (pos d) 7 (omega (arith, ints)) in
    let first_all : IsWithin (pos v *ℤ ((pos q *ℤ pos t -ℤ pos p) *ℤ k)) (pos q *ℤ (pos 1000000 *ℤ (k *ℤ e -ℤ x))) =
    within_same (at_scale q v ms c (pos c -ℤ pos a) (power (pos c) 6) c_is ∙ ap (λ (z : ℤ). pos v *ℤ (z *ℤ k)) (left_over p q t a c ended before)) refl (within_mul (pos q) _ _ (omega (arith, ints)) first) in
    let third_all : IsWithin (pos v *ℤ ((pos r -ℤ pos s *ℤ pos u) *ℤ l)) (pos s *ℤ (pos 1000000 *ℤ (y -ℤ l *ℤ f))) =
    within_same (at_scale s v ms' d (pos b) (power (pos d) 6) d_is ∙ ap (λ (z : ℤ). pos v *ℤ (z *ℤ l)) (gone r s u b begun)) refl (within_mul (pos s) _ _ (omega (arith, ints)) third) in
    within_same
    (combine_bound (pos v) (pos p) (pos q) (pos r) (pos s) (pos t) (pos u) k l ∙ ap (λ (z : ℤ). pos v *ℤ (z *ℤ (k *ℤ l))) (minus_same (product_of r q) (product_of p s)))
    (combine_value (pos 1000000) (pos q) (pos s) k l x y e f ∙ ap (λ (z : ℤ). z *ℤ (k *ℤ y -ℤ l *ℤ x)) (counted q s))
    (three_within (pos s *ℤ l) ((pos q *ℤ pos s) *ℤ (k *ℤ l)) (pos q *ℤ k) _ _ _ _ _ _
    (mul_not_negative (pos s) l (omega (arith, ints)) l_low)
    (mul_not_negative (pos q *ℤ pos s) (k *ℤ l) (omega (arith, ints)) (mul_not_negative k l k_low l_low))
    (mul_not_negative (pos q) k (omega (arith, ints)) k_low)
    first_all second third_all)
  where
    at_scale : (q v ms c : ℕ) (x w : ℤ) → c ≡ q * ms → pos q *ℤ (pos (v * ms) *ℤ (x *ℤ w)) ≡ pos v *ℤ (x *ℤ (pos c *ℤ w))
    at_scale q v ms c x w is =
        ap (λ (z : ℤ). pos q *ℤ (z *ℤ (x *ℤ w))) (sym (product_of v ms)) ∙ end_ring (pos q) (pos v) (pos ms) x w
        ∙ ap (λ (z : ℤ). pos v *ℤ (x *ℤ (z *ℤ w))) (product_of q ms ∙ ap (λ (n : ℕ). pos n) (sym is))

    left_over : (p q t a c : ℕ) → p + (c - a) ≡ q * t → a ≤ c → pos c -ℤ pos a ≡ pos q *ℤ pos t -ℤ pos p
    left_over p q t a c ended before = omega (arith, ints, ended)

    gone : (r s u b : ℕ) → r ≡ s * u + b → pos b ≡ pos r -ℤ pos s *ℤ pos u
    gone r s u b begun = omega (arith, ints, begun)

    counted : (q s : ℕ) → pos 1000000 *ℤ (pos q *ℤ pos s) ≡ pos (1000000 * (q * s))
    counted q s = omega (arith, ints)

-- the first instant lies in an earlier piece than the second
in_later_piece : (e v : ℕ) (start : ℤ) (pieces : List Piece) (p q r s i n : ℕ) → AreSlow e v start pieces → i + suc n < length pieces →
    q * time_before (durations pieces) i ≤ p → p ≤ q * time_before (durations pieces) (suc i) → s * time_before (durations pieces) (i + suc n) ≤ r → r ≤ s * time_before (durations pieces) (suc (i + suc n)) →
    within_speed v start pieces p q r s
    (record { cue = i; a = p - q * time_before (durations pieces) i; c = q * get_or (durations pieces) i 0 })
    (record { cue = i + suc n; a = r - s * time_before (durations pieces) (i + suc n); c = s * get_or (durations pieces) (i + suc n) 0 })
in_later_piece e v start pieces p q r s i n slow inside p_from p_to r_from r_to =
    let times : List ℕ = durations pieces in
    let up : i + suc n ≡ suc i + n = omega arith in
    let here : i < length pieces = omega arith in
    let first_ends : time_before times (suc i) ≡ time_before times i + get_or times i 0 = time_before-suc times i (omega (arith, length-map pieces (λ (piece : Piece). piece.ms))) in
    let second_ends : time_before times (suc (i + suc n)) ≡ time_before times (i + suc n) + get_or times (i + suc n) 0 = time_before-suc times (i + suc n) (omega (arith, length-map pieces (λ (piece : Piece). piece.ms))) in
    let p_before : p ≤ q * time_before times i + q * get_or times i 0 = omega (arith, ap (λ (t : ℕ). q * t) first_ends, spread q (time_before times i) (get_or times i 0)) in
    let r_before : r ≤ s * time_before times (i + suc n) + s * get_or times (i + suc n) 0 =
    omega (arith, ap (λ (t : ℕ). s * t) second_ends, spread s (time_before times (i + suc n)) (get_or times (i + suc n) 0)) in
    apart_in_time v p q r s (time_before times (suc i)) (time_before times (i + suc n)) (get_or times i 0) (get_or times (i + suc n) 0)
    (p - q * time_before times i) (r - s * time_before times (i + suc n)) (q * get_or times i 0) (s * get_or times (i + suc n) 0)
    (decoded start pieces (record { cue = i; a = p - q * time_before times i; c = q * get_or times i 0 }))
    (decoded start pieces (record { cue = i + suc n; a = r - s * time_before times (i + suc n); c = s * get_or times (i + suc n) 0 }))
    (last_of_piece start pieces i) (first_of_piece start pieces (i + suc n)) refl refl
    (omega (arith, ap (λ (t : ℕ). q * t) first_ends, spread q (time_before times i) (get_or times i 0))) (omega arith) (omega arith)
    (to_end e v start pieces i (p - q * time_before times i) (q * get_or times i 0) slow here (omega arith))
    (within_same (ap (λ (k : ℕ). pos v *ℤ (pos (time_before times k) -ℤ pos (time_before times (suc i)))) (sym up))
    (ap (λ (k : ℕ). pos 1000000 *ℤ (first_of_piece start pieces k -ℤ first_of_piece start pieces (suc i))) (sym up)
    ∙ ap (λ (z : ℤ). pos 1000000 *ℤ (first_of_piece start pieces (i + suc n) -ℤ z)) (points-joined start pieces i (omega arith)))
    (along_pieces e v start pieces (suc i) n slow (omega arith)))
    (from_start e v start pieces (i + suc n) (r - s * time_before times (i + suc n)) (s * get_or times (i + suc n) 0) slow inside (omega arith))
  where
    spread : (q t ms : ℕ) → q * (t + ms) ≡ q * t + q * ms
    spread q t ms = omega arith

-- ---- both instants in one piece
same_ring : (v ms q s a b w : ℤ) → (q *ℤ s) *ℤ ((v *ℤ ms) *ℤ (((q *ℤ ms) *ℤ b -ℤ (s *ℤ ms) *ℤ a) *ℤ w)) ≡ v *ℤ ((q *ℤ b -ℤ s *ℤ a) *ℤ (((q *ℤ ms) *ℤ (s *ℤ ms)) *ℤ w))
same_ring v ms q s a b w = simp ring (omega (arith, linear))

-- over numbers alone: the piece begins at t
at_one_piece : (v p q r s t ms a b c d : ℕ) (x y : ℤ) → c ≡ q * ms → d ≡ s * ms → p ≡ q * t + a → r ≡ s * t + b →
    IsWithin (pos (v * ms) *ℤ ((pos c *ℤ pos b -ℤ pos d *ℤ pos a) *ℤ power (pos c *ℤ pos d) 6)) (pos 1000000 *ℤ (power (pos c) 7 *ℤ y -ℤ power (pos d) 7 *ℤ x)) →
    IsWithin (pos v *ℤ ((pos (r * q) -ℤ pos (p * s)) *ℤ (power (pos c) 7 *ℤ power (pos d) 7))) (pos (1000000 * (q * s)) *ℤ (power (pos c) 7 *ℤ y -ℤ power (pos d) 7 *ℤ x))
at_one_piece v p q r s t ms a b c d x y c_is d_is p_is r_is within =
    within_same
    (ap (λ (z : ℤ). (pos q *ℤ pos s) *ℤ (z *ℤ ((pos c *ℤ pos b -ℤ pos d *ℤ pos a) *ℤ power (pos c *ℤ pos d) 6))) (sym (product_of v ms))
    ∙ ap (λ (z : ℤ). (pos q *ℤ pos s) *ℤ ((pos v *ℤ pos ms) *ℤ ((z *ℤ pos b -ℤ pos d *ℤ pos a) *ℤ power (pos c *ℤ pos d) 6))) c_in
    ∙ ap (λ (z : ℤ). (pos q *ℤ pos s) *ℤ ((pos v *ℤ pos ms) *ℤ (((pos q *ℤ pos ms) *ℤ pos b -ℤ z *ℤ pos a) *ℤ power (pos c *ℤ pos d) 6))) d_in
    ∙ same_ring (pos v) (pos ms) (pos q) (pos s) (pos a) (pos b) (power (pos c *ℤ pos d) 6)
    ∙ ap (λ (z : ℤ). pos v *ℤ ((pos q *ℤ pos b -ℤ pos s *ℤ pos a) *ℤ (z *ℤ power (pos c *ℤ pos d) 6))) (same_product (sym c_in) (sym d_in))
    ∙ ap (λ (z : ℤ). pos v *ℤ ((pos q *ℤ pos b -ℤ pos s *ℤ pos a) *ℤ z)) (power-mul (pos c) (pos d) 7)
    ∙ ap (λ (z : ℤ). pos v *ℤ (z *ℤ (power (pos c) 7 *ℤ power (pos d) 7))) (times p q r s t a b p_is r_is))
    (sym (mul_assoc_ℤ (pos q *ℤ pos s) (pos 1000000) (power (pos c) 7 *ℤ y -ℤ power (pos d) 7 *ℤ x)) ∙ ap (λ (z : ℤ). z *ℤ (power (pos c) 7 *ℤ y -ℤ power (pos d) 7 *ℤ x)) (counted q s))
    (within_mul (pos q *ℤ pos s) _ _ (omega (arith, ints)) within)
  where
    c_in : pos c ≡ pos q *ℤ pos ms
    c_in = ap (λ (n : ℕ). pos n) c_is ∙ sym (product_of q ms)

    d_in : pos d ≡ pos s *ℤ pos ms
    d_in = ap (λ (n : ℕ). pos n) d_is ∙ sym (product_of s ms)

    times : (p q r s t a b : ℕ) → p ≡ q * t + a → r ≡ s * t + b → pos q *ℤ pos b -ℤ pos s *ℤ pos a ≡ pos (r * q) -ℤ pos (p * s)
    times p q r s t a b p_is r_is = omega (arith, ints, ap (λ (n : ℕ). n * s) p_is, ap (λ (n : ℕ). n * q) r_is)

    counted : (q s : ℕ) → (pos q *ℤ pos s) *ℤ pos 1000000 ≡ pos (1000000 * (q * s))
    counted q s = omega (arith, ints)

in_same_piece : (e v : ℕ) (start : ℤ) (pieces : List Piece) (p q r s i : ℕ) → AreSlow e v start pieces → i < length pieces →
    q * time_before (durations pieces) i ≤ p → p ≤ q * time_before (durations pieces) (suc i) → s * time_before (durations pieces) i ≤ r → r ≤ s * time_before (durations pieces) (suc i) →
    p * s ≤ r * q →
    within_speed v start pieces p q r s
    (record { cue = i; a = p - q * time_before (durations pieces) i; c = q * get_or (durations pieces) i 0 })
    (record { cue = i; a = r - s * time_before (durations pieces) i; c = s * get_or (durations pieces) i 0 })
in_same_piece e v start pieces p q r s i slow inside p_from p_to r_from r_to order =
    let times : List ℕ = durations pieces in
    let ends : time_before times (suc i) ≡ time_before times i + get_or times i 0 = time_before-suc times i (omega (arith, length-map pieces (λ (piece : Piece). piece.ms))) in
    let p_before : p ≤ q * time_before times i + q * get_or times i 0 = omega (arith, ap (λ (t : ℕ). q * t) ends, spread q (time_before times i) (get_or times i 0)) in
    let r_before : r ≤ s * time_before times i + s * get_or times i 0 = omega (arith, ap (λ (t : ℕ). s * t) ends, spread s (time_before times i) (get_or times i 0)) in
    at_one_piece v p q r s (time_before times i) (get_or times i 0) (p - q * time_before times i) (r - s * time_before times i) (q * get_or times i 0) (s * get_or times i 0)
    (decoded start pieces (record { cue = i; a = p - q * time_before times i; c = q * get_or times i 0 }))
    (decoded start pieces (record { cue = i; a = r - s * time_before times i; c = s * get_or times i 0 })) refl refl (omega arith) (omega arith)
    (in_piece e v start pieces i (p - q * time_before times i) (q * get_or times i 0) (r - s * time_before times i) (s * get_or times i 0) slow inside (omega arith) (omega arith)
    (crossed p q r s (time_before times i) (get_or times i 0) (p - q * time_before times i) (r - s * time_before times i) (omega arith) (omega arith) order))
  where
    spread : (q t ms : ℕ) → q * (t + ms) ≡ q * t + q * ms
    spread q t ms = omega arith

    crossed : (p q r s t ms a b : ℕ) → p ≡ q * t + a → r ≡ s * t + b → p * s ≤ r * q → s * ms * a ≤ q * ms * b
    crossed p q r s t ms a b p_is r_is order =
        let less : s * a ≤ q * b = omega (arith, ap (λ (n : ℕ). n * s) p_is, ap (λ (n : ℕ). n * q) r_is) in
        scaled (s * a) (q * b) ms less (swap s ms a) (swap q ms b)
      where
        swap : (s ms a : ℕ) → s * ms * a ≡ ms * (s * a)
        swap s ms a = omega arith

        scaled : (x y ms : ℕ) {x' y' : ℕ} → x ≤ y → x' ≡ ms * x → y' ≡ ms * y → x' ≤ y'
        scaled x y ms {x'} {y'} less first second = rw (first, second) (grow x y ms less)
          where
            grow : (x y ms : ℕ) → x ≤ y → ms * x ≤ ms * y
            grow x y ms less = grind arith

-- ---- all instants
swap_minus : (x y : ℤ) → x -ℤ y ≡ neg_ℤ (y -ℤ x)
swap_minus x y = omega (arith, linear)

-- what is promised of two instants, as it is written
abbrev pub Within : (v : ℕ) (start : ℤ) (pieces : List Piece) (p q r s : ℕ) (m n : Moment) → Type 0
Within v start pieces p q r s m n =
    (pos (1000000 * (q * s)) *ℤ pos (unsigned_abs (power (pos m.c) 7 *ℤ decoded start pieces n -ℤ power (pos n.c) 7 *ℤ decoded start pieces m)))
    ≤ℤ (pos (v * unsigned_abs (pos (r * q) -ℤ pos (p * s))) *ℤ (power (pos m.c) 7 *ℤ power (pos n.c) 7))

absolute : (n : ℕ) (b x : ℤ) → IsWithin b (pos n *ℤ x) → (pos n *ℤ pos (unsigned_abs x)) ≤ℤ b
absolute n b (pos k) within = within.1
absolute n b (negsuc k) within = omega (arith, linear, within.0, mul_neg_ℤ (pos n) (pos (suc k)))

time_at_most : (x : ℤ) → x ≤ℤ pos (unsigned_abs x)
time_at_most x = omega (arith, ints)

told : (v p q r s : ℕ) (start : ℤ) (pieces : List Piece) (m n : Moment) → within_speed v start pieces p q r s m n → Within v start pieces p q r s m n
told v p q r s start pieces m n within =
    let t : ℤ = pos (r * q) -ℤ pos (p * s) in
    let k : ℤ = power (pos m.c) 7 *ℤ power (pos n.c) 7 in
    let k_low : pos 0 ≤ℤ k = mul_not_negative (power (pos m.c) 7) (power (pos n.c) 7) (power_low (pos m.c) 7 (omega (arith, ints))) (power_low (pos n.c) 7 (omega (arith, ints))) in
    let more : (k *ℤ t) ≤ℤ (k *ℤ pos (unsigned_abs t)) = le_mul_ℤ k t (pos (unsigned_abs t)) k_low (time_at_most t) in
    let most : (pos v *ℤ (k *ℤ t)) ≤ℤ (pos v *ℤ (k *ℤ pos (unsigned_abs t))) = le_mul_pos v (k *ℤ t) (k *ℤ pos (unsigned_abs t)) more in
    let least : (pos (1000000 * (q * s)) *ℤ pos (unsigned_abs (power (pos m.c) 7 *ℤ decoded start pieces n -ℤ power (pos n.c) 7 *ℤ decoded start pieces m))) ≤ℤ (pos v *ℤ (t *ℤ k)) =
    absolute (1000000 * (q * s)) (pos v *ℤ (t *ℤ k)) (power (pos m.c) 7 *ℤ decoded start pieces n -ℤ power (pos n.c) 7 *ℤ decoded start pieces m) within in
    omega (arith, linear, least, most, ap (λ (z : ℤ). pos v *ℤ z) (mul_comm_ℤ t k), spread v (unsigned_abs t) k)
  where
    spread : (v t : ℕ) (k : ℤ) → pos (v * t) *ℤ k ≡ pos v *ℤ (k *ℤ pos t)
    spread v t k = ap (λ (z : ℤ). z *ℤ k) (sym (product_of v t)) ∙ mul_assoc_ℤ (pos v) (pos t) k ∙ ap (λ (z : ℤ). pos v *ℤ z) (mul_comm_ℤ (pos t) k)

unsigned-neg : (x : ℤ) → unsigned_abs (neg_ℤ x) ≡ unsigned_abs x
unsigned-neg x = omega (arith, ints)

-- the same with the instants exchanged
turned_numbers : (v q s a b : ℕ) (k l x y : ℤ) → (pos (1000000 * (s * q)) *ℤ pos (unsigned_abs (l *ℤ x -ℤ k *ℤ y))) ≤ℤ (pos (v * unsigned_abs (pos a -ℤ pos b)) *ℤ (l *ℤ k)) →
    (pos (1000000 * (q * s)) *ℤ pos (unsigned_abs (k *ℤ y -ℤ l *ℤ x))) ≤ℤ (pos (v * unsigned_abs (pos b -ℤ pos a)) *ℤ (k *ℤ l))
turned_numbers v q s a b k l x y within = grind (arith, common_steps, swap_minus, pos, unsigned-neg, mul_comm_ℤ)

turned : (v p q r s : ℕ) (start : ℤ) (pieces : List Piece) (m n : Moment) → Within v start pieces r s p q n m → Within v start pieces p q r s m n
turned v p q r s start pieces m n within =
    turned_numbers v q s (p * s) (r * q) (power (pos m.c) 7) (power (pos n.c) 7) (decoded start pieces m) (decoded start pieces n) within

-- the first instant lies in the same or in an earlier piece
in_order : (e v : ℕ) (start : ℤ) (pieces : List Piece) (p q r s i j : ℕ) → AreSlow e v start pieces → j < length pieces → i ≤ j →
    q * time_before (durations pieces) i ≤ p → p ≤ q * time_before (durations pieces) (suc i) → s * time_before (durations pieces) j ≤ r → r ≤ s * time_before (durations pieces) (suc j) →
    Within v start pieces p q r s
    (record { cue = i; a = p - q * time_before (durations pieces) i; c = q * get_or (durations pieces) i 0 })
    (record { cue = j; a = r - s * time_before (durations pieces) j; c = s * get_or (durations pieces) j 0 })
in_order e v start pieces p q r s i j slow inside order p_from p_to r_from r_to =
    by_lt i j
    (λ before.
    let j_is : i + suc (j - i - 1) ≡ j = omega arith in
    subst (λ (k : ℕ). Within v start pieces p q r s
    (record { cue = i; a = p - q * time_before (durations pieces) i; c = q * get_or (durations pieces) i 0 })
    (record { cue = k; a = r - s * time_before (durations pieces) k; c = s * get_or (durations pieces) k 0 })) j_is
    (told v p q r s start pieces _ _
    (in_later_piece e v start pieces p q r s i (j - i - 1) slow (rw j_is inside) p_from p_to (rw j_is r_from) (rw j_is r_to))))
    (λ not_before.
    let j_is : i ≡ j = omega arith in
    subst (λ (k : ℕ). Within v start pieces p q r s
    (record { cue = i; a = p - q * time_before (durations pieces) i; c = q * get_or (durations pieces) i 0 })
    (record { cue = k; a = r - s * time_before (durations pieces) k; c = s * get_or (durations pieces) k 0 })) j_is
    (same_piece i (rw j_is inside) p_from p_to (rw j_is r_from) (rw j_is r_to)))
  where
    same_piece : (i : ℕ) → i < length pieces → q * time_before (durations pieces) i ≤ p → p ≤ q * time_before (durations pieces) (suc i) → s * time_before (durations pieces) i ≤ r → r ≤ s * time_before (durations pieces) (suc i) →
        Within v start pieces p q r s
        (record { cue = i; a = p - q * time_before (durations pieces) i; c = q * get_or (durations pieces) i 0 })
        (record { cue = i; a = r - s * time_before (durations pieces) i; c = s * get_or (durations pieces) i 0 })
    same_piece i inside p_from p_to r_from r_to =
        by_lt (r * q) (p * s)
        (λ later. turned v p q r s start pieces _ _ (told v r s p q start pieces _ _ (in_same_piece e v start pieces r s p q i slow inside r_from r_to p_from p_to (omega arith))))
        (λ first. told v p q r s start pieces _ _ (in_same_piece e v start pieces p q r s i slow inside p_from p_to r_from r_to first))

-- Where no part is faster than v, the position changes by at most v times the time between each two instants.
pub keeps : (e v : ℕ) (start : ℤ) (pieces : List Piece) (p q r s : ℕ) → AreSlow e v start pieces → 1 ≤ length pieces → p ≤ q * sum (durations pieces) → r ≤ s * sum (durations pieces) →
    Within v start pieces p q r s (moment (durations pieces) p q) (moment (durations pieces) r s)
keeps e v start pieces p q r s slow some p_in r_in =
    let times : List ℕ = durations pieces in
    let first : Lies times p q (moment times p q) = moment-lies times p q (omega (arith, length-map pieces (λ (piece : Piece). piece.ms))) p_in in
    let second : Lies times r s (moment times r s) = moment-lies times r s (omega (arith, length-map pieces (λ (piece : Piece). piece.ms))) r_in in
    rw (first.is, second.is)
    (by_lt second.cue first.cue
    (λ later. turned v p q r s start pieces _ _ (in_order e v start pieces r s p q second.cue first.cue slow (omega (arith, length-map pieces (λ (piece : Piece). piece.ms), first.inside)) (omega arith) second.from second.to first.from first.to))
    (λ before. in_order e v start pieces p q r s first.cue second.cue slow (omega (arith, length-map pieces (λ (piece : Piece). piece.ms), second.inside)) before first.from first.to second.from second.to))
