-- The level: the floor of 1,000 times the left side over the right side.
use Rattle.touch_witness.proofs.Prelude.{common_steps, ◌≡◌, ℕ, ◌+◌, ◌*◌, ◌/◌, ◌%◌, ◌^◌, ◌≤◌, ◌<◌, ℤ, pos, ◌<ℤ◌, ◌+ℤ◌, ◌-ℤ◌, ◌*ℤ◌, ◌≤ℤ◌, unsigned_abs, arith, ap, sym, subst, ◌∙◌, pow-add, List, length, get_or, ints, unsigned_abs-mul, mul-le, div-le_of_le-mul, power, le_mul_pos, linear, IsWithin, power_pos, Point, IsIn, Segment, Traj, Touch, Best, cues_in, IsClosest, IsListed, LeftFrom, inl, FitsSigned, w128, IsBest, IsNear, left_side, most_ratio, right_side}
use Rattle.touch_witness.proofs.Least.{cues_are}

-- the level fits 64 bits
pub level_small : (left right : ℕ) → 1 ≤ right → left ≤ most_ratio * right → 1000 * (left / right) + 1000 * (left % right) / right ≤ 1000 * most_ratio + 1000
level_small left right some ratio =
    let rest : left % right < right = omega arith in
    let whole : left / right ≤ most_ratio = div-le_of_le-mul right (omega arith) in
    let part : 1000 * (left % right) / right ≤ 1000 = div-le_of_le-mul right (omega (arith, rest)) in
    omega (arith, whole, part)

square_near : (n : ℕ) (a b : ℤ) → IsWithin (pos n *ℤ pos 32768) a → IsWithin (pos n *ℤ pos 32768) b → ((b -ℤ a) *ℤ (b -ℤ a)) ≤ℤ pos (4294967296 * (n * n))
square_near n a b first second =
    let far : unsigned_abs (b -ℤ a) ≤ 65536 * n = omega (arith, ints, first.0, first.1, second.0, second.1) in
    let m : unsigned_abs ((b -ℤ a) *ℤ (b -ℤ a)) ≤ (65536 * n) * (65536 * n) =
    rw (unsigned_abs-mul (b -ℤ a) (b -ℤ a)) (mul-le (unsigned_abs (b -ℤ a)) (unsigned_abs (b -ℤ a)) (65536 * n) (65536 * n) far far) in
    at_most ((b -ℤ a) *ℤ (b -ℤ a)) (4294967296 * (n * n)) (let e : (65536 * n) * (65536 * n) ≡ 4294967296 * (n * n) = omega arith in omega (arith, m, e))
  where
    at_most : (x : ℤ) (m : ℕ) → unsigned_abs x ≤ m → x ≤ℤ pos m
    at_most x m few = omega (arith, ints)

weight : (k m : ℕ) (x : ℤ) → k ≤ 4000000 → x ≤ℤ pos m → (pos k *ℤ x) ≤ℤ pos (4000000 * m)
weight k m x few small = grind (arith, common_steps, ints, pos, mul-le, le_mul_pos)

axis_square : (r : ℕ) → r ≤ 2000 → r * r ≤ 4000000
axis_square r few = omega (arith, mul-le r r 2000 2000 few few)

area_four : (r h : ℕ) → 1 ≤ r → 1 ≤ h → 4 ≤ 4 * (r * r) * (h * h)
area_four r h r_some h_some = omega (arith, mul-le 4 1 (4 * (r * r)) (h * h) (omega (arith, mul-le 1 1 r r r_some r_some)) (mul-le 1 1 h h h_some h_some))

right_from : (r h fine : ℕ) → 1 ≤ r → 1 ≤ h → pos (4 * ((2 ^ fine) ^ 7 * (2 ^ fine) ^ 7)) ≤ℤ right_side r h fine
unfolding right_side
right_from r h fine r_some h_some =
    let e : power (pos (2 ^ fine)) 14 ≡ pos ((2 ^ fine) ^ 7 * (2 ^ fine) ^ 7) = power_pos (2 ^ fine) 14 ∙ ap (λ (n : ℕ). pos n) (pow-add (2 ^ fine) 7 7) in
    subst (λ (z : ℤ). pos (4 * ((2 ^ fine) ^ 7 * (2 ^ fine) ^ 7)) ≤ℤ (pos (4 * (r * r) * (h * h)) *ℤ z)) (sym e)
    (from (4 * (r * r) * (h * h)) ((2 ^ fine) ^ 7 * (2 ^ fine) ^ 7) (area_four r h r_some h_some))
  where
    from : (k m : ℕ) → 4 ≤ k → pos (4 * m) ≤ℤ (pos k *ℤ pos m)
    from k m some = omega (arith, ints, mul-le 4 m k m some (omega arith))

-- the left side is at most this many times the right side
pub left_near : (r h fine : ℕ) (p q : Point) → 1 ≤ r → r ≤ 2000 → 1 ≤ h → h ≤ 2000 → IsNear fine p → IsNear fine q → left_side r h p q ≤ℤ (pos most_ratio *ℤ right_side r h fine)
unfolding left_side
left_near r h fine p q r_some r_few h_some h_few first second =
    whole ((2 ^ fine) ^ 7 * (2 ^ fine) ^ 7) _ _ (right_side r h fine)
    (weight (h * h) (2 * (4294967296 * ((2 ^ fine) ^ 7 * (2 ^ fine) ^ 7))) _ (axis_square h h_few)
    (both _ _ (4294967296 * ((2 ^ fine) ^ 7 * (2 ^ fine) ^ 7)) (square_near ((2 ^ fine) ^ 7) p.x q.x first.x second.x) (square_near ((2 ^ fine) ^ 7) p.y q.y first.y second.y)))
    (weight (r * r) (4294967296 * ((2 ^ fine) ^ 7 * (2 ^ fine) ^ 7)) _ (axis_square r r_few) (square_near ((2 ^ fine) ^ 7) p.z q.z first.z second.z))
    (right_from r h fine r_some h_some)
  where
    both : (x y : ℤ) (m : ℕ) → x ≤ℤ pos m → y ≤ℤ pos m → (x +ℤ y) ≤ℤ pos (2 * m)
    both x y m x_small y_small = omega (arith, ints)

    whole : (s : ℕ) (u v right : ℤ) → u ≤ℤ pos (4000000 * (2 * (4294967296 * s))) → v ≤ℤ pos (4000000 * (4294967296 * s)) → pos (4 * s) ≤ℤ right → (u +ℤ v) ≤ℤ (pos most_ratio *ℤ right)
    whole s u v right u_small v_small some = omega (arith, linear, le_mul_pos most_ratio (pos (4 * s)) right some)

abs_is : (x : ℤ) → pos 0 ≤ℤ x → x ≡ pos (unsigned_abs x)
abs_is x some = omega (arith, ints)

-- the level as whole numbers with a sign
pub level_low : (n : ℕ) (x y : ℤ) → pos 0 ≤ℤ x → pos 0 ≤ℤ y → n * unsigned_abs y ≤ 1000 * unsigned_abs x → (pos n *ℤ y) ≤ℤ (pos 1000 *ℤ x)
level_low n x y x_some y_some low = grind (arith, common_steps, ints, pos, abs_is, unsigned_abs)

pub level_high : (n : ℕ) (x y : ℤ) → pos 0 ≤ℤ x → pos 0 ≤ℤ y → 1000 * unsigned_abs x < n * unsigned_abs y → (pos 1000 *ℤ x) <ℤ (pos n *ℤ y)
level_high n x y x_some y_some high = grind (arith, common_steps, ints, pos, abs_is, unsigned_abs)

pub some_told : (y : ℤ) → IsIn (pos 1) (pos (2 ^ 116)) y → pos 0 ≤ℤ y
some_told y inside = omega (arith, ints, inside.0)

-- the best after the last cue is the closest
pub closest_told : (trajs items : List Traj) (r h fine cue level : ℕ) (s : Best) (t0 : Traj) (segments : List Segment) (right : ℤ) → trajs ≡ items → t0 ≡ get_or trajs 0 t0 → segments ≡ t0.segments → 1 ≤ length trajs →
    length segments ≤ cue → IsBest trajs r h fine cue 0 s → right ≡ right_side r h fine → IsIn (pos 1) (pos (2 ^ 116)) right →
    level * unsigned_abs right ≤ 1000 * unsigned_abs s.left → 1000 * unsigned_abs s.left < (level + 1) * unsigned_abs right →
    IsClosest items r h fine (record { cue = s.site.cue; at = s.site.at; a = s.site.a; b = s.site.b; level = level })
unfolding right_side
closest_told trajs items r h fine cue level s t0 segments right same t0_is segments_are some past best right_is right_some low high =
    subst (λ (ts : List Traj). IsClosest ts r h fine (record { cue = s.site.cue; at = s.site.at; a = s.site.a; b = s.site.b; level = level })) same (record {
      left = s.left;
      among = record { cue = best.among.cue; at = best.among.at; pair = best.among.pair; drone = best.among.drone };
      is = best.is;
      least = λ u among. all u among;
      first = λ u among before. best.first u among before;
      level = subst (λ (z : ℤ). (pos level *ℤ z) ≤ℤ (pos 1000 *ℤ s.left)) right_is (level_low level s.left right best.small.0 (some_told right right_some) low);
      next_level = subst (λ (z : ℤ). (pos 1000 *ℤ s.left) <ℤ (pos (level + 1) *ℤ z)) right_is (level_high (level + 1) s.left right best.small.0 (some_told right right_some) high);
    })
  where
    all : (u : Touch) → IsListed trajs fine u → LeftFrom trajs r h fine u s.left
    all u among =
        let cues : cues_in trajs ≡ length t0.segments = cues_are trajs t0 t0_is some in
        let count : length segments ≡ length t0.segments = ap (λ (ss : List Segment). length ss) segments_are in
        best.least u among (inl (omega (arith, cues, count, past, among.cue)))

pub fits_116 : (x : ℤ) → IsIn (pos 1) (pos (2 ^ 116)) x → FitsSigned w128 x
fits_116 x inside = omega (arith, ints)
