-- From coefficients to distances: what two tests on a table of control points say of the distance from the centre.
use Rattle.definition_tests.proofs.Prelude.{◌≡◌, ℕ, zero, suc, ◌+◌, ◌-◌, ◌≤◌, ℤ, pos, negsuc, neg_ℤ, ◌+ℤ◌, ◌-ℤ◌, ◌*ℤ◌, ◌≤ℤ◌, Bool, true, false, List, [], ◌∷◌, length, map, arith, refl, sym, ap, ◌∙◌, ints, power, at, bern, bernstein, bernstein-same, bernstein-mix, linear, ring, le_mul_ℤ, mul_comm_ℤ, mul_zero_ℤ, length-map, exact_point, exact_points, square, circle, square_distance, KeepsRadius}
use Rattle.definition_tests.proofs.RadiusCoefficients.{value, plus, length-plus, value-plus, times, length-times, value-times, product, length-product, value-product, binomial, length-binomial, value-binomial, coefficients, length-coefficients, value-coefficients}
use Rattle.definition_tests.proofs.RadiusHalves.{is_never_negative, value-never_negative}

-- ---- the two polynomials that must not be negative
abbrev pub degree : List (ℕ × ℕ) → ℕ
degree table = length table - 1

-- how much of the way to the start is in each control point, and how much of the way to the end
abbrev pub starts : List (ℕ × ℕ) → List ℤ
starts table = map (λ (s : ℕ × ℕ). pos s.0) table

abbrev pub ends : List (ℕ × ℕ) → List ℤ
ends table = map (λ (s : ℕ × ℕ). pos s.1) table

-- the square of the distance from the centre, for a radius of 1
abbrev pub squares : List (ℕ × ℕ) → List ℤ
squares table =
    plus (product (coefficients (degree table) (at (starts table))) (coefficients (degree table) (at (starts table))))
    (product (coefficients (degree table) (at (ends table))) (coefficients (degree table) (at (ends table))))

-- the square of so many millionths
abbrev pub whole : ℕ → List (ℕ × ℕ) → List ℤ
whole n table = times (pos n *ℤ pos n) (product (binomial (degree table)) (binomial (degree table)))

abbrev pub outside : ℕ → List (ℕ × ℕ) → List ℤ
outside nearest table = plus (squares table) (times (negsuc 0) (whole nearest table))

abbrev pub inside : ℕ → List (ℕ × ℕ) → List ℤ
inside farthest table = plus (whole farthest table) (times (negsuc 0) (squares table))

-- ---- their lengths
length_product : (m : ℕ) (p q : List ℤ) → length p ≡ suc m → length (product p q) ≡ m + length q
length_product m [] q is = absurd (omega (arith, is))
length_product m (x ∷ p) q is = omega (arith, is, length-product x p q)

length_square : (m : ℕ) (p : List ℤ) → length p ≡ suc m → length (product p p) ≡ m + suc m
length_square m p is = omega (arith, is, length_product m p p is)

length_plus : (n : ℕ) (p q : List ℤ) → length p ≡ n → length q ≡ n → length (plus p q) ≡ n
length_plus n p q first second = omega (arith, first, second, length-plus p q (omega (arith, first, second)))

length_squares : (table : List (ℕ × ℕ)) → length (squares table) ≡ degree table + suc (degree table)
length_squares table =
    length_plus _ _ _ (length_square (degree table) _ (length-coefficients (degree table) (at (starts table))))
    (length_square (degree table) _ (length-coefficients (degree table) (at (ends table))))

length_whole : (n : ℕ) (table : List (ℕ × ℕ)) → length (whole n table) ≡ degree table + suc (degree table)
length_whole n table =
    length-times (pos n *ℤ pos n) (product (binomial (degree table)) (binomial (degree table)))
    ∙ length_square (degree table) (binomial (degree table)) (length-binomial (degree table))

-- ---- their values
abbrev start_share : List (ℕ × ℕ) → ℤ → ℤ → ℤ
start_share table a c = bernstein (degree table) (at (starts table)) a c

abbrev end_share : List (ℕ × ℕ) → ℤ → ℤ → ℤ
end_share table a c = bernstein (degree table) (at (ends table)) a c

cong_square : (f g : ℤ) → f ≡ g → f *ℤ f ≡ g *ℤ g
cong_square f g e = cc

cong_plus : (f g x y : ℤ) → f ≡ x → g ≡ y → f +ℤ g ≡ x +ℤ y
cong_plus f g x y first second = cc

value_squares : (table : List (ℕ × ℕ)) (a c : ℤ) →
    value (squares table) a (c -ℤ a) ≡ square (start_share table a c) +ℤ square (end_share table a c)
value_squares table a c =
    let p : List ℤ = coefficients (degree table) (at (starts table)) in
    let q : List ℤ = coefficients (degree table) (at (ends table)) in
    value-plus (product p p) (product q q) a (c -ℤ a)
    (length_square (degree table) p (length-coefficients (degree table) (at (starts table)))
    ∙ sym (length_square (degree table) q (length-coefficients (degree table) (at (ends table)))))
    ∙ cong_plus _ _ _ _
    (value-product p p a (c -ℤ a) ∙ cong_square _ _ (value-coefficients (degree table) (at (starts table)) a c))
    (value-product q q a (c -ℤ a) ∙ cong_square _ _ (value-coefficients (degree table) (at (ends table)) a c))

value_whole : (n : ℕ) (table : List (ℕ × ℕ)) (a c : ℤ) → value (whole n table) a (c -ℤ a) ≡ square (pos n *ℤ power c (degree table))
value_whole n table a c =
    let b : List ℤ = binomial (degree table) in
    let e : a +ℤ (c -ℤ a) ≡ c = omega (arith, linear) in
    value-times (pos n *ℤ pos n) (product b b) a (c -ℤ a)
    ∙ ap (λ (z : ℤ). (pos n *ℤ pos n) *ℤ z)
    (value-product b b a (c -ℤ a) ∙ cong_square _ _ (value-binomial (degree table) a (c -ℤ a) ∙ ap (λ (z : ℤ). power z (degree table)) e))
    ∙ regroup (pos n) (power c (degree table))
  where
    regroup : (n p : ℤ) → (n *ℤ n) *ℤ (p *ℤ p) ≡ (n *ℤ p) *ℤ (n *ℤ p)
    regroup n p = simp ring refl

-- a difference that is not negative
less_by : (p q : List ℤ) (n : ℕ) (u w : ℤ) → length p ≡ length q →
    is_never_negative n (plus p (times (negsuc 0) q)) ≡ true → pos 0 ≤ℤ u → pos 0 ≤ℤ w → value q u w ≤ℤ value p u w
less_by p q n u w same holds first second =
    let above : pos 0 ≤ℤ value (plus p (times (negsuc 0) q)) u w = value-never_negative n (plus p (times (negsuc 0) q)) u w holds first second in
    let parts : value (plus p (times (negsuc 0) q)) u w ≡ value p u w +ℤ value (times (negsuc 0) q) u w =
    value-plus p (times (negsuc 0) q) u w (same ∙ sym (length-times (negsuc 0) q)) in
    close _ _ _ _ above parts (value-times (negsuc 0) q u w)
  where
    close : (x y z t : ℤ) → pos 0 ≤ℤ z → z ≡ x +ℤ t → t ≡ negsuc 0 *ℤ y → y ≤ℤ x
    close x y z t above is minus = omega (arith, ints)

-- ---- the curve
-- a control point is so much of each way
at_exact : (table : List (ℕ × ℕ)) (v w : ℤ) (k : ℕ) → at (exact_points table v w) k ≡ v *ℤ at (starts table) k +ℤ w *ℤ at (ends table) k
at_exact [] v w k = omega (arith, linear, mul_zero_ℤ v, mul_zero_ℤ w)
at_exact (s ∷ table) v w zero = omega (arith, linear, mul_comm_ℤ (pos s.0) v, mul_comm_ℤ (pos s.1) w)
at_exact (s ∷ table) v w (suc k) = at_exact table v w k

-- so is the curve
bern_exact : (table : List (ℕ × ℕ)) (v w a c : ℤ) → bern (exact_points table v w) a c ≡ v *ℤ start_share table a c +ℤ w *ℤ end_share table a c
bern_exact table v w a c =
    ap (λ (n : ℕ). bernstein (n - 1) (at (exact_points table v w)) a c) (length-map table (exact_point v w))
    ∙ bernstein-same (degree table) (at (exact_points table v w)) (λ k. v *ℤ at (starts table) k +ℤ w *ℤ at (ends table) k) a c (λ k small. at_exact table v w k)
    ∙ bernstein-mix (degree table) v w (at (starts table)) (at (ends table)) a c

-- a square is not negative
square_not_negative : (z : ℤ) → pos 0 ≤ℤ square z
square_not_negative (pos n) = omega (arith, ints)
square_not_negative (negsuc n) = omega (arith, ints)

squares_not_negative : (x y : ℤ) → pos 0 ≤ℤ (square x +ℤ square y)
squares_not_negative x y = sum_of _ _ (square_not_negative x) (square_not_negative y)
  where
    sum_of : (p q : ℤ) → pos 0 ≤ℤ p → pos 0 ≤ℤ q → pos 0 ≤ℤ (p +ℤ q)
    sum_of p q first second = omega (arith, linear)

-- an instant's two parts are not negative
from_zero : (a : ℕ) → pos 0 ≤ℤ pos a
from_zero a = omega (arith, ints)

to_end : (a c : ℕ) → a ≤ c → pos 0 ≤ℤ (pos c -ℤ pos a)
to_end a c within = omega (arith, ints, within)

-- an order between equal numbers
moved : (x y p q : ℤ) → x ≡ p → y ≡ q → x ≤ℤ y → p ≤ℤ q
moved x y p q first second less = omega (arith, linear)

-- Brahmagupta's identity, for a quarter turn each way
turned_left : (x y f g : ℤ) → square (x *ℤ f +ℤ neg_ℤ y *ℤ g) +ℤ square (y *ℤ f +ℤ x *ℤ g) ≡ (square x +ℤ square y) *ℤ (square f +ℤ square g)
turned_left x y f g = simp ring (omega (arith, linear))

turned_right : (x y f g : ℤ) → square (x *ℤ f +ℤ y *ℤ g) +ℤ square (y *ℤ f +ℤ neg_ℤ x *ℤ g) ≡ (square x +ℤ square y) *ℤ (square f +ℤ square g)
turned_right x y f g = simp ring (omega (arith, linear))

-- the square of the distance from the centre, for a radius of 1
abbrev reach : List (ℕ × ℕ) → ℕ → ℕ → ℤ
reach table a c = square (start_share table (pos a) (pos c)) +ℤ square (end_share table (pos a) (pos c))

distance_is : (table : List (ℕ × ℕ)) (ccw : Bool) (x y : ℤ) (a c : ℕ) →
    square_distance table ccw x y a c ≡ (square x +ℤ square y) *ℤ reach table a c
distance_is table true x y a c =
    rw (bern_exact table x (neg_ℤ y) (pos a) (pos c), bern_exact table y x (pos a) (pos c))
    (turned_left x y (start_share table (pos a) (pos c)) (end_share table (pos a) (pos c)))
distance_is table false x y a c =
    rw (bern_exact table x y (pos a) (pos c), bern_exact table y (neg_ℤ x) (pos a) (pos c))
    (turned_right x y (start_share table (pos a) (pos c)) (end_share table (pos a) (pos c)))

-- the two bounds, for a radius of any length
no_nearer : (n nearest : ℕ) (table : List (ℕ × ℕ)) → is_never_negative n (outside nearest table) ≡ true →
    (ccw : Bool) (x y : ℤ) (a c : ℕ) → a ≤ c → circle nearest table x y c ≤ℤ square_distance table ccw x y a c
no_nearer n nearest table holds ccw x y a c within =
    let same : length (squares table) ≡ length (whole nearest table) = length_squares table ∙ sym (length_whole nearest table) in
    let unit : square (pos nearest *ℤ power (pos c) (degree table)) ≤ℤ reach table a c =
    moved _ _ _ _ (value_whole nearest table (pos a) (pos c)) (value_squares table (pos a) (pos c))
    (less_by (squares table) (whole nearest table) n (pos a) (pos c -ℤ pos a) same holds (from_zero a) (to_end a c within)) in
    rw (distance_is table ccw x y a c, mul_comm_ℤ (square (pos nearest *ℤ power (pos c) (degree table))) (square x +ℤ square y))
    (le_mul_ℤ (square x +ℤ square y) _ _ (squares_not_negative x y) unit)

no_farther : (n farthest : ℕ) (table : List (ℕ × ℕ)) → is_never_negative n (inside farthest table) ≡ true →
    (ccw : Bool) (x y : ℤ) (a c : ℕ) → a ≤ c → square_distance table ccw x y a c ≤ℤ circle farthest table x y c
no_farther n farthest table holds ccw x y a c within =
    let same : length (whole farthest table) ≡ length (squares table) = length_whole farthest table ∙ sym (length_squares table) in
    let unit : reach table a c ≤ℤ square (pos farthest *ℤ power (pos c) (degree table)) =
    moved _ _ _ _ (value_squares table (pos a) (pos c)) (value_whole farthest table (pos a) (pos c))
    (less_by (whole farthest table) (squares table) n (pos a) (pos c -ℤ pos a) same holds (from_zero a) (to_end a c within)) in
    rw (distance_is table ccw x y a c, mul_comm_ℤ (square (pos farthest *ℤ power (pos c) (degree table))) (square x +ℤ square y))
    (le_mul_ℤ (square x +ℤ square y) _ _ (squares_not_negative x y) unit)

-- A table keeps the radius if two tests hold, which halve as often as this at most.
pub keeps_radius : (n nearest farthest : ℕ) (table : List (ℕ × ℕ)) →
    is_never_negative n (outside nearest table) ≡ true → is_never_negative n (inside farthest table) ≡ true → KeepsRadius nearest farthest table
keeps_radius n nearest farthest table near far = record {
  no_nearer = λ ccw x y a c some within. no_nearer n nearest table near ccw x y a c within;
  no_farther = λ ccw x y a c some within. no_farther n farthest table far ccw x y a c within;
}
