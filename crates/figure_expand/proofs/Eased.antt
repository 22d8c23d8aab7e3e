-- Eased arcs: they begin where the drone is, and end where `arc` ends.
use Rattle.figure_expand.proofs.Prelude.{FitsSigned, of_z, to_z, to_z-of_z, w64, ◌≡◌, ℕ, zero, suc, ◌<◌, ◌≤◌, ◌^◌, Bool, All, All-from_recursion, IsUpTo, ℤ, pos, ◌+ℤ◌, ◌-ℤ◌, ◌*ℤ◌, List, [], ◌∷◌, length, map, take, get_or, set, ◌+◌, arith, refl, sym, ap, ◌∙◌, ints, at, Point, controls, Eight, end_of, neg_ℤ, negsuc, ◌≤ℤ◌, ◌<ℤ◌, take_all, le_mul_pos, Ease, eased_on, eased_points, millionths, shares, AreSmall, axis_with, eased_yaw, forty_seconds}
use Rattle.std.specs.Int.{int_div_euclid}
use Rattle.whole_numbers.specs.Decoded.{last_value}
use Rattle.choreo_show.specs.declared.parts.Act.TheVariants as act
use Rattle.choreo_show.specs.declared.parts.Ease.TheVariants as ease

-- ---- shares

-- the floor of a millionth
pub floor_of_million : (x : ℤ) → ((int_div_euclid x (pos 1000000) *ℤ pos 1000000) ≤ℤ x) × (x <ℤ ((int_div_euclid x (pos 1000000) *ℤ pos 1000000) +ℤ pos 1000000))
floor_of_million (pos n) = (omega (arith, ints), omega (arith, ints))
floor_of_million (negsuc n) = (omega (arith, ints), omega (arith, ints))

-- all millionths of a number
pub all_of : (v : ℤ) → millionths 1000000 v ≡ v
all_of v = omega (arith, ints, floor_of_million ((pos 1000000 *ℤ v) +ℤ pos 500000))

-- none of them
pub none_of : (v : ℤ) → millionths 0 v ≡ pos 0
none_of v = omega (arith, ints, floor_of_million ((pos 0 *ℤ v) +ℤ pos 500000))

-- the floor of a forty-second
floor_of_42 : (x : ℤ) → ((int_div_euclid x (pos 42) *ℤ pos 42) ≤ℤ x) × (x <ℤ ((int_div_euclid x (pos 42) *ℤ pos 42) +ℤ pos 42))
floor_of_42 (pos n) = (omega (arith, ints), omega (arith, ints))
floor_of_42 (negsuc n) = (omega (arith, ints), omega (arith, ints))

whole_turn : (s : ℤ) → forty_seconds 42 s ≡ s
whole_turn s = omega (arith, ints, floor_of_42 ((pos 42 *ℤ s) +ℤ pos 21))

no_turn : (s : ℤ) → forty_seconds 0 s ≡ pos 0
no_turn s = omega (arith, ints, floor_of_42 ((pos 0 *ℤ s) +ℤ pos 21))

-- a share of a number that an act has fits 64 bits
pub share_small : (a : ℕ) (s : ℤ) → a ≤ 2000000 → IsUpTo (2 ^ 41) s → IsUpTo (2 ^ 62) (pos a *ℤ s)
share_small a s few small =
    (omega (arith, ints, le_mul_pos a (neg_ℤ (pos (2 ^ 41))) s small.0), omega (arith, ints, le_mul_pos a s (pos (2 ^ 41)) small.1))

-- so do forty-seconds of a turn
pub turn_small : (a : ℕ) (s : ℤ) → a ≤ 65535 → IsUpTo (2 ^ 42) s → IsUpTo (2 ^ 58) (pos a *ℤ s)
turn_small a s few small =
    (omega (arith, ints, le_mul_pos a (neg_ℤ (pos (2 ^ 42))) s small.0), omega (arith, ints, le_mul_pos a s (pos (2 ^ 42)) small.1))

-- ---- what the program makes of such products
-- both factors are held in 64 bits
pub factors_told : (p s : ℤ) (a : ℕ) → p ≡ pos a → a ≤ 2000000 → FitsSigned w64 s → to_z w64 (of_z w64 p) *ℤ to_z w64 (of_z w64 s) ≡ pos a *ℤ s
factors_told p s a p_is few s_fits =
    let a_fits : FitsSigned w64 (pos a) = omega (arith, ints) in
    rw (p_is, to_z-of_z w64 (pos a) a_fits, to_z-of_z w64 s s_fits) refl

pub product_fits : (z : ℤ) → IsUpTo (2 ^ 62) z → FitsSigned w64 z
product_fits z small = omega (arith, ints)

pub sum_fits : (z : ℤ) (half : ℕ) → IsUpTo (2 ^ 62) z → half ≤ 500000 → FitsSigned w64 (z +ℤ pos half)
sum_fits z half small few = omega (arith, ints)

pub wide : (z : ℤ) → IsUpTo (2 ^ 58) z → IsUpTo (2 ^ 62) z
wide z small = (omega (arith, ints), omega (arith, ints))

-- a product with half a divisor, as the program holds it
pub sum_told : (q z : ℤ) (half : ℕ) → q ≡ z → IsUpTo (2 ^ 62) z → to_z w64 (of_z w64 q) +ℤ pos half ≡ z +ℤ pos half
sum_told q z half q_is small = rw (q_is, to_z-of_z w64 z (product_fits z small)) refl

-- the rounded quotients are small
pub million_small : (z q : ℤ) → IsUpTo (2 ^ 62) z → q ≡ int_div_euclid (z +ℤ pos 500000) (pos 1000000) → IsUpTo (2 ^ 43) q
million_small z q small q_is =
    let floor = floor_of_million (z +ℤ pos 500000) in
    rw q_is (omega (arith, ints, floor.0, floor.1), omega (arith, ints, floor.0, floor.1))

pub forty_second_small : (z q : ℤ) → IsUpTo (2 ^ 58) z → q ≡ int_div_euclid (z +ℤ pos 21) (pos 42) → IsUpTo (2 ^ 58) q
forty_second_small z q small q_is =
    let floor = floor_of_42 (z +ℤ pos 21) in
    rw q_is (omega (arith, ints, floor.0, floor.1), omega (arith, ints, floor.0, floor.1))

-- and are what the program holds
pub million_told : (r w z : ℤ) → IsUpTo (2 ^ 62) z → w ≡ z +ℤ pos 500000 → r ≡ int_div_euclid (to_z w64 (of_z w64 w)) (pos 1000000)
    → to_z w64 (of_z w64 r) ≡ int_div_euclid (z +ℤ pos 500000) (pos 1000000)
million_told r w z small w_is r_is =
    let sum : to_z w64 (of_z w64 w) ≡ z +ℤ pos 500000 = rw w_is (to_z-of_z w64 (z +ℤ pos 500000) (sum_fits z 500000 small (omega arith))) in
    let r_told : r ≡ int_div_euclid (z +ℤ pos 500000) (pos 1000000) = r_is ∙ ap (λ (x : ℤ). int_div_euclid x (pos 1000000)) sum in
    let r_small : IsUpTo (2 ^ 43) r = million_small z r small r_told in
    let r_fits : FitsSigned w64 r = omega (arith, ints, r_small.0, r_small.1) in
    to_z-of_z w64 r r_fits ∙ r_told

pub forty_second_told : (r w z : ℤ) → IsUpTo (2 ^ 58) z → w ≡ z +ℤ pos 21 → r ≡ int_div_euclid (to_z w64 (of_z w64 w)) (pos 42)
    → to_z w64 (of_z w64 r) ≡ int_div_euclid (z +ℤ pos 21) (pos 42)
forty_second_told r w z small w_is r_is =
    let sum : to_z w64 (of_z w64 w) ≡ z +ℤ pos 21 = rw w_is (to_z-of_z w64 (z +ℤ pos 21) (sum_fits z 21 (wide z small) (omega arith))) in
    let r_told : r ≡ int_div_euclid (z +ℤ pos 21) (pos 42) = r_is ∙ ap (λ (x : ℤ). int_div_euclid x (pos 42)) sum in
    let r_small : IsUpTo (2 ^ 58) r = forty_second_small z r small r_told in
    let r_fits : FitsSigned w64 r = omega (arith, ints, r_small.0, r_small.1) in
    to_z-of_z w64 r r_fits ∙ r_told

-- the shares in the table are small
pub shares_small : (how : Ease) → All AreSmall (shares how)
shares_small ease.InOut = All-from_recursion AreSmall (shares ease.InOut) ((omega arith, omega arith), ((omega arith, omega arith), ((omega arith, omega arith), ((omega arith, omega arith), ((omega arith, omega arith), ((omega arith, omega arith), ((omega arith, omega arith), ((omega arith, omega arith), tt))))))))
shares_small ease.In = All-from_recursion AreSmall (shares ease.In) ((omega arith, omega arith), ((omega arith, omega arith), ((omega arith, omega arith), ((omega arith, omega arith), ((omega arith, omega arith), ((omega arith, omega arith), ((omega arith, omega arith), ((omega arith, omega arith), tt))))))))
shares_small ease.Out = All-from_recursion AreSmall (shares ease.Out) ((omega arith, omega arith), ((omega arith, omega arith), ((omega arith, omega arith), ((omega arith, omega arith), ((omega arith, omega arith), ((omega arith, omega arith), ((omega arith, omega arith), ((omega arith, omega arith), tt))))))))

pub eight_shares : (how : Ease) → length (shares how) ≡ 8
eight_shares ease.InOut = refl
eight_shares ease.In = refl
eight_shares ease.Out = refl

-- ---- points that are made one by one

-- one point more
filled : {A : Type 0} (f : A → ℤ) (points : List ℤ) (table : List A) (k : ℕ) (v : ℤ) (other : A) → k < length points → k < length table →
    take k points ≡ map f (take k table) → v ≡ f (get_or table k other) → take (suc k) (set points k v) ≡ map f (take (suc k) table)
filled f [] table k v other within also done is = absurd (omega arith)
filled f (p ∷ points) [] k v other within also done is = absurd (omega arith)
filled f (p ∷ points) (t ∷ table) zero v other within also done is = ap (λ z. z ∷ []) is
filled f (p ∷ points) (t ∷ table) (suc k) v other within also done is =
    heads p (f t) (take (suc k) (set points k v)) (map f (take (suc k) table)) (first p (f t) (take k points) (map f (take k table)) done)
    (filled f points table k v other (omega arith) (omega arith) (rest p (f t) (take k points) (map f (take k table)) done) is)
  where
    first : (a b : ℤ) (xs ys : List ℤ) → a ∷ xs ≡ b ∷ ys → a ≡ b
    first a b xs ys e = cc

    rest : (a b : ℤ) (xs ys : List ℤ) → a ∷ xs ≡ b ∷ ys → xs ≡ ys
    rest a b xs ys e = cc

    heads : (a b : ℤ) (xs ys : List ℤ) → a ≡ b → xs ≡ ys → a ∷ xs ≡ b ∷ ys
    heads a b xs ys e f = cc

pub filled_more : {A : Type 0} (f : A → ℤ) (points : List ℤ) (table : List A) (k : ℕ) (v : ℤ) (other : A) → k < length points → k < length table →
    take k points ≡ map f (take k table) → v ≡ f (get_or table k other) → take (k + 1) (set points k v) ≡ map f (take (k + 1) table)
filled_more f points table k v other within also done is =
    let e : k + 1 ≡ suc k = omega arith in
    rw e (filled f points table k v other within also done is)

-- all points
pub filled_all : {A : Type 0} (f : A → ℤ) (points : List ℤ) (table : List A) (k : ℕ) → length points ≤ k → length table ≤ k → take k points ≡ map f (take k table) → points ≡ map f table
filled_all f points table k all also done = sym (take_all k points all) ∙ done ∙ ap (map f) (take_all k table also)

-- ---- ends

pub first_point : (how : Ease) (centre v w : ℤ) → at (eased_points how centre v w) 0 ≡ centre +ℤ v
first_point ease.InOut centre v w = omega (arith, ints, all_of v, none_of w)
first_point ease.In centre v w = omega (arith, ints, all_of v, none_of w)
first_point ease.Out centre v w = omega (arith, ints, all_of v, none_of w)

pub last_point : (how : Ease) (centre v w : ℤ) → last_value (pos 0) (eased_points how centre v w) ≡ centre +ℤ w
last_point ease.InOut centre v w = omega (arith, ints, none_of v, all_of w)
last_point ease.In centre v w = omega (arith, ints, none_of v, all_of w)
last_point ease.Out centre v w = omega (arith, ints, none_of v, all_of w)

pub first_yaw : (how : Ease) (D E : ℤ) → at (eased_yaw how D E) 0 ≡ D
first_yaw ease.InOut D E = refl
first_yaw ease.In D E = omega (arith, ints, no_turn (E -ℤ D))
first_yaw ease.Out D E = omega (arith, ints, whole_turn (E -ℤ D))

pub last_yaw : (how : Ease) (D E : ℤ) → last_value (pos 0) (eased_yaw how D E) ≡ E
last_yaw ease.InOut D E = refl
last_yaw ease.In D E = omega (arith, ints, whole_turn (E -ℤ D))
last_yaw ease.Out D E = omega (arith, ints, no_turn (E -ℤ D))

-- ---- axes

-- an axis has the control points that it is made of
pub controls_with : (vs : List ℤ) → controls (axis_with vs) ≡ vs
controls_with (v ∷ []) = refl
controls_with (v ∷ w ∷ []) = refl
controls_with (v ∷ w ∷ x ∷ y ∷ []) = refl
controls_with vs = refl

pub eight_points : (how : Ease) (centre v w : ℤ) → Eight (eased_points how centre v w) ≡ axis_with (eased_points how centre v w)
eight_points ease.InOut centre v w = refl
eight_points ease.In centre v w = refl
eight_points ease.Out centre v w = refl

pub eight_on : (p : Point) (how : Ease) (ccw : Bool) (cx cy : ℤ) (axis : ℕ) → Eight (eased_on p how ccw cx cy axis) ≡ axis_with (eased_on p how ccw cx cy axis)
eight_on p how ccw cx cy zero = eight_points how _ _ _
eight_on p how ccw cx cy (suc axis) = eight_points how _ _ _

pub eight_yaws : (how : Ease) (D E : ℤ) → Eight (eased_yaw how D E) ≡ axis_with (eased_yaw how D E)
eight_yaws ease.InOut D E = refl
eight_yaws ease.In D E = refl
eight_yaws ease.Out D E = refl

-- a point with these numbers
abbrev point_with : ℤ → ℤ → ℤ → ℤ → Point
point_with x y z yaw = record { x = x; y = y; z = z; yaw = yaw }

same_point : (x y z yaw x' y' yaw' : ℤ) → x ≡ x' → y ≡ y' → yaw ≡ yaw' → point_with x y z yaw ≡ point_with x' y' z yaw'
same_point x y z yaw x' y' yaw' a b c = cc

-- an eased arc ends where the arc of its numbers ends
pub ends_as_arc : (p : Point) (how : Ease) (ccw : Bool) (cx cy yaw : ℤ) → end_of p (act.Eased how ccw cx cy yaw) ≡ end_of p (act.Arc ccw cx cy yaw)
unfolding end_of
ends_as_arc p how ccw cx cy yaw = same_point _ _ _ _ _ _ _ (last_point how cx _ _) (last_point how cy _ _) (last_yaw how p.yaw yaw)
