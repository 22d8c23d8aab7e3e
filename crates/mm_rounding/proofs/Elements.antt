-- An element is the curve of its control values.
use Rattle.mm_rounding.proofs.Prelude.{get_or, ◌≡◌, ℕ, zero, suc, ◌<◌, ◌≤◌, Bool, true, false, cond, ◌&&◌, Some, None, if◌then◌else◌, nat_le, ℤ, pos, List, [], ◌∷◌, map, length, length-map, arith, refl, sym, ap, ◌∙◌, subst, take, list_all, All, by_lt, at, IsNear, Constant, Linear, Cubic, Seven, millimetres, is_short, short, shorts, controls, first_control, rounded, axis_in, number_in, all_equal, after_first, element_of, fits, fitted, axis_on, segment_of, IsAxis, position, KeepsNear, KeepsEqual, last_control, EndsThere, IsPiece, StaysNear, set, take_all}
use Rattle.std.specs.Ordering.{int_eq}
use Rattle.std.proofs.lemmas.Bool.{and_parts}
use Rattle.std.proofs.lemmas.Bool.Decides.{Decides-int_eq, nat_tests}
use Rattle.std.proofs.lemmas.List.Elements.{All-get_or}
use Rattle.whole_numbers.specs.Decoded.{last_value}
use Rattle.traj_codec.specs.declared.traj.Element.{Element}
use Rattle.traj_codec.specs.declared.traj.Segment.{Segment}
use Rattle.traj_codec.specs.Spelling.{stored}
use Rattle.traj_codec.specs.Positions.{value_after}
use Rattle.mm_rounding.specs.declared.piece.Axis.{Axis}
use Rattle.mm_rounding.specs.declared.piece.Axis.TheVariants.{One, Two, Four, Eight}
use Rattle.mm_rounding.specs.declared.piece.MicroPiece.{MicroPiece}
use Rattle.mm_rounding.proofs.Curves.{near_curve, position-constant}

int_eq_true : (x y : ℤ) → int_eq x y ≡ true → x ≡ y
int_eq_true x y e = grind (arith, Decides-int_eq)

abbrev segment : ℕ → List Element → Segment
segment ms elements = record { ms = ms; elements = elements }

false-true : false ≡ true → ⊥
false-true e = cc

-- where each number of a list equals x, so does the number at each place
first_and_rest : (x z : ℤ) (v : List ℤ) (here rest : Bool) → int_eq z x ≡ here → list_all (λ y. int_eq y x) v ≡ rest → (here && rest) ≡ true →
    (list_all (λ y. int_eq y x) v ≡ true → (k : ℕ) → k < length v → at v k ≡ x) → (k : ℕ) → k < suc (length v) → at (z ∷ v) k ≡ x
first_and_rest x z v true true is later e behind zero small = int_eq_true z x is
first_and_rest x z v true true is later e behind (suc k) small = behind later k (omega arith)
first_and_rest x z v true false is later e behind k small = absurd (false-true e)
first_and_rest x z v false rest is later e behind k small = absurd (false-true e)

each_is : (x : ℤ) (v : List ℤ) → list_all (λ y. int_eq y x) v ≡ true → (k : ℕ) → k < length v → at v k ≡ x
each_is x [] e k small = absurd (omega arith)
each_is x (z ∷ v) e k small = first_and_rest x z v (int_eq z x) (list_all (λ y. int_eq y x) v) refl refl e (λ later. each_is x v later) k small

-- numbers that all equal the first one, one by one
pub equal_numbers : (v : List ℤ) → all_equal v ≡ true → (k : ℕ) → k < length v → at v k ≡ at v 0
equal_numbers v e = each_is (at v 0) v e

-- the first control value and those after it
behind : (v : List ℤ) → 1 ≤ length v → at v 0 ∷ after_first v ≡ v
behind [] some = absurd (omega arith)
behind (z ∷ v) some = refl

two : (v : List ℤ) → length v ≡ 2 → at v 0 ∷ at v 1 ∷ [] ≡ v
two [] many = absurd (omega arith)
two (x ∷ []) many = absurd (omega arith)
two (x ∷ y ∷ []) many = refl
two (x ∷ y ∷ z ∷ v) many = absurd (omega arith)

-- an element by cases on whether all control values are equal
by_test : (v : List ℤ) (b : Bool) (e : Element) (a c : ℕ) → 1 ≤ length v → length v ≤ 8 → all_equal v ≡ b → at v 0 ∷ stored e ≡ v →
    position (at v 0 ∷ stored (cond b Constant e)) a c ≡ position v a c
by_test v true e a c some few is whole = position-constant v a c some few (equal_numbers v is)
by_test v false e a c some few is whole = ap (λ (points : List ℤ). position points a c) whole

-- An element is the curve of its control values.
pub keeps_equal : (axis : Axis) → IsAxis axis → KeepsEqual axis (element_of axis)
keeps_equal (One v) is a c some within = refl
keeps_equal (Two v) is a c some within = by_test v (all_equal v) (Linear (at v 1)) a c (omega arith) (omega arith) refl (two v is)
keeps_equal (Four v) is a c some within = by_test v (all_equal v) (Cubic (after_first v)) a c (omega arith) (omega arith) refl (behind v (omega arith))
keeps_equal (Eight v) is a c some within = by_test v (all_equal v) (Seven (after_first v)) a c (omega arith) (omega arith) refl (behind v (omega arith))

pub rounded_is_axis : (axis : Axis) → IsAxis axis → IsAxis (rounded axis)
rounded_is_axis (One v) is = tt
rounded_is_axis (Two v) is = length-map v millimetres ∙ is
rounded_is_axis (Four v) is = length-map v millimetres ∙ is
rounded_is_axis (Eight v) is = length-map v millimetres ∙ is

-- the curve of the rounded control values is near
near_controls : (axis : Axis) → IsAxis axis → (a c : ℕ) → a ≤ c → IsNear (position (controls axis) a c) (position (controls (rounded axis)) a c) c
near_controls (One v) is a c within = near_curve (v ∷ []) a c (omega arith) (omega arith) within
near_controls (Two v) is a c within = near_curve v a c (omega arith) (omega arith) within
near_controls (Four v) is a c within = near_curve v a c (omega arith) (omega arith) within
near_controls (Eight v) is a c within = near_curve v a c (omega arith) (omega arith) within

-- The rounded element is near to the curve.
pub keeps_near : (axis : Axis) → IsAxis axis → KeepsNear axis (element_of (rounded axis))
keeps_near axis is a c some within =
    subst (λ (d : ℤ). IsNear (position (controls axis) a c) d c) (sym (keeps_equal (rounded axis) (rounded_is_axis axis is) a c some within)) (near_controls axis is a c within)

-- ---- as the code writes them

-- numbers two to eight of eight are those after the first one
pub seven_behind : (v : List ℤ) → length v ≡ 8 → at v 1 ∷ at v 2 ∷ at v 3 ∷ at v 4 ∷ at v 5 ∷ at v 6 ∷ at v 7 ∷ [] ≡ after_first v
seven_behind [] many = absurd (omega arith)
seven_behind (x ∷ v) many = seven_are v (omega arith)
  where
    seven_are : (v : List ℤ) → length v ≡ 7 → at v 0 ∷ at v 1 ∷ at v 2 ∷ at v 3 ∷ at v 4 ∷ at v 5 ∷ at v 6 ∷ [] ≡ v
    seven_are [] many = absurd (omega arith)
    seven_are (a ∷ []) many = absurd (omega arith)
    seven_are (a ∷ b ∷ []) many = absurd (omega arith)
    seven_are (a ∷ b ∷ c ∷ []) many = absurd (omega arith)
    seven_are (a ∷ b ∷ c ∷ d ∷ []) many = absurd (omega arith)
    seven_are (a ∷ b ∷ c ∷ d ∷ e ∷ []) many = absurd (omega arith)
    seven_are (a ∷ b ∷ c ∷ d ∷ e ∷ f ∷ []) many = absurd (omega arith)
    seven_are (a ∷ b ∷ c ∷ d ∷ e ∷ f ∷ g ∷ []) many = refl
    seven_are (a ∷ b ∷ c ∷ d ∷ e ∷ f ∷ g ∷ h ∷ v) many = absurd (omega arith)

-- what stands where not all are equal
pub unequal : (b : Bool) (e : Element) → b ≡ false → e ≡ cond b Constant e
unequal b e is = rw is refl

-- an element that comes is that of its axis, whose numbers fit
fitted_is : (axis : Axis) (x : Element) → Some x ≡ fitted axis → (fits axis ≡ true) × (element_of axis ≡ x)
fitted_is axis x is = by_fit (fits axis) (element_of axis) x is
  where
    by_fit : (b : Bool) (e x : Element) → Some x ≡ cond b (Some e) None → (b ≡ true) × (e ≡ x)
    by_fit true e x is = (refl, cc)
    by_fit false e x is = absurd (cc)

unfit : {A : Type 0} (b : Bool) (x : A) → None ≡ cond b (Some x) None → b ≡ false
unfit true x is = absurd (cc)
unfit false x is = refl

-- without an element a number does not fit
unfitted : (axis : Axis) → None ≡ fitted axis → fits axis ≡ false
unfitted axis is = unfit (fits axis) (element_of axis) is

-- a number that does not fit leaves nothing of all of them
pub one_unfitted : (zs : List ℤ) (k : ℕ) → k < length zs → None ≡ short (at zs k) → None ≡ shorts zs
one_unfitted [] k small is = absurd (omega arith)
one_unfitted (z ∷ zs) zero small is = rw (unfit (is_short z) z is) refl
one_unfitted (z ∷ zs) (suc k) small is =
    rw (unfit (list_all is_short zs) zs (one_unfitted zs k (omega arith) is)) (neither (is_short z) (z ∷ zs))
  where
    neither : (b : Bool) (x : List ℤ) → None ≡ cond (b && false) (Some x) None
    neither true x = refl
    neither false x = refl

-- a number that comes fits, and is the one that was given
short_is : (b : Bool) (z n : ℤ) → Some n ≡ cond b (Some z) None → (b ≡ true) × (n ≡ z)
short_is true z n is = (refl, cc)
short_is false z n is = absurd (cc)

-- one number more that fits, and is kept
pub one_more : (row zs : List ℤ) (k : ℕ) (m n : ℤ) → m ≡ n → k < length row → k < length zs → Some n ≡ short (at zs k)
    → list_all is_short (take k zs) ≡ true → take k row ≡ take k zs → (list_all is_short (take (suc k) zs) ≡ true) × (take (suc k) (set row k m) ≡ take (suc k) zs)
one_more [] zs k m n is within also said fit done = absurd (omega arith)
one_more (r ∷ row) [] k m n is within also said fit done = absurd (omega arith)
one_more (r ∷ row) (z ∷ zs) zero m n is within also said fit done =
    let it = short_is (is_short z) z n said in
    (rw it.0 refl, ap (λ (x : ℤ). x ∷ []) (is ∙ it.1))
one_more (r ∷ row) (z ∷ zs) (suc k) m n is within also said fit done =
    let parts = and_parts (is_short z) (list_all is_short (take k zs)) fit in
    let tails : take k row ≡ take k zs = ap after_first done in
    let more = one_more row zs k m n is (omega arith) (omega arith) said parts.1 tails in
    (rw parts.0 more.0, heads r z (take (suc k) (set row k m)) (take (suc k) zs) (ap (λ (xs : List ℤ). at xs 0) done) more.1)
  where
    heads : (a b : ℤ) (xs ys : List ℤ) → a ≡ b → xs ≡ ys → a ∷ xs ≡ b ∷ ys
    heads a b xs ys e f = cc

-- all numbers
pub all_kept : (row zs : List ℤ) (k : ℕ) → length row ≤ k → length zs ≤ k → list_all is_short (take k zs) ≡ true → take k row ≡ take k zs → Some row ≡ shorts zs
all_kept row zs k whole also fit done =
    let all : list_all is_short zs ≡ true = ap (λ (xs : List ℤ). list_all is_short xs) (sym (take_all k zs also)) ∙ fit in
    rw all (ap (λ (xs : List ℤ). Some xs) (sym (take_all k row whole) ∙ done ∙ take_all k zs also))

some_time : (ms : ℕ) → (ms ≡ 0 → ⊥) → nat_le 1 ms ≡ true
some_time zero some = absurd (some refl)
some_time (suc ms) some = grind (arith, nat_tests)

-- four elements make the segment of their axes
pub all_fitted : (ms : ℕ) (a b d e : Axis) (x y z w : Element) → (ms ≡ 0 → ⊥) → Some x ≡ fitted a → Some y ≡ fitted b → Some z ≡ fitted d → Some w ≡ fitted e →
    Some (segment ms (x ∷ y ∷ z ∷ w ∷ [])) ≡ (if nat_le 1 ms && list_all fits (a ∷ b ∷ d ∷ e ∷ []) then Some (segment ms (map element_of (a ∷ b ∷ d ∷ e ∷ []))) else None)
all_fitted ms a b d e x y z w some is_x is_y is_z is_w =
    let long : nat_le 1 ms ≡ true = some_time ms some in
    let at_x = fitted_is a x is_x in
    let at_y = fitted_is b y is_y in
    let at_z = fitted_is d z is_z in
    let at_w = fitted_is e w is_w in
    rw (long, at_x.0, at_y.0, at_z.0, at_w.0, at_x.1, at_y.1, at_z.1, at_w.1) refl

-- an axis that does not fit leaves nothing
pub axis_unfitted : (ms : ℕ) (axes : List Axis) (k : ℕ) (d : Axis) (s : Segment) → k < length axes → None ≡ fitted (get_or axes k d) → None ≡ (if nat_le 1 ms && list_all fits axes then Some s else None)
axis_unfitted ms axes k d s inside is = rw (among axes k (unfitted (get_or axes k d) is) inside) (nothing (nat_le 1 ms))
  where
    never : (b : Bool) → (b && false) ≡ false
    never true = refl
    never false = refl

    among : (axes : List Axis) (k : ℕ) → fits (get_or axes k d) ≡ false → k < length axes → list_all fits axes ≡ false
    among [] k is inside = absurd (omega arith)
    among (a ∷ axes) zero is inside = rw is refl
    among (a ∷ axes) (suc k) is inside = rw (among axes k is (omega arith)) (never (fits a))

    nothing : (b : Bool) → None ≡ cond (b && false) (Some s) None
    nothing b = rw (never b) refl

-- ---- ends

-- a list of equal numbers ends with its first one
ends_equal : (x first : ℤ) (v : List ℤ) → first ≡ x → ((k : ℕ) → k < length v → at v k ≡ x) → first ≡ last_value first v
ends_equal x first [] is equal = refl
ends_equal x first (z ∷ v) is equal =
    let here : z ≡ x = equal 0 (omega arith) in
    is ∙ sym here ∙ ends_equal x z v here (λ k small. equal (suc k) (omega arith))

constant_ends : (v : List ℤ) → 1 ≤ length v → all_equal v ≡ true → at v 0 ≡ last_value (at v 0) (after_first v)
constant_ends [] some e = absurd (omega arith)
constant_ends (z ∷ v) some e = ends_equal z z v refl (λ k small. equal_numbers (z ∷ v) e (suc k) (omega arith))

ends_by_test : (v : List ℤ) (b : Bool) (e : Element) → 1 ≤ length v → all_equal v ≡ b → stored e ≡ after_first v →
    value_after (at v 0) (cond b Constant e) ≡ last_value (at v 0) (after_first v)
ends_by_test v true e some is whole = constant_ends v some is
ends_by_test v false e some is whole = ap (last_value (at v 0)) whole

two_behind : (v : List ℤ) → length v ≡ 2 → at v 1 ∷ [] ≡ after_first v
two_behind v many = ap after_first (two v many)

-- An element ends at the last control value.
pub ends_there : (axis : Axis) → IsAxis axis → EndsThere axis (element_of axis)
ends_there (One v) is = refl
ends_there (Two v) is = ends_by_test v (all_equal v) (Linear (at v 1)) (omega arith) refl (two_behind v is)
ends_there (Four v) is = ends_by_test v (all_equal v) (Cubic (after_first v)) (omega arith) refl refl
ends_there (Eight v) is = ends_by_test v (all_equal v) (Seven (after_first v)) (omega arith) refl refl

-- ---- edges

last-map : (first : ℤ) (v : List ℤ) → last_value (millimetres first) (map millimetres v) ≡ millimetres (last_value first v)
last-map first [] = refl
last-map first (z ∷ v) = last-map z v

edges_of : (v : List ℤ) → 1 ≤ length v →
    (at (map millimetres v) 0 ≡ millimetres (at v 0)) × (last_value (at (map millimetres v) 0) (after_first (map millimetres v)) ≡ millimetres (last_value (at v 0) (after_first v)))
edges_of [] some = absurd (omega arith)
edges_of (z ∷ v) some = (refl, last-map z v)

-- The rounded axis begins and ends with the rounded ends.
pub rounded_edges : (axis : Axis) → IsAxis axis →
    (first_control (rounded axis) ≡ millimetres (first_control axis)) × (last_control (rounded axis) ≡ millimetres (last_control axis))
rounded_edges (One v) is = (refl, refl)
rounded_edges (Two v) is = edges_of v (omega arith)
rounded_edges (Four v) is = edges_of v (omega arith)
rounded_edges (Eight v) is = edges_of v (omega arith)

-- ---- units

pub in_millimetres : (axis : Axis) → axis_in 1 axis ≡ rounded axis
in_millimetres (One v) = refl
in_millimetres (Two v) = refl
in_millimetres (Four v) = refl
in_millimetres (Eight v) = refl

each_as_it_is : (v : List ℤ) → map (number_in 0) v ≡ v
each_as_it_is [] = refl
each_as_it_is (x ∷ v) = ap (λ (xs : List ℤ). x ∷ xs) (each_as_it_is v)

pub as_it_is : (axis : Axis) → axis_in 0 axis ≡ axis
as_it_is (One v) = refl
as_it_is (Two v) = ap Two (each_as_it_is v)
as_it_is (Four v) = ap Four (each_as_it_is v)
as_it_is (Eight v) = ap Eight (each_as_it_is v)

-- ---- pieces

-- the axes of a piece are axes
axis_of : (axes : List Axis) (k : ℕ) → All IsAxis axes → IsAxis (get_or axes k (One (pos 0)))
axis_of axes k are = by_lt k (length axes) (λ (within : k < length axes). All-get_or IsAxis axes k (One (pos 0)) within are) (λ (above : length axes ≤ k). subst IsAxis (sym (past axes k above)) tt)
  where
    past : (axes : List Axis) (k : ℕ) → length axes ≤ k → get_or axes k (One (pos 0)) ≡ One (pos 0)
    past [] k above = refl
    past (a ∷ axes) zero above = absurd (omega arith)
    past (a ∷ axes) (suc k) above = past axes k (omega arith)

-- A piece and its segment are near.
pub stays_near : (p : MicroPiece) → IsPiece p → StaysNear p (segment_of p)
stays_near p is = record {
  x = keeps_near (axis_on p 0) (axis_of p.axes 0 is);
  y = keeps_near (axis_on p 1) (axis_of p.axes 1 is);
  z = keeps_near (axis_on p 2) (axis_of p.axes 2 is);
  yaw = keeps_equal (axis_on p 3) (axis_of p.axes 3 is);
}
