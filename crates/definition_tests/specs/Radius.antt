-- How well `arc`, `swing`, `arc_in` and `arc_out` keep to their circle before their control points are rounded.
use Rattle.std.specs.Prelude.{◌≡◌, ℕ, ◌-◌, ◌<◌, ◌≤◌, Bool, List, [], ◌∷◌, length, map, ℤ, pos, neg_ℤ, ◌+ℤ◌, ◌-ℤ◌, ◌*ℤ◌}
use Rattle.std.specs.Prelude.{◌≤ℤ◌, if◌then◌else◌}
use Rattle.whole_numbers.specs.Numbers.{IsIn}
use Rattle.whole_numbers.specs.Sums.{power}
use Rattle.whole_numbers.specs.Bernstein.{at, bern}
use Rattle.choreo_show.specs.declared.parts.Ease.{Ease}
use Rattle.choreo_show.specs.declared.parts.Ease.TheVariants as ease
use Rattle.figure_expand.specs.Acts.{arc_points, eased_points, shares}

-- ---- the control points

-- The table of `arc`; `shares` has those of the other acts. By control point: how many millionths of the way from the
-- centre to the start are in it, and how many of the way from the centre to the end.
abbrev pub arc_shares : List (ℕ × ℕ)
arc_shares = (1000000, 0) ∷ (1000000, 552285) ∷ (552285, 1000000) ∷ (0, 1000000) ∷ []

-- A control point on one axis, seen from the centre, times a million. The way from the centre to the start is v on this
-- axis, and the way from the centre to the end is w.
abbrev pub exact_point : ℤ → ℤ → ℕ × ℕ → ℤ
exact_point v w share = pos share.0 *ℤ v +ℤ pos share.1 *ℤ w

-- the control points of a table
abbrev pub exact_points : List (ℕ × ℕ) → ℤ → ℤ → List ℤ
exact_points table v w = map (exact_point v w) table

-- The control points of an act around this centre are the exact ones, rounded: each differs by at most a micrometre.
pub record RoundsTable (table : List (ℕ × ℕ)) (centre v w : ℤ) (points : List ℤ) : Type 0 where
  pub as_many : length points ≡ length table
  pub near : (k : ℕ) → k < length table →
      IsIn (neg_ℤ (pos 1000000)) (pos 1000000) (pos 1000000 *ℤ (at points k -ℤ centre) -ℤ at (exact_points table v w) k)

-- ---- the circle

-- z squared
abbrev pub square : ℤ → ℤ
square z = z *ℤ z

-- the square of n millionths of the length of the way (x, y), in the unit of `square_distance`
abbrev pub circle : ℕ → List (ℕ × ℕ) → ℤ → ℤ → ℕ → ℤ
circle n table x y c = square (pos n *ℤ power (pos c) (length table - 1)) *ℤ (square x +ℤ square y)

-- The square of the curve's distance from the centre at the instant a / c. The distance is a numerator over a million
-- times c^degree. The way from the centre to the start is (x, y). The way to the end is (-y, x) counter-clockwise and
-- (y, -x) clockwise.
abbrev pub square_distance : List (ℕ × ℕ) → Bool → ℤ → ℤ → ℕ → ℕ → ℤ
square_distance table ccw x y a c =
    square (bern (exact_points table x (if ccw then neg_ℤ y else y)) (pos a) (pos c))
    +ℤ square (bern (exact_points table y (if ccw then x else neg_ℤ x)) (pos a) (pos c))

-- At every instant the curve of this table is at least `nearest` and at most `farthest` millionths of the radius away
-- from the centre, for every way from the centre to the start.
pub record KeepsRadius (nearest farthest : ℕ) (table : List (ℕ × ℕ)) : Type 0 where
  pub no_nearer : (ccw : Bool) (x y : ℤ) (a c : ℕ) → 1 ≤ c → a ≤ c →
      circle nearest table x y c ≤ℤ square_distance table ccw x y a c
  pub no_farther : (ccw : Bool) (x y : ℤ) (a c : ℕ) → 1 ≤ c → a ≤ c →
      square_distance table ccw x y a c ≤ℤ circle farthest table x y c

-- `arc` is never inside its circle, and outside by at most 0.028 % of the radius. `swing` keeps to its circle within
-- 0.094 % of the radius, and `arc_in` and `arc_out` within 0.005 %. The acts have the control points of the tables,
-- rounded.
pub record RadiusLaw : Type 0 where
  pub arc : KeepsRadius 1000000 1000280 arc_shares
  pub swing : KeepsRadius 999060 1000940 (shares ease.InOut)
  pub arc_in : KeepsRadius 999950 1000050 (shares ease.In)
  pub arc_out : KeepsRadius 999950 1000050 (shares ease.Out)
  pub arc_rounded : (centre v w : ℤ) → RoundsTable arc_shares centre v w (arc_points (centre +ℤ v) centre v w)
  pub others_rounded : (how : Ease) (centre v w : ℤ) → RoundsTable (shares how) centre v w (eased_points how centre v w)
