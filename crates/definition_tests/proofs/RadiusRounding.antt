-- The control points that are flown are the exact ones, rounded.
use Rattle.definition_tests.proofs.Prelude.{length-map, refl, ◌<◌, length, map, at, ℕ, zero, suc, ℤ, pos, neg_ℤ, ◌+ℤ◌, ◌-ℤ◌, ◌*ℤ◌, ◌≤ℤ◌, ◌<ℤ◌, List, [], ◌∷◌, arith, linear, mul_comm_ℤ, arc_points, eased_point, eased_points, handle, millionths, shares, arc_shares, exact_points, RoundsTable}
use Rattle.whole_numbers.specs.Numbers.{IsIn}
use Rattle.choreo_show.specs.declared.parts.Ease.{Ease}
use Rattle.figure_expand.proofs.Eased.{floor_of_million}

-- the floor of a millionth and a half differs by half of one
near_by_floor : (z q : ℤ) → (q *ℤ pos 1000000) ≤ℤ (z +ℤ pos 500000) → (z +ℤ pos 500000) <ℤ ((q *ℤ pos 1000000) +ℤ pos 1000000) →
    IsIn (neg_ℤ (pos 500000)) (pos 500000) (pos 1000000 *ℤ q -ℤ z)
near_by_floor z q low high = (omega (arith, linear, mul_comm_ℤ (pos 1000000) q), omega (arith, linear, mul_comm_ℤ (pos 1000000) q))

-- so many millionths, rounded
millionths_near : (r : ℕ) (s : ℤ) → IsIn (neg_ℤ (pos 500000)) (pos 500000) (pos 1000000 *ℤ millionths r s -ℤ pos r *ℤ s)
millionths_near r s =
    let near = floor_of_million ((pos r *ℤ s) +ℤ pos 500000) in
    near_by_floor (pos r *ℤ s) (millionths r s) near.0 near.1

handle_near : (s : ℤ) → IsIn (neg_ℤ (pos 500000)) (pos 500000) (pos 1000000 *ℤ handle s -ℤ pos 552285 *ℤ s)
handle_near s = millionths_near 552285 s

-- a control point is rounded twice
point_near : (centre x y p q : ℤ) → IsIn (neg_ℤ (pos 500000)) (pos 500000) (pos 1000000 *ℤ x -ℤ p) → IsIn (neg_ℤ (pos 500000)) (pos 500000) (pos 1000000 *ℤ y -ℤ q) →
    IsIn (neg_ℤ (pos 1000000)) (pos 1000000) (pos 1000000 *ℤ ((centre +ℤ x +ℤ y) -ℤ centre) -ℤ (p +ℤ q))
point_near centre x y p q first second = (omega (arith, linear), omega (arith, linear))

eased_near : (table : List (ℕ × ℕ)) (centre v w : ℤ) (k : ℕ) → k < length table →
    IsIn (neg_ℤ (pos 1000000)) (pos 1000000)
    (pos 1000000 *ℤ (at (map (eased_point centre v w) table) k -ℤ centre) -ℤ at (exact_points table v w) k)
eased_near [] centre v w k within = absurd (omega arith)
eased_near (s ∷ table) centre v w zero within =
    point_near centre (millionths s.0 v) (millionths s.1 w) (pos s.0 *ℤ v) (pos s.1 *ℤ w)
    (millionths_near s.0 v) (millionths_near s.1 w)
eased_near (s ∷ table) centre v w (suc k) within = eased_near table centre v w k (omega arith)

pub others_rounded : (how : Ease) (centre v w : ℤ) → RoundsTable (shares how) centre v w (eased_points how centre v w)
others_rounded how centre v w = record {
  as_many = length-map (shares how) (eased_point centre v w);
  near = eased_near (shares how) centre v w;
}

-- the four points of `arc`
arc_near : (centre v w : ℤ) (k : ℕ) → k < 4 →
    IsIn (neg_ℤ (pos 1000000)) (pos 1000000)
    (pos 1000000 *ℤ (at (arc_points (centre +ℤ v) centre v w) k -ℤ centre) -ℤ at (exact_points arc_shares v w) k)
arc_near centre v w zero within = (omega (arith, linear), omega (arith, linear))
arc_near centre v w (suc zero) within =
    (omega (arith, linear, (handle_near w).0), omega (arith, linear, (handle_near w).1))
arc_near centre v w (suc (suc zero)) within =
    (omega (arith, linear, (handle_near v).0), omega (arith, linear, (handle_near v).1))
arc_near centre v w (suc (suc (suc zero))) within = (omega (arith, linear), omega (arith, linear))
arc_near centre v w (suc (suc (suc (suc k)))) within = absurd (omega (arith, within))

pub arc_rounded : (centre v w : ℤ) → RoundsTable arc_shares centre v w (arc_points (centre +ℤ v) centre v w)
arc_rounded centre v w = record { as_many = refl; near = arc_near centre v w }
