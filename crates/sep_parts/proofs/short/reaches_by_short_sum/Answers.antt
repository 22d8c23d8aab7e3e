use Rattle.sep_parts.proofs.Prelude.{refl, ◌^◌, ◌↔◌, ◌≤ℤ◌, ℕ, ℤ, [], List, All, FitsSigned, IsTrue, Bez, IsBelow, get_or, subst, lit<, to_z-of_z, w64, at, curves_of, controls_below}
use Rattle.fleet_curves.proofs.Rows.{controls_row}
use Rattle.sep_parts.proofs.Halved.{rows_along}
use Rattle.sep_parts.proofs.NarrowLemmas.{narrow_kept, narrow_value}
use Rattle.sep_parts.proofs.short.reaches_by_short_sum.Goals as goal

value : (rows : List (List ℤ)) (axis k : ℕ) → All (λ (curve : Bez 8). All (IsBelow (2 ^ 46)) curve.b) (curves_of rows) → IsBelow (2 ^ 46) (at (get_or rows axis []) k)
value rows axis k small = subst (λ (row : List ℤ). IsBelow (2 ^ 46) (at row k)) (controls_row rows axis) (controls_below (2 ^ 46) (curves_of rows) axis k (lit< tt) small)

pub sum_reaches-requires-clause-weights : goal.sum_reaches-requires-clause-weights
sum_reaches-requires-clause-weights c = c.requires.weights

pub sum_reaches-requires-clause-x : goal.sum_reaches-requires-clause-x
sum_reaches-requires-clause-x c = let small = value c.args.rows.now 0 c.args.k c.requires.values in narrow_kept (2 ^ 46) _ (narrow_value _ small) small

pub sum_reaches-requires-clause-y : goal.sum_reaches-requires-clause-y
sum_reaches-requires-clause-y c = let small = value c.args.rows.now 1 c.args.k c.requires.values in narrow_kept (2 ^ 46) _ (narrow_value _ small) small

pub sum_reaches-requires-clause-z : goal.sum_reaches-requires-clause-z
sum_reaches-requires-clause-z c = let small = value c.args.rows.now 2 c.args.k c.requires.values in narrow_kept (2 ^ 46) _ (narrow_value _ small) small

pub returns : goal.returns
returns c =
    let x : FitsSigned w64 (at (get_or c.args.rows.now 0 []) c.args.k) = narrow_value _ (value c.args.rows.now 0 c.args.k c.requires.values) in
    let y : FitsSigned w64 (at (get_or c.args.rows.now 1 []) c.args.k) = narrow_value _ (value c.args.rows.now 1 c.args.k c.requires.values) in
    let z : FitsSigned w64 (at (get_or c.args.rows.now 2 []) c.args.k) = narrow_value _ (value c.args.rows.now 2 c.args.k c.requires.values) in
    let least : FitsSigned w64 c.args.least = c.ranges.least in
    subst (λ (v : ℤ). IsTrue c.sum_reaches.result ↔ (c.args.least ≤ℤ v)) (rows_along c.args.rows.now c.args.w c.args.k _ _ _ refl refl refl) (simp to_z-of_z at c.sum_reaches.ensures)
