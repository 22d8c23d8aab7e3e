use Rattle.sep_parts.proofs.Prelude.{rules, ◌≡◌, ◌↔◌, ◌≤ℤ◌, ℤ, [], FitsSigned, IsTrue, get_or, subst, to_z-of_z, w32, w64, at}
use Rattle.sep_parts.proofs.Halved.{rows_along}
use Rattle.sep_parts.proofs.NarrowLemmas.{row_fits}
use Rattle.sep_parts.proofs.short.reaches_rows.Goals as goal

pub returns : goal.returns
returns c =
    let x : FitsSigned w32 (at (get_or c.args.rows.now 0 []) c.args.k) = search rules in
    let y : FitsSigned w32 (at (get_or c.args.rows.now 1 []) c.args.k) = search rules in
    let z : FitsSigned w32 (at (get_or c.args.rows.now 2 []) c.args.k) = search rules in
    let x_is : c.from.result ≡ at (get_or c.args.rows.now 0 []) c.args.k = simp to_z-of_z at c.from.ensures in
    let y_is : c.from-2.result ≡ at (get_or c.args.rows.now 1 []) c.args.k = simp to_z-of_z at c.from-2.ensures in
    let z_is : c.from-3.result ≡ at (get_or c.args.rows.now 2 []) c.args.k = simp to_z-of_z at c.from-3.ensures in
    let x_fits : FitsSigned w64 c.from.result = rw x_is (row_fits _ x) in
    let y_fits : FitsSigned w64 c.from-2.result = rw y_is (row_fits _ y) in
    let z_fits : FitsSigned w64 c.from-3.result = rw z_is (row_fits _ z) in
    let least : FitsSigned w64 c.args.least = c.ranges.least in
    subst (λ (v : ℤ). IsTrue c.sum_reaches.result ↔ (c.args.least ≤ℤ v)) (rows_along c.args.rows.now c.args.w c.args.k _ _ _ x_is y_is z_is) (simp to_z-of_z at c.sum_reaches.ensures)
