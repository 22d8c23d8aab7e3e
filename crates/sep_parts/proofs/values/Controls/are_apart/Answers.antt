use Rattle.sep_parts.proofs.Prelude.{ℕ, ◌≤◌, ◌≤ℤ◌, ◌↔◌, List, FitsSigned, IsTrue, subst, to_z-of_z, w128, Bez, along_value, weights, least_value}
use Rattle.sep_parts.proofs.Halved.{kept_long, kept_short}
use Rattle.sep_parts.proofs.values.Controls.are_apart.Goals as goal

pub returns-then-self : goal.returns-then-self
returns-then-self c =
    let threshold_fits : FitsSigned w128 c.args.threshold = c.ranges.threshold in
    subst (λ (curves : List (Bez 8)). IsTrue c.separates.result ↔ ((k : ℕ) → k ≤ 7 → least_value c.args.threshold c.args.depth ≤ℤ along_value curves (weights c.args.n c.args.r c.args.h) k))
    (kept_long c.self.inside.is_long c.self.inside.short c.self.inside.long c.args.self.now c.self.view_is c.if-self.true) (simp to_z-of_z at c.separates.ensures)

pub returns-then-levels-le-SHORT_SUMS_DEPTH : goal.returns-then-levels-le-SHORT_SUMS_DEPTH
returns-then-levels-le-SHORT_SUMS_DEPTH c =
    let threshold_fits : FitsSigned w128 c.args.threshold = c.ranges.threshold in
    subst (λ (curves : List (Bez 8)). IsTrue c.separates_by_short_sums.result ↔ ((k : ℕ) → k ≤ 7 → least_value c.args.threshold c.args.depth ≤ℤ along_value curves (weights c.args.n c.args.r c.args.h) k))
    (kept_short c.self.inside.is_long c.self.inside.short c.self.inside.long c.args.self.now c.self.view_is c.if-self.false) (simp to_z-of_z at c.separates_by_short_sums.ensures)

pub returns : goal.returns
returns c =
    let threshold_fits : FitsSigned w128 c.args.threshold = c.ranges.threshold in
    subst (λ (curves : List (Bez 8)). IsTrue c.separates_by_long_sums.result ↔ ((k : ℕ) → k ≤ 7 → least_value c.args.threshold c.args.depth ≤ℤ along_value curves (weights c.args.n c.args.r c.args.h) k))
    (kept_short c.self.inside.is_long c.self.inside.short c.self.inside.long c.args.self.now c.self.view_is c.if-self.false) (simp to_z-of_z at c.separates_by_long_sums.ensures)
