use Rattle.sep_parts.proofs.Prelude.{common_steps, rules, ℤ, pos, ◌*ℤ◌, ◌≤ℤ◌, ◌<ℤ◌, ◌≡◌, FitsSigned, arith, to_z-of_z, w128, for_ellipsoids}
use Rattle.sep_parts.proofs.Limits.{ellipsoids_small}
use Rattle.sep_parts.proofs.Roots.{root_of}
use Rattle.sep_parts.proofs.directions.for_ellipsoids.Goals as goal

pub returns : goal.returns
returns c =
    let limit_fits : FitsSigned w128 c.limit.result = search rules in
    let root_fits : FitsSigned w128 c.least_root_above.result = search rules in
    let above : c.limit.result <ℤ (c.least_root_above.result *ℤ c.least_root_above.result) = simp to_z-of_z at c.least_root_above.ensures.above in
    let least : (s : ℤ) → pos 0 ≤ℤ s → c.limit.result <ℤ (s *ℤ s) → c.least_root_above.result ≤ℤ s =
    λ s positive more. c.least_root_above.ensures.least s positive (simp to_z-of_z more) in
    let exact : c.least_root_above.result ≡ for_ellipsoids c.args.clearance c.args.n =
    root_of c.limit.result _ c.least_root_above.result c.limit.ensures.exact c.least_root_above.ensures.not_negative above least in
    grind (arith, common_steps, to_z-of_z, pos, ellipsoids_small)
