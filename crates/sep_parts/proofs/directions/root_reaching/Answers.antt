use Rattle.sep_parts.proofs.Prelude.{rules, arith, refl, ap, sym, ◌∙◌, ◌≡◌, ℤ, pos, ◌-ℤ◌, ◌*ℤ◌, ◌≤ℤ◌, ◌<ℤ◌, FitsSigned, ints, to_z-of_z, w128, root_reaching}
use Rattle.sep_parts.proofs.Roots.{reaching_none, root_of}
use Rattle.sep_parts.proofs.directions.root_reaching.Goals as goal

pub returns-then-v-eq0 : goal.returns-then-v-eq0
returns-then-v-eq0 c =
    let none : c.args.v ≡ pos 0 = omega (arith, ints, c.if-v-eq0.true) in
    ap pos (sym (ap root_reaching none ∙ reaching_none))

pub returns-else-v-eq0 : goal.returns-else-v-eq0
returns-else-v-eq0 c =
    let v_fits : FitsSigned w128 c.args.v = c.ranges.v in
    let less_fits : FitsSigned w128 (c.args.v -ℤ pos 1) = omega (arith, ints, c.requires.positive, c.requires.small) in
    let root_fits : FitsSigned w128 c.least_root_above.result = search rules in
    let above : (c.args.v -ℤ pos 1) <ℤ (c.least_root_above.result *ℤ c.least_root_above.result) = simp to_z-of_z at c.least_root_above.ensures.above in
    let least : (s : ℤ) → pos 0 ≤ℤ s → (c.args.v -ℤ pos 1) <ℤ (s *ℤ s) → c.least_root_above.result ≤ℤ s =
    λ s positive more. c.least_root_above.ensures.least s positive (simp to_z-of_z more) in
    simp to_z-of_z (root_of (c.args.v -ℤ pos 1) _ c.least_root_above.result refl c.least_root_above.ensures.not_negative above least)
