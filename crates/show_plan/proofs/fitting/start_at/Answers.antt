use Rattle.show_plan.proofs.Prelude.{rules, sym, ◌∙◌, FitsSigned}
use Rattle.std.proofs.lemmas.Int.{to_z-of_z}
use mir.Syntax.{w16, w64}
use Rattle.show_plan.proofs.Sendable.{starts}
use Rattle.show_plan.proofs.fitting.start_at.Goals as goal

pub returns : goal.returns
returns c =
    let p_x : FitsSigned w64 c.args.p.now.x = search rules in
    let p_y : FitsSigned w64 c.args.p.now.y = search rules in
    let p_z : FitsSigned w64 c.args.p.now.z = search rules in
    let p_yaw : FitsSigned w64 c.args.p.now.yaw = search rules in
    let x : FitsSigned w16 c.in_ok-x.x = search rules in
    let y : FitsSigned w16 c.in_ok-y.y = search rules in
    let z : FitsSigned w16 c.in_ok-z.z = search rules in
    let yaw : FitsSigned w16 c.in_ok-yaw.yaw = search rules in
    let found = starts c.args.p.now c.in_ok-x.x c.in_ok-y.y c.in_ok-z.z c.in_ok-yaw.yaw
    (simp to_z-of_z at (sym c.in_ok-x.was ∙ c.to_mm.ensures.value)) (simp to_z-of_z at (sym c.in_ok-y.was ∙ c.to_mm-2.ensures.value))
    (simp to_z-of_z at (sym c.in_ok-z.was ∙ c.to_mm-3.ensures.value)) (simp to_z-of_z at (sym c.in_ok-yaw.was ∙ c.short.ensures)) in
    (found.0, simp to_z-of_z found.1, c.start_law.ensures)
