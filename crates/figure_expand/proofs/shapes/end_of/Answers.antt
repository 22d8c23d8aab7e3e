use Rattle.figure_expand.proofs.Prelude.{◌≡◌, ◌^◌, ℤ, to_z, of_z, w64, arith, sym, ap, subst, ◌∙◌, IsActUpTo, end_of}
use Rattle.choreo_show.specs.declared.parts.Act.TheVariants as act
use Rattle.figure_expand.proofs.Eased.{ends_as_arc}
use Rattle.figure_expand.proofs.Reach.{kept, wider}
use Rattle.figure_expand.proofs.shapes.end_of.Goals as goal

pub returns-in-Eased : goal.returns-in-Eased
returns-in-Eased c =
    let e = c.in-Eased in
    let fits = subst (IsActUpTo (2 ^ 28)) e.is c.requires.act in
    let cx : to_z w64 (of_z w64 e.cx) ≡ e.cx = kept e.cx (wider (2 ^ 28) (2 ^ 43) e.cx (omega arith) fits.0) in
    let cy : to_z w64 (of_z w64 e.cy) ≡ e.cy = kept e.cy (wider (2 ^ 28) (2 ^ 43) e.cy (omega arith) fits.1) in
    let yaw : to_z w64 (of_z w64 e.yaw) ≡ e.yaw = kept e.yaw (wider (2 ^ 28) (2 ^ 43) e.yaw (omega arith) fits.2) in
    c.arc_end-in-Eased.ensures
    ∙ ap (λ (z : ℤ). end_of c.args.p.now (act.Arc e.ccw z (to_z w64 (of_z w64 e.cy)) (to_z w64 (of_z w64 e.yaw)))) cx
    ∙ ap (λ (z : ℤ). end_of c.args.p.now (act.Arc e.ccw e.cx z (to_z w64 (of_z w64 e.yaw)))) cy
    ∙ ap (λ (z : ℤ). end_of c.args.p.now (act.Arc e.ccw e.cx e.cy z)) yaw
    ∙ sym (ends_as_arc c.args.p.now e.ease e.ccw e.cx e.cy e.yaw)
    ∙ ap (end_of c.args.p.now) (sym e.is)
