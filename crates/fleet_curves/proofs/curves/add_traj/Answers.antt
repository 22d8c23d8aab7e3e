use Rattle.fleet_curves.proofs.Prelude.{All, FitsSigned, rules, subst, ◌∙◌, List, to_z, of_z, to_z-of_z, take_all, w16, Segment, curves_of, IsFormed, AreSmallCurves, all_curves}
use Rattle.fleet_curves.proofs.Fleets.{next_curves, all_more, all_push}
use Rattle.fleet_curves.proofs.Rows.{curves_push}
use Rattle.fleet_curves.proofs.curves.add_traj.Goals as goal

pub loop-s-preserved : goal.loop-s-preserved
loop-s-preserved c =
    let x_fits : FitsSigned w16 c.value_after-x.result = search rules in
    let y_fits : FitsSigned w16 c.value_after-y.result = search rules in
    let z_fits : FitsSigned w16 c.value_after-z.result = search rules in
    record {
      curves = next_curves (all_curves c.loop-s.all.items) (all_curves c.push.new.self.items) (curves_of c.narrowed_segment.result) c.as_slice-s-items.result.now c.loop-s.s-index _
          (to_z w16 c.loop-s.x-bits) (to_z w16 c.loop-s.y-bits) (to_z w16 c.loop-s.z-bits)
          (to_z w16 (of_z w16 c.value_after-x.result)) (to_z w16 (of_z w16 c.value_after-y.result)) (to_z w16 (of_z w16 c.value_after-z.result)) _
          c.loop-s-test.true (curves_push c.loop-s.all.items c.push.new.self.items c.narrowed_segment.result c.in_ok-push.ensures.items) c.narrowed_segment.ensures.exact
          (to_z-of_z w16 c.value_after-x.result x_fits ∙ c.value_after-x.ensures) (to_z-of_z w16 c.value_after-y.result y_fits ∙ c.value_after-y.ensures) (to_z-of_z w16 c.value_after-z.result z_fits ∙ c.value_after-z.ensures)
          c.loop-s.invariant.curves;
      formed = all_more IsFormed c.as_slice-s-items.result.now c.loop-s.s-index _ c.loop-s-test.true c.loop-s.invariant.formed c.narrowed_segment.ensures.formed;
      small = all_push AreSmallCurves (all_curves c.loop-s.all.items) (all_curves c.push.new.self.items) (curves_of c.narrowed_segment.result)
          (curves_push c.loop-s.all.items c.push.new.self.items c.narrowed_segment.result c.in_ok-push.ensures.items) c.loop-s.invariant.small c.narrowed_segment.ensures.small;
    }

pub returns-clause-formed : goal.returns-clause-formed
returns-clause-formed c =
    subst (λ (ss : List Segment). All IsFormed ss) (take_all c.loop-s.s-index c.as_slice-s-items.result.now c.loop-s-test.false ∙ c.as_slice-s-items.ensures) c.loop-s.invariant.formed
