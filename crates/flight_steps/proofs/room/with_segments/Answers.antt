use Rattle.flight_steps.proofs.Prelude.{◌∙◌, refl, ap, element_on, stored, Segment, with_more}
use Rattle.traj_codec.specs.declared.traj.Element.{Element}
use Rattle.flight_steps.proofs.Spans.{step-in}
use Rattle.flight_steps.proofs.room.with_segments.Goals as goal

pub loop-g-preserved : goal.loop-g-preserved
loop-g-preserved c =
    step-in (λ (g : Segment). stored (element_on g c.args.axis)) c.loop-g.all c.with_element-all.result _ c.args.segments.now c.loop-g.g-index _ _ c.loop-g-test.true refl
    (c.with_element-all.ensures ∙ ap (λ (e : Element). with_more c.loop-g.all (stored e)) c.element_on.ensures) c.loop-g.invariant
