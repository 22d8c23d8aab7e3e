use Rattle.fleet_curves.proofs.Prelude.{All, List, subst, ◌∙◌, take_all, Segment, IsFormed}
use Rattle.fleet_curves.proofs.Fleets.{all_more}
use Rattle.fleet_curves.proofs.formed.formed_law.Goals as goal

pub loop-s-preserved : goal.loop-s-preserved
loop-s-preserved c = all_more IsFormed c.as_slice-s-items.result.now c.loop-s.s-index _ c.loop-s-test.true c.loop-s.invariant c.segment_law.ensures

pub returns : goal.returns
returns c = subst (λ (ss : List Segment). All IsFormed ss) (take_all c.loop-s.s-index c.as_slice-s-items.result.now c.loop-s-test.false ∙ c.as_slice-s-items.ensures) c.loop-s.invariant
