use Rattle.rehearsal.proofs.Prelude.{common_steps, List, take, subst, arith, take_all, take_at_read, WorldEvent, WorldStandsFor}
use Rattle.rehearsal.proofs.BlankLemmas.{stands-rehearsed}
use Rattle.rehearsal.proofs.blank.rehearse.Goals as goal

pub loop-e-preserved : goal.loop-e-preserved
loop-e-preserved c = grind (arith, common_steps, take_at_read, take)

pub returns : goal.returns
returns c =
    stands-rehearsed c.loop-e.world c.args.session c.loop-e.invariant.start c.args.events.now c.loop-e.invariant.many c.loop-e.invariant.blank
    (subst (λ (es : List WorldEvent). WorldStandsFor c.loop-e.world c.args.session c.loop-e.invariant.start es) (take_all c.loop-e.e-index c.args.events.now (omega arith)) c.loop-e.invariant.stands)
