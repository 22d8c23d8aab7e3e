use Rattle.byte_streams.proofs.Prelude.{common_steps, ◌∙◌, arith}
use Rattle.byte_streams.proofs.GoingLemmas.{Goes-trans, Goes-unasked}
use Rattle.byte_streams.proofs.ToldLemmas.{Took-none, Took-trans}
use Rattle.byte_streams.proofs.parts.Parts.fill.Goals as goal

pub reads-init : goal.reads-init
reads-init g c = grind (arith, common_steps, Took-none, Goes-unasked)

pub reads-preserved : goal.reads-preserved
reads-preserved g c = record {
  took = Took-trans _ _ _ _ _ _ _ _ c.reads.invariant.took c.more.ensures.took;
  goes = Goes-trans _ _ _ _ _ _ c.reads.invariant.goes c.more.ensures.goes;
  at_line = c.more.ensures.at_line ∙ c.reads.invariant.at_line;
  unasked = grind (arith, common_steps);
}

pub returns-in-Err-clause-took : goal.returns-in-Err-clause-took
returns-in-Err-clause-took g c = Took-trans _ _ _ _ _ _ _ _ c.reads.invariant.took c.more.ensures.took

pub returns-in-Err-clause-goes : goal.returns-in-Err-clause-goes
returns-in-Err-clause-goes g c = Goes-trans _ _ _ _ _ _ c.reads.invariant.goes c.more.ensures.goes
