use Rattle.show_judge.proofs.Prelude.{takes_front}
use Rattle.show_judge.proofs.DriverLemmas.{any_behaves}
use Rattle.show_judge.proofs.any.run_any.Goals as goal

pub returns : goal.returns
returns g c = let reads = c.answer_input-answer.ensures.reads in record {
  gives = reads.gives;
  behaves = λ all is.
      any_behaves c.show_law.ensures (g.V.AnyText.verb c.args.verb.now) _ c.answer_input-answer.result c.respond.result c.requires.verb c.requires.any (reads.fact all is) c.respond.ensures
      reads.failed (takes_front _ _ _ all reads.gives is) reads.gives.later (reads.few all is) (reads.after all is);
}
