use Rattle.show_judge.proofs.Prelude.{of_show, takes_front}
use Rattle.show_judge.proofs.DriverLemmas.{any_behaves, show_any, show_verb}
use Rattle.show_judge.proofs.driver.run_one.Goals as goal

pub returns : goal.returns
returns g c = let reads = c.answer_input-answer.ensures.reads in let depth = g.V.OneText.searched c.args.verb.now in let text = g.V.OneText.text c.args.verb.now in record {
  gives = reads.gives;
  behaves = λ all is.
      any_behaves c.show_law.ensures (of_show depth text) _ c.answer_input-answer.result c.respond.result (show_verb depth text) (show_any depth text) (reads.fact all is) c.respond.ensures
      reads.failed (takes_front _ _ _ all reads.gives is) reads.gives.later (reads.few all is) (reads.after all is);
}
