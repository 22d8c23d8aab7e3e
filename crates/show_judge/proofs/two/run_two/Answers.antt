use Rattle.show_judge.proofs.Prelude.{Some, takes_front}
use Rattle.show_judge.proofs.DriverLemmas.{two_behaves}
use Rattle.show_judge.proofs.two.run_two.Goals as goal

pub returns : goal.returns
returns g c = let reads = c.answer_input-answer.ensures.reads in record {
  gives = reads.gives;
  behaves = λ all is.
      two_behaves c.show_law.ensures (Some (g.V.TwoTexts.searched c.args.verb.now)) (g.V.TwoTexts.most c.args.verb.now) (g.V.TwoTexts.verb c.args.verb.now) _ c.answer_input-answer.result c.respond.result c.requires.verb c.requires.two
      (reads.fact all is) c.respond.ensures reads.failed (takes_front _ _ _ all reads.gives is) reads.gives.later (reads.few all is) (reads.past all is);
}
