use Rattle.byte_streams.proofs.ToldLemmas.{takes_front}
use Rattle.show_studies.proofs.Prelude.{None, refl, most_text, boxes_verb}
use Rattle.show_judge.proofs.DriverLemmas.{two_behaves}
use Rattle.show_studies.proofs.keeping.boxes.Goals as goal

pub returns : goal.returns
returns g c = let reads = c.answer_input-answer.ensures.reads in record {
  gives = reads.gives;
  behaves = λ all is.
      two_behaves c.show_law.ensures None most_text (boxes_verb c.args.depth) _ c.answer_input-answer.result c.respond.result (c.boxes_law.ensures c.args.depth)
      (record { ways = refl; judges = refl; stops = λ taken. refl; prompt = λ r. tt; reading = λ r status both. both })
      (reads.fact all is) c.respond.ensures reads.failed (takes_front _ _ _ all reads.gives is) reads.gives.later (reads.few all is) (reads.past all is);
}
