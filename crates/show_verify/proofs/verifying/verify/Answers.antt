use Rattle.show_verify.proofs.Prelude.{takes_front, None, refl, certificate_limit, verify_verb}
use Rattle.show_judge.proofs.DriverLemmas.{two_behaves}
use Rattle.show_verify.proofs.verifying.verify.Goals as goal

pub returns : goal.returns
returns g c = let reads = c.answer_input-answer.ensures.reads in record {
  gives = reads.gives;
  behaves = λ all is.
      two_behaves c.show_law.ensures None certificate_limit verify_verb _ c.answer_input-answer.result c.respond.result c.verify_law.ensures
      (record { ways = refl; judges = refl; stops = λ taken. refl; prompt = λ r. tt; reading = λ r status both. both })
      (reads.fact all is) c.respond.ensures reads.failed (takes_front _ _ _ all reads.gives is) reads.gives.later (reads.few all is) (reads.past all is);
}
