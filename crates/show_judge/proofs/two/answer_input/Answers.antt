use Rattle.show_judge.proofs.AnswerLemmas.{input_two}
use Rattle.show_judge.proofs.ReadLemmas.{two_made}
use Rattle.show_judge.proofs.two.answer_input.Goals as goal

pub returns-clause-reads : goal.returns-clause-reads
returns-clause-reads g c =
    let reads = rw c.limit-limit.ensures.value at c.in_ok-input.ensures.reads in
    two_made (g.V.TwoTexts.most c.args.verb.now) _ _ _ c.in_ok-input.input _ reads (λ is. cc)
    (λ all is. input_two (g.V.TwoTexts.verb c.args.verb.now) (g.V.TwoTexts.most c.args.verb.now) _ _ c.in_ok-input.input c.in_ok-answer_two.field-0 (reads.fact all is) c.in_ok-answer_two.ensures)
