use Rattle.show_judge.proofs.AnswerLemmas.{input_text}
use Rattle.show_judge.proofs.ReadLemmas.{one_made}
use Rattle.show_judge.proofs.any.answer_input.Goals as goal

pub returns-clause-reads : goal.returns-clause-reads
returns-clause-reads g c =
    let reads = c.in_ok-text.ensures.reads in
    one_made _ _ _ _ c.in_ok-text.text _ reads (λ is. cc)
    (λ all is. input_text (g.V.AnyText.verb c.args.verb.now) _ _ c.in_ok-text.text c.in_ok-answer_text.field-0 (reads.fact all is) c.in_ok-answer_text.ensures)
