use Rattle.show_studies.proofs.Prelude.{most_text, boxes_verb, input_two}
use Rattle.show_judge.proofs.ReadLemmas.{two_made}
use Rattle.show_studies.proofs.keeping.answer_input.Goals as goal

pub returns-clause-reads : goal.returns-clause-reads
returns-clause-reads g c =
    let reads = c.in_ok-input.ensures.reads in
    two_made most_text _ _ _ c.in_ok-input.input _ reads (λ is. cc)
    (λ all is. input_two (boxes_verb c.args.depth) most_text _ _ c.in_ok-input.input c.in_ok-answer_two.field-0 (reads.fact all is) c.in_ok-answer_two.ensures)
