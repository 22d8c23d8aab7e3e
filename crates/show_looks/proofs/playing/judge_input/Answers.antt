use Rattle.show_looks.proofs.Prelude.{refl, show_ways, judges_text}
use Rattle.show_judge.proofs.ReadLemmas.{one_made}
use Rattle.show_looks.proofs.playing.judge_input.Goals as goal

pub returns-clause-reads : goal.returns-clause-reads
returns-clause-reads g c =
    let reads = c.in_ok-text.ensures.reads in
    one_made _ _ _ _ c.in_ok-text.text _ reads (λ is. cc)
    (λ all is. judges_text (show_ways c.args.depth) c.args.depth _ _ c.in_ok-text.text c.in_ok-accept.field-0 refl (reads.fact all is) c.in_ok-accept.ensures.gives c.in_ok-accept.ensures.whole)
