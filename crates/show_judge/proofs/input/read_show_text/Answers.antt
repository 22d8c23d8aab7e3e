use Rattle.show_judge.proofs.Prelude.{Held, ap, drop, length, refl, at_its_end, of_source, takes_at_most, to_come}
use Rattle.show_judge.proofs.ReadLemmas.{show_read}
use Rattle.show_judge.proofs.input.read_show_text.Goals as goal

pub returns-clause-reads : goal.returns-clause-reads
returns-clause-reads g c =
    let text = c.next_text.ensures in
    let empty = ap (λ (h : Held). h.waiting) c.make-parts.ensures in
    record {
      fact = λ all is.
          (let may = of_source _ _ all text.went.at_end is in
          show_read c.next_text.result c.make-parts.result (to_come all (g.S.Source.told c.args.source.now)) (drop (length (g.S.Source.told c.next_text.new.source).given) all) c.next_text.new.parts.ended
          empty (text.text all may) text.within text.whole (at_its_end _ _ all may));
      failed = text.failed;
      few = λ all is. takes_at_most _ _ _ all _ text.went.gives is text.few;
      after = λ all is. text.after all (of_source _ _ all text.went.at_end is) empty refl;
      gives = text.went.gives;
    }
