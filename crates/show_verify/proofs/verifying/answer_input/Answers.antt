use Rattle.show_verify.proofs.Prelude.{Told, IsNextText, takes_at_most, ap, List, ℕ, Option, Gives-trans, GoesOn, back, of_source, takes_front, to_come, Held, stream, verify_verb, EndsWell, IsWholeText}
use Rattle.whole_numbers.specs.Limits.{most_text}
use Rattle.show_judge.proofs.ReadLemmas.{little_two, rose_later}
use Rattle.show_judge.specs.declared.judging.Planned.TheVariants.{Fits}
use Rattle.show_verify.proofs.SecondLemmas.{both_read, input_fitted, input_refused, there}
use Rattle.show_judge.proofs.FewLemmas.{at_new}
use Rattle.show_verify.proofs.verifying.answer_input.Goals as goal

pub returns-in-Fits-clause-reads : goal.returns-in-Fits-clause-reads
returns-in-Fits-clause-reads g c =
    let second = c.judge_second.ensures in
    let empty = ap (λ (h : Held). h.waiting) c.make-parts.ensures in
    let gave = Gives-trans _ _ _ c.next_text.ensures.went.gives second.went.gives in
    record {
      fact = λ all input.
          (let whole = of_source _ _ all second.went.at_end input in
          let may = back _ _ _ _ all second.went whole in
          let first = at_new (λ (left : Option (List ℕ)). IsNextText most_text c.in_ok-show.show left) c.make-parts.result (to_come all (g.S.Source.told c.args.source.now)) empty (c.in_ok-show.ensures.text all may) in
          let goes = at_new (λ (left : Option (List ℕ)). GoesOn c.in_ok-show.show left (stream c.next_text.new.parts (to_come all (g.S.Source.told c.next_text.new.source)))) c.make-parts.result (to_come all (g.S.Source.told c.args.source.now)) empty (c.in_ok-show.ensures.rest all may) in
          let ends : EndsWell verify_verb.ways c.in_ok-show.show (Fits c.in-Fits.fitted) = rw c.in-Fits.is at c.in_ok-fitted.ensures.whole in
          input_fitted _ (stream c.next_text.new.parts (to_come all (g.S.Source.told c.next_text.new.source))) _ c.in_ok-show.show c.in-Fits.fitted c.judge_second.result first ends.0 goes
          (λ cut text. rw c.in-Fits.is at (c.in_ok-fitted.ensures.gives cut text))
          (second.gives all whole) second.apart (second.whole all whole) second.said (takes_front _ _ _ all gave input));
      past = λ all input.
          (let whole = of_source _ _ all second.went.at_end input in
          let may = back _ _ _ _ all second.went whole in
          let first = at_new (λ (left : Option (List ℕ)). IsNextText most_text c.in_ok-show.show left) c.make-parts.result (to_come all (g.S.Source.told c.args.source.now)) empty (c.in_ok-show.ensures.text all may) in
          let goes = at_new (λ (left : Option (List ℕ)). GoesOn c.in_ok-show.show left (stream c.next_text.new.parts (to_come all (g.S.Source.told c.next_text.new.source)))) c.make-parts.result (to_come all (g.S.Source.told c.args.source.now)) empty (c.in_ok-show.ensures.rest all may) in
          there c.judge_second.result (IsWholeText c.in_ok-show.show) _ _
          (λ taken. both_read _ (stream c.next_text.new.parts (to_come all (g.S.Source.told c.next_text.new.source))) _ c.in_ok-show.show first goes taken (takes_front _ _ _ all gave input))
          (λ _. second.both all whole));
      failed = λ is. rose_later _ _ _ c.next_text.ensures.went.gives.later (second.failed is);
      few = λ all input.
          (let may = back _ _ _ _ all second.went (of_source _ _ all second.went.at_end input) in
          let first = at_new (λ (left : Option (List ℕ)). IsNextText most_text c.in_ok-show.show left) c.make-parts.result (to_come all (g.S.Source.told c.args.source.now)) empty (c.in_ok-show.ensures.text all may) in
          let ends : EndsWell verify_verb.ways c.in_ok-show.show (Fits c.in-Fits.fitted) = rw c.in-Fits.is at c.in_ok-fitted.ensures.whole in
          little_two (to_come all (g.S.Source.told c.args.source.now)) (to_come all (g.S.Source.told c.next_text.new.source)) (to_come all (g.S.Source.told c.judge_second.new.source)) c.in_ok-show.show first
          (takes_at_most _ _ _ all _ c.next_text.ensures.went.gives may c.next_text.ensures.few) (λ none. absurd (none ends.0)));
      gives = gave;
    }

pub returns-clause-reads : goal.returns-clause-reads
returns-clause-reads g c =
    let second = c.refuse_show.ensures in
    let empty = ap (λ (h : Held). h.waiting) c.make-parts.ensures in
    let gave = Gives-trans _ _ _ c.next_text.ensures.went.gives second.went.gives in
    record {
      fact = λ all input.
          (let whole = of_source _ _ all second.went.at_end input in
          let may = back _ _ _ _ all second.went whole in
          let first = at_new (λ (left : Option (List ℕ)). IsNextText most_text c.in_ok-show.show left) c.make-parts.result (to_come all (g.S.Source.told c.args.source.now)) empty (c.in_ok-show.ensures.text all may) in
          input_refused _ _ c.in_ok-show.show c.in-Refused.refusal c.refuse_show.result first
          (λ cut text. rw c.in-Refused.is at (c.in_ok-fitted.ensures.gives cut text)) (rw c.in-Refused.is at c.in_ok-fitted.ensures.sound) second.refusal);
      past = λ all input.
          (let whole = of_source _ _ all second.went.at_end input in
          let may = back _ _ _ _ all second.went whole in
          let first = at_new (λ (left : Option (List ℕ)). IsNextText most_text c.in_ok-show.show left) c.make-parts.result (to_come all (g.S.Source.told c.args.source.now)) empty (c.in_ok-show.ensures.text all may) in
          let goes = at_new (λ (left : Option (List ℕ)). GoesOn c.in_ok-show.show left (stream c.next_text.new.parts (to_come all (g.S.Source.told c.next_text.new.source)))) c.make-parts.result (to_come all (g.S.Source.told c.args.source.now)) empty (c.in_ok-show.ensures.rest all may) in
          there c.refuse_show.result (IsWholeText c.in_ok-show.show) _ _
          (λ taken. both_read _ (stream c.next_text.new.parts (to_come all (g.S.Source.told c.next_text.new.source))) _ c.in_ok-show.show first goes taken (takes_front _ _ _ all gave input))
          (second.both all whole));
      failed = λ is. rose_later _ _ _ c.next_text.ensures.went.gives.later (second.failed is);
      few = λ all input.
          (let may = back _ _ _ _ all second.went (of_source _ _ all second.went.at_end input) in
          let first = at_new (λ (left : Option (List ℕ)). IsNextText most_text c.in_ok-show.show left) c.make-parts.result (to_come all (g.S.Source.told c.args.source.now)) empty (c.in_ok-show.ensures.text all may) in
          little_two (to_come all (g.S.Source.told c.args.source.now)) (to_come all (g.S.Source.told c.next_text.new.source)) (to_come all (g.S.Source.told c.refuse_show.new.source)) c.in_ok-show.show first
          (takes_at_most _ _ _ all _ c.next_text.ensures.went.gives may c.next_text.ensures.few) (λ none. ap (λ (t : Told). to_come all t) (second.stays none)));
      gives = gave;
    }
