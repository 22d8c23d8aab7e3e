use Rattle.std.proofs.lemmas.Result.{err_from_is_err_and}
use Rattle.show_judge.proofs.Prelude.{Err, ap, List, ℕ, Option, drop, length, refl, Gives-trans, GoesOn, Held, IsNextText, Told, at_its_end, back, most_text, of_source, stream, takes_at_most, to_come}
use Rattle.show_judge.proofs.ReadLemmas.{failed_as, few_both, little_two, rose_later, texts_read}
use Rattle.show_judge.proofs.FewLemmas.{at_new}
use Rattle.show_judge.proofs.input.read_two.Goals as goal

pub returns-in_err-second-clause-reads : goal.returns-in_err-second-clause-reads
returns-in_err-second-clause-reads g c =
    let first = c.next_text.ensures in
    let second = c.in_err-second.ensures in
    let same = err_from_is_err_and c.from_residual-in_err-second.result c.from_residual-in_err-second.ensures.1 in
    rw (same.1, same.2) (record {
      fact = λ all is. tt;
      past = λ all is. tt;
      failed = λ is. rose_later _ _ _ first.went.gives.later (failed_as (Err _) (Err _) _ _ refl refl second.failed is);
      few = λ all is.
          (let may = back _ _ _ _ all second.went (of_source _ _ all second.went.at_end is) in
          let text = at_new (λ (left : Option (List ℕ)). IsNextText most_text c.in_ok-show.show left) c.make-parts.result (to_come all (g.S.Source.told c.args.source.now)) (ap (λ (h : Held). h.waiting) c.make-parts.ensures) (c.in_ok-show.ensures.text all may) in
          little_two (to_come all (g.S.Source.told c.args.source.now)) (to_come all (g.S.Source.told c.next_text.new.source)) (to_come all (g.S.Source.told c.read_second.new.source)) c.in_ok-show.show text
          (takes_at_most _ _ _ all _ first.went.gives may first.few) (λ none. ap (λ (t : Told). to_come all t) (second.stays none)));
      gives = Gives-trans _ _ _ first.went.gives second.went.gives;
    })

pub returns-clause-reads : goal.returns-clause-reads
returns-clause-reads g c =
    let first = c.in_ok-show.ensures in
    let second = c.in_ok-second.ensures in
    let empty = ap (λ (h : Held). h.waiting) c.make-parts.ensures in
    record {
      fact = λ all is.
          (let whole = of_source _ _ all second.went.at_end is in
          let may = back _ _ _ _ all second.went whole in
          texts_read c.args.limit c.make-parts.result c.next_text.new.parts (drop (length (g.S.Source.told c.args.source.now).given) all) (drop (length (g.S.Source.told c.next_text.new.source).given) all)
          (drop (length (g.S.Source.told c.read_second.new.source).given) all) c.in_ok-show.show c.in_ok-second.second empty (first.text all may)
          (first.rest all may) (second.text all whole) first.within second.within
          (λ one unmarked. at_its_end _ _ all whole (second.whole one unmarked)));
      past = λ all is.
          (let whole = of_source _ _ all second.went.at_end is in
          let may = back _ _ _ _ all second.went whole in
          let mid = stream c.next_text.new.parts (to_come all (g.S.Source.told c.next_text.new.source)) in
          let goes = at_new (λ (left : Option (List ℕ)). GoesOn c.in_ok-show.show left mid) c.make-parts.result (to_come all (g.S.Source.told c.args.source.now)) empty (first.rest all may) in
          λ one two. few_both (to_come all (g.S.Source.told c.args.source.now)) mid (to_come all (g.S.Source.told c.read_second.new.source)) c.in_ok-show.show one goes (second.past all whole one two));
      failed = λ is. absurd (cc);
      few = λ all is.
          (let may = back _ _ _ _ all second.went (of_source _ _ all second.went.at_end is) in
          let text = at_new (λ (left : Option (List ℕ)). IsNextText most_text c.in_ok-show.show left) c.make-parts.result (to_come all (g.S.Source.told c.args.source.now)) empty (first.text all may) in
          little_two (to_come all (g.S.Source.told c.args.source.now)) (to_come all (g.S.Source.told c.next_text.new.source)) (to_come all (g.S.Source.told c.read_second.new.source)) c.in_ok-show.show text
          (takes_at_most _ _ _ all _ first.went.gives may first.few) (λ none. ap (λ (t : Told). to_come all t) (second.stays none)));
      gives = Gives-trans _ _ _ first.went.gives second.went.gives;
    }
