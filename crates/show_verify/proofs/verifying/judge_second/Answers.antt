use Rattle.show_verify.proofs.Prelude.{common_steps, arith, IsInput-now, of_source, ap, ◌∙◌, raised_of, to_come, stream, outcome_of, TakenGives, Whole}
use Rattle.show_verify.proofs.SecondLemmas.{taken_whole, whole_gives}
use Rattle.show_verify.proofs.verifying.judge_second.Goals as goal

pub take_second-requires-clause-unfed : goal.take_second-requires-clause-unfed
take_second-requires-clause-unfed g c = c.make-checker.ensures.has_read c.in_ok-curves.curves

pub returns-clause-gives : goal.returns-clause-gives
returns-clause-gives g c all may =
    let coming = stream c.args.parts.now (to_come all (g.S.Source.told c.args.source.now)) in
    let taken : TakenGives c.in_ok-curves.curves coming c.take_second.new.checker (Whole c.in-Whole.marker) = rw c.in-Whole.is at (c.in-Ok.ensures.gives all may) in
    whole_gives c.args.fitted.now c.in_ok-curves.curves c.take_second.new.checker.clearance coming taken.0 c.in-Whole.marker c.end-verdict.result
    (c.in_ok-curves.ensures.exact ∙ ap raised_of c.as_slice.ensures) (c.take_second.ensures.clearance ∙ c.make-checker.ensures.clearance ∙ c.clearance_of.ensures.exact)
    taken.1 (c.end-verdict.ensures.gives taken.0 taken.1 taken.2) taken.3 (outcome_of c.judge.result) c.judge.ensures.gives

pub returns-in-TooLarge-clause-both : goal.returns-in-TooLarge-clause-both
returns-in-TooLarge-clause-both g c all may =
    taken_whole c.in_ok-curves.curves (stream c.args.parts.now (to_come all (g.S.Source.told c.args.source.now))) (to_come all (g.S.Source.told c.take_second.new.source)) c.take_second.new.checker c.in-Ok.taken (c.in-Ok.ensures.gives all may) (c.in-Ok.ensures.whole all may) (c.in-Ok.ensures.few all may)

pub returns-clause-both : goal.returns-clause-both
returns-clause-both g c all may =
    taken_whole c.in_ok-curves.curves (stream c.args.parts.now (to_come all (g.S.Source.told c.args.source.now))) (to_come all (g.S.Source.told c.take_second.new.source)) c.take_second.new.checker c.in-Ok.taken (c.in-Ok.ensures.gives all may) (c.in-Ok.ensures.whole all may) (c.in-Ok.ensures.few all may)

pub end-verdict-requires : goal.end-verdict-requires
end-verdict-requires g c =
    let told = g.S.Source.told c.take_second.new.source in
    let taken = rw c.in-Whole.is at (c.in-Ok.ensures.gives told.given (of_source _ told _ c.take_second.ensures.went.at_end (IsInput-now told))) in
    (taken.0, taken.1, taken.2)

pub returns-in-TooLarge-clause-gives : goal.returns-in-TooLarge-clause-gives
returns-in-TooLarge-clause-gives g c all may =
    let long = rw c.in-TooLarge.is at (c.in-Ok.ensures.gives all may) in
    grind (arith, common_steps, long)

pub returns-clause-whole : goal.returns-clause-whole
returns-clause-whole g c all may = λ done. rw (c.in-Whole.is, c.judge.ensures.unmarked done) at (c.in-Ok.ensures.whole all may)
