use Rattle.show_judge.proofs.Prelude.{common_steps, sym, Some, subst, arith, Accepted, Ways, EndsJudged, two_ways, IsAccepted}
use Rattle.show_judge.proofs.AnswerLemmas.{accepted_lands, two_accepted, two_refused}
use Rattle.show_judge.proofs.two.answer_two.Goals as goal

pub answer_second-requires-clause-lands : goal.answer_second-requires-clause-lands
answer_second-requires-clause-lands g c =
    let depth = g.V.TwoTexts.searched c.args.verb.now in
    let a = c.in-Accepted.accepted in
    let ends : EndsJudged (two_ways (Some depth)) c.args.input.now.show (Accepted a) = rw c.in-Accepted.is at c.in_ok-accepted.ensures.whole in
    accepted_lands (two_ways (Some depth)) depth c.args.input.now.show a ends.0 c.requires.show
    (λ cut is. rw (c.in-Accepted.is, c.depth-depth.ensures.value) at (c.in_ok-accepted.ensures.gives cut is))

pub returns-in-Accepted : goal.returns-in-Accepted
returns-in-Accepted g c =
    let depth = g.V.TwoTexts.searched c.args.verb.now in
    let v = g.V.TwoTexts.verb c.args.verb.now in
    let a = c.in-Accepted.accepted in
    let ends : EndsJudged (two_ways (Some depth)) c.args.input.now.show (Accepted a) = rw c.in-Accepted.is at c.in_ok-accepted.ensures.whole in
    two_accepted v c.requires.verb depth (g.V.TwoTexts.most c.args.verb.now) c.args.input.now a c.answer_second.result
    (λ cut is. subst (λ (w : Ways). IsAccepted w depth cut a) (sym c.requires.two.ways) (rw (c.in-Accepted.is, c.depth-depth.ensures.value) at (c.in_ok-accepted.ensures.gives cut is)))
    c.answer_second.ensures.gives ends.0 c.answer_second.ensures.whole c.answer_second.ensures.said

pub returns-in-Refused : goal.returns-in-Refused
returns-in-Refused g c = grind (arith, common_steps, two_refused)
