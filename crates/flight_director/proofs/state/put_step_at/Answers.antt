use Rattle.flight_director.proofs.Prelude.{◌≡◌, ◌++◌, ◌∙◌, Option, None, Some, sym, ap, subst, arith, append-nil, slice_get_past, slice_get-get_or, slice_get, frames_of_step, AreFew}
use Rattle.flight_model.specs.declared.flights.Step.{Step}
use Rattle.flight_director.proofs.state.put_step_at.Goals as goal

pub put_all-requires-clause-small : goal.put_all-requires-clause-small
put_all-requires-clause-small c = c.requires.small c.args.k c.index-steps-k.result (omega arith)

pub returns-then-k-steps : goal.returns-then-k-steps
returns-then-k-steps c =
    let e : slice_get c.args.steps.now c.args.k ≡ None = slice_get_past c.args.steps.now c.args.k (omega arith) in
    sym (ap (λ (o : Option Step). c.args.out.now.items ++ frames_of_step o) e ∙ append-nil c.args.out.now.items)

pub returns : goal.returns
returns c =
    let e = slice_get-get_or c.args.steps.now c.args.k c.index-steps-k.result (omega arith) in
    c.put_all.ensures ∙ sym (ap (λ (o : Option Step). c.args.out.now.items ++ frames_of_step o) e)
