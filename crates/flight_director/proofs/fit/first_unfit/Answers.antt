use Rattle.flight_director.proofs.Prelude.{◌≡◌, ◌∙◌, false, sym, arith}
use Rattle.flight_director.proofs.Walks.{first_unfit-short, first_unfit-here}
use Rattle.flight_director.proofs.fit.first_unfit.Goals as goal

pub returns-then-d-tracks-clause-value : goal.returns-then-d-tracks-clause-value
returns-then-d-tracks-clause-value c =
    sym (c.loop-d.invariant ∙ first_unfit-short c.args.silence c.loop-d.d c.args.conditions.now c.args.tracks.now c.loop-d.d (omega arith))

pub returns-then-not-is_fit-clause-value : goal.returns-then-not-is_fit-clause-value
returns-then-not-is_fit-clause-value c =
    let no : c.is_fit.result ≡ false = cc in
    sym (c.loop-d.invariant ∙ first_unfit-here c.args.silence c.loop-d.d c.args.conditions.now c.args.tracks.now c.loop-d.d _ _ (omega arith) (omega arith) (sym c.is_fit.ensures ∙ no))
