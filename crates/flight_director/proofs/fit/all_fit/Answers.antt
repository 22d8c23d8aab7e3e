use Rattle.flight_director.proofs.Prelude.{◌≡◌, ◌∙◌, false, sym, arith}
use Rattle.std.proofs.lemmas.Bool.{not-true}
use Rattle.flight_director.proofs.Walks.{all_fit-short, all_fit-unfit}
use Rattle.flight_director.proofs.fit.all_fit.Goals as goal

pub returns-then-d-tracks : goal.returns-then-d-tracks
returns-then-d-tracks c =
    sym (c.loop-d.invariant ∙ all_fit-short c.args.silence c.args.conditions.now c.args.tracks.now c.loop-d.d (omega arith) (omega arith))

pub returns-then-not-is_fit : goal.returns-then-not-is_fit
returns-then-not-is_fit c =
    let no : c.is_fit.result ≡ false = cc in
    sym (c.loop-d.invariant ∙ all_fit-unfit c.args.silence c.args.conditions.now c.args.tracks.now c.loop-d.d _ _ (omega arith) (omega arith) (sym c.is_fit.ensures ∙ no))
