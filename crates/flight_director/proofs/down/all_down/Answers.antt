use Rattle.flight_director.proofs.Prelude.{◌≡◌, ◌∙◌, false, sym, arith}
use Rattle.flight_director.proofs.Walks.{all_down-short, all_down-high}
use Rattle.flight_director.proofs.down.all_down.Goals as goal

pub returns-then-d-pads : goal.returns-then-d-pads
returns-then-d-pads c =
    sym (c.loop-d.invariant ∙ all_down-short c.args.f.now c.args.still c.args.pads.now c.args.tracks.now c.loop-d.d (omega arith) (omega arith))

pub returns-then-not-is_down : goal.returns-then-not-is_down
returns-then-not-is_down c =
    let no : c.is_down.result ≡ false = cc in
    sym (c.loop-d.invariant ∙ all_down-high c.args.f.now c.args.still c.args.pads.now c.args.tracks.now c.loop-d.d _ _ (omega arith) (omega arith) (sym c.is_down.ensures ∙ no))
