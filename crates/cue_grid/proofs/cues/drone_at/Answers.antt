use Rattle.cue_grid.proofs.Prelude.{get_or, sym, ap, ◌∙◌}
use Rattle.cue_grid.proofs.Placing.{stands_here}
use Rattle.cue_grid.proofs.cues.drone_at.Goals as goal

pub returns-then-same_name : goal.returns-then-same_name
returns-then-same_name c =
    stands_here c.args.drones.now c.args.name.now c.args.from (get_or c.args.drones.now c.args.from c.index-drones-from.result) c.if-from-drones.true
    (ap (λ d. get_or c.args.drones.now c.args.from d) c.index-drones-from.is) (sym c.same_name.ensures ∙ c.if-same_name.true)

pub returns-then-same_name-2 : goal.returns-then-same_name-2
returns-then-same_name-2 c =
    stands_here c.args.drones.now c.args.name.now c.loop-k.k c.index-drones-k.result c.loop-k-test.true c.index-drones-k.is
    (sym c.same_name-in-loop-k.ensures ∙ c.if-same_name-2.true)
