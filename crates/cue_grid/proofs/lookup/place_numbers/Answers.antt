use Rattle.cue_grid.proofs.Prelude.{vec_items}
use Rattle.cue_grid.proofs.Numbering.{formation_placed}
use Rattle.cue_grid.proofs.lookup.place_numbers.Goals as goal

pub loop-formation-preserved : goal.loop-formation-preserved
loop-formation-preserved c = formation_placed vec_items _ _ _ _ _ _ _ _ _ c.loop-formation-test.true c.formation-item.is c.loop-formation.invariant c.in_ok-numbers.ensures.keeps c.as_slice.ensures c.in_ok-numbers.ensures.numbers c.in_ok-push.ensures.items
