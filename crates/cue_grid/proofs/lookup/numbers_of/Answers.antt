use Rattle.cue_grid.proofs.Prelude.{arith, common_steps}
use Rattle.cue_grid.proofs.Numbering.{keeps_then, place_numbered}
use Rattle.cue_grid.proofs.lookup.numbers_of.Goals as goal

pub loop-place-preserved : goal.loop-place-preserved
loop-place-preserved c = grind (arith, common_steps, keeps_then, place_numbered)
