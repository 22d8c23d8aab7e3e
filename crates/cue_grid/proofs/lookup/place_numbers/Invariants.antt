use Rattle.cue_grid.proofs.Prelude.{take, vec_items, ArePlaced}
use Rattle.cue_grid.proofs.lookup.place_numbers.Given as goal

abbrev pub invariant-loop-formation : goal.invariant-loop-formation
invariant-loop-formation l = ArePlaced vec_items l.names.keys (take l.formation-index l.formations) l.all.items
