use Rattle.pair_search.proofs.Prelude.{◌*◌, HasExtents}
use Rattle.pair_search.proofs.extents.extents_of.Given as goal

abbrev pub invariant-loop-drone : goal.invariant-loop-drone
invariant-loop-drone l = HasExtents l.curves (l.drone * l.curves.cues) l.all.items
