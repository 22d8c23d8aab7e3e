use Rattle.pair_search.proofs.Prelude.{◌+◌, ◌*◌, HasExtents}
use Rattle.pair_search.proofs.extents.add_extents.Given as goal

abbrev pub invariant-loop-cue : goal.invariant-loop-cue
invariant-loop-cue l = HasExtents l.curves (l.drone * l.curves.cues + l.cue) l.all.items
