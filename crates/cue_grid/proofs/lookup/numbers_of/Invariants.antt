use Rattle.cue_grid.proofs.Prelude.{take, names_of, Keeps, HasNumbers}
use Rattle.cue_grid.proofs.lookup.numbers_of.Given as goal

abbrev pub invariant-loop-place : goal.invariant-loop-place
invariant-loop-place l = Keeps l.initial.names.keys l.names.keys × HasNumbers l.names.keys (names_of (take l.place-index l.places)) l.numbers.items
