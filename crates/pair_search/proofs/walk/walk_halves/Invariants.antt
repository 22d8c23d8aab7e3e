use Rattle.pair_search.proofs.Prelude.{◌≡◌, length, IsStack, places_of, first_by, TellAll}
use Rattle.pair_search.proofs.Trees.{IsWalk, work}
use Rattle.pair_search.proofs.walk.walk_halves.Given as goal

abbrev pub invariant-loop-level : goal.invariant-loop-level
invariant-loop-level g l = record {
  stack : IsStack l.diff l.waiting;
  as_many : length l.ends ≡ length l.waiting;
  told : TellAll l.ruler l.diff (places_of l.waiting) l.ends;
  walk : IsWalk (first_by l.ruler l.diff) l.depth (places_of l.waiting) l.nodes.items;
}

abbrev pub decreases-loop-level : goal.decreases-loop-level
decreases-loop-level g l = work l.depth (places_of l.waiting)
