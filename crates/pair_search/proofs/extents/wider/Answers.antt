use Rattle.pair_search.proofs.Prelude.{arith}
use Rattle.pair_search.proofs.Reaches.{among, extent_wider, told}
use Rattle.pair_search.proofs.extents.wider.Goals as goal

pub returns : goal.returns
returns c a b p q = (
  extent_wider c.lesser.result c.lesser-2.result c.lesser-3.result c.greater.result c.greater-2.result c.greater-3.result
      (among _ _ c.lesser.result (p.small 0 (omega arith)).0 (q.small 0 (omega arith)).0 c.lesser.ensures.either) (among _ _ c.lesser-2.result (p.small 1 (omega arith)).0 (q.small 1 (omega arith)).0 c.lesser-2.ensures.either) (among _ _ c.lesser-3.result (p.small 2 (omega arith)).0 (q.small 2 (omega arith)).0 c.lesser-3.ensures.either) (among _ _ c.greater.result (p.small 0 (omega arith)).1 (q.small 0 (omega arith)).1 c.greater.ensures.either) (among _ _ c.greater-2.result (p.small 1 (omega arith)).1 (q.small 1 (omega arith)).1 c.greater-2.ensures.either) (among _ _ c.greater-3.result (p.small 2 (omega arith)).1 (q.small 2 (omega arith)).1 c.greater-3.ensures.either)
      a c.args.first.now p (rw (told _ ((p.small 0 (omega arith)).0)) at c.lesser.ensures.first) (rw (told _ ((p.small 1 (omega arith)).0)) at c.lesser-2.ensures.first) (rw (told _ ((p.small 2 (omega arith)).0)) at c.lesser-3.ensures.first) (rw (told _ ((p.small 0 (omega arith)).1)) at c.greater.ensures.first) (rw (told _ ((p.small 1 (omega arith)).1)) at c.greater-2.ensures.first) (rw (told _ ((p.small 2 (omega arith)).1)) at c.greater-3.ensures.first),
  extent_wider c.lesser.result c.lesser-2.result c.lesser-3.result c.greater.result c.greater-2.result c.greater-3.result
      (among _ _ c.lesser.result (p.small 0 (omega arith)).0 (q.small 0 (omega arith)).0 c.lesser.ensures.either) (among _ _ c.lesser-2.result (p.small 1 (omega arith)).0 (q.small 1 (omega arith)).0 c.lesser-2.ensures.either) (among _ _ c.lesser-3.result (p.small 2 (omega arith)).0 (q.small 2 (omega arith)).0 c.lesser-3.ensures.either) (among _ _ c.greater.result (p.small 0 (omega arith)).1 (q.small 0 (omega arith)).1 c.greater.ensures.either) (among _ _ c.greater-2.result (p.small 1 (omega arith)).1 (q.small 1 (omega arith)).1 c.greater-2.ensures.either) (among _ _ c.greater-3.result (p.small 2 (omega arith)).1 (q.small 2 (omega arith)).1 c.greater-3.ensures.either)
      b c.args.second.now q (rw (told _ ((q.small 0 (omega arith)).0)) at c.lesser.ensures.second) (rw (told _ ((q.small 1 (omega arith)).0)) at c.lesser-2.ensures.second) (rw (told _ ((q.small 2 (omega arith)).0)) at c.lesser-3.ensures.second) (rw (told _ ((q.small 0 (omega arith)).1)) at c.greater.ensures.second) (rw (told _ ((q.small 1 (omega arith)).1)) at c.greater-2.ensures.second) (rw (told _ ((q.small 2 (omega arith)).1)) at c.greater-3.ensures.second),
)
