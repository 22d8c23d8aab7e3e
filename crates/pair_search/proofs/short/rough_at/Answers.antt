use Rattle.pair_search.proofs.Prelude.{short_lane_at}
use Rattle.pair_search.proofs.ShortLemmas.{rough_of}
use Rattle.pair_search.proofs.short.rough_at.Goals as goal

pub returns : goal.returns
returns c = λ small.
    rough_of (short_lane_at c.args.short.now c.args.i) (record { x = c.args.x; y = c.args.y; z = c.args.z }) c.high_product.result c.high_product-2.result c.high_product-3.result small
    (record { x = c.ranges.x; y = c.ranges.y; z = c.ranges.z }) c.high_product.ensures c.high_product-2.ensures c.high_product-3.ensures
