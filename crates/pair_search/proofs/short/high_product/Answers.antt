use Rattle.pair_search.proofs.ShortLemmas.{product_told}
use Rattle.pair_search.proofs.short.high_product.Goals as goal

pub returns : goal.returns
returns c = product_told c.args.a c.args.b c.from.result c.from-2.result c.ranges.a c.ranges.b c.from.ensures c.from-2.ensures
