use Rattle.pair_search.proofs.Prelude.{arith, bit_at-trailing_zeros}
use Rattle.std.proofs.Common.{w64}
use Rattle.pair_search.proofs.marking.lowest.Goals as goal

pub returns-clause-set : goal.returns-clause-set
returns-clause-set c =
    let told = bit_at-trailing_zeros w64 c.args.bits (omega (arith, c.requires)) c.ranges.bits.fits in
    told.1

pub returns-clause-below : goal.returns-clause-below
returns-clause-below c =
    let told = bit_at-trailing_zeros w64 c.args.bits (omega (arith, c.requires)) c.ranges.bits.fits in
    told.2
