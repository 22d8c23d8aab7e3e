use Rattle.speed_bound.proofs.Prelude.{◌*◌, ◌^◌, arith, sym, pow_pos, rate_of, time}
use Rattle.speed_bound.proofs.RateLemmas.{rate-fits, rate-small, some_product, some_time, under_limit}
use Rattle.speed_bound.proofs.rates.rate.Goals as goal

pub overflow_mul-all : goal.overflow_mul-all
overflow_mul-all g c = rw (c.units.ensures, c.pow.ensures, c.levels-levels.ensures.same) (omega (arith, (rate-fits g.row.K c.args.depth c.args.ms c.args.widest c.requires.order (rw (sym c.levels-levels.ensures.same) c.levels-levels.ensures.most) c.ranges.ms.fits c.requires.widest).0))

pub overflow_mul-all-2 : goal.overflow_mul-all-2
overflow_mul-all-2 g c = rw (c.units.ensures, c.pow.ensures, c.levels-levels.ensures.same) (omega (arith, (rate-fits g.row.K c.args.depth c.args.ms c.args.widest c.requires.order (rw (sym c.levels-levels.ensures.same) c.levels-levels.ensures.most) c.ranges.ms.fits c.requires.widest).1))

pub overflow_mul-time : goal.overflow_mul-time
overflow_mul-time g c = rw (c.time.ensures, c.pow-2.ensures, c.levels-levels.ensures.same) (omega (arith, (rate-fits g.row.K c.args.depth c.args.ms c.args.widest c.requires.order (rw (sym c.levels-levels.ensures.same) c.levels-levels.ensures.most) c.ranges.ms.fits c.requires.widest).2))

pub div_ceil-requires : goal.div_ceil-requires
div_ceil-requires g c = rw (c.time.ensures, c.pow-2.ensures) (some_product (time g.row.K c.args.ms) (2 ^ (7 * c.levels-levels.result)) (some_time g.row.K c.args.ms c.requires.order c.requires.duration) (pow_pos (7 * c.levels-levels.result)))

pub returns-clause-exact : goal.returns-clause-exact
unfolding rate_of
returns-clause-exact g c = rw (sym c.units.ensures, sym c.time.ensures, sym c.levels-levels.ensures.same, sym c.pow.ensures, sym c.pow-2.ensures) c.div_ceil.ensures

pub returns-clause-small : goal.returns-clause-small
returns-clause-small g c = rw (returns-clause-exact g c) (rate-small g.row.K c.args.depth c.args.ms c.args.widest c.requires.order c.requires.duration c.requires.widest)

pub overflow_cast-result : goal.overflow_cast-result
overflow_cast-result g c = omega (arith, under_limit g.row.K c.div_ceil.result c.requires.order (returns-clause-small g c))
