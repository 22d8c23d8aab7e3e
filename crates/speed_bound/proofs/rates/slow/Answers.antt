use Rattle.std.proofs.Common.{◌%◌}
use Rattle.std.proofs.lemmas.Nat.{one_shl}
use Rattle.speed_bound.proofs.Prelude.{◌≡◌, ℕ, ◌-◌, ◌*◌, ◌^◌, ◌≤◌, arith, ◌∙◌, ap, mul-le}
use Rattle.speed_bound.proofs.RateLemmas.{slow-few, units-few}
use Rattle.speed_bound.proofs.rates.slow.Goals as goal

-- a shifted one is the power
power : (order depth fall : ℕ) → depth ≤ 8 → fall ≡ (7 - order) * depth → (1 * 2 ^ fall) % 2 ^ 128 ≡ 2 ^ ((7 - order) * depth)
power order depth fall shallow is =
    one_shl fall 128 (omega (arith, is, mul-le (7 - order) depth 7 8 (omega arith) shallow)) ∙ ap (λ (n : ℕ). 2 ^ n) is

pub overflow_mul-result : goal.overflow_mul-result
overflow_mul-result g c = rw (power g.row.K c.args.depth c.fall.result c.fall.ensures.few c.fall.ensures.exact, c.time.ensures) (omega (arith, (slow-few g.row.K c.args.depth c.args.ms c.args.least c.requires.order c.fall.ensures.few c.ranges.ms.fits c.requires.least).0))

pub overflow_mul-result-2 : goal.overflow_mul-result-2
overflow_mul-result-2 g c = rw (power g.row.K c.args.depth c.fall.result c.fall.ensures.few c.fall.ensures.exact, c.time.ensures) (omega (arith, (slow-few g.row.K c.args.depth c.args.ms c.args.least c.requires.order c.fall.ensures.few c.ranges.ms.fits c.requires.least).1))

pub nonzero_div-result : goal.nonzero_div-result
nonzero_div-result g c = rw c.units.ensures (units-few g.row.K c.requires.order).0
