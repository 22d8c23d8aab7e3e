use Rattle.speed_bound.proofs.Prelude.{◌≡◌, ℕ, ◌-◌, ◌*◌, ◌^◌, ◌≤◌, ℤ, pos, arith, lit<, sym, List, All, ints, pow-le-pow_right, at, IsBelow, IsWithin, widest_in}
use Rattle.bezier_core.proofs.EightLemmas.{below_at}
use Rattle.speed_bound.proofs.RateLemmas.{none_faster, parts_no_faster, whole-fits, widest-few}
use Rattle.speed_bound.proofs.rates.curve_rate.Goals as goal

-- what is below 2^28 is within a power that is as large
wide : (n : ℕ) (x : ℤ) → 28 ≤ n → IsBelow (2 ^ 28) x → IsWithin (pos (2 ^ n)) x
wide n x more below =
    let room : 2 ^ 28 ≤ 2 ^ n = pow-le-pow_right {n = 2} (lit< tt) more in
    (omega (arith, ints, room, below.0), omega (arith, ints, room, below.1))

within : (b : List ℤ) (k : ℕ) → All (IsBelow (2 ^ 28)) b → IsWithin (pos (2 ^ 28)) (at b k)
within b k values = wide 28 (at b k) (omega arith) (below_at (2 ^ 28) b k (lit< tt) values)

pub widest-whole-requires-clause-values : goal.widest-whole-requires-clause-values
widest-whole-requires-clause-values g c k d inside = wide 56 _ (omega arith) (c.requires.values k d inside)

pub overflow_mul-units : goal.overflow_mul-units
overflow_mul-units g c =
    rw c.units.ensures (omega (arith, (whole-fits g.row.K c.args.ms c.args.least c.widest-whole.result (at c.args.curve.now.b) c.requires.order c.ranges.ms.fits c.requires.least c.widest-whole.ensures (λ k small. within c.args.curve.now.b k c.requires.values)).0))

pub overflow_mul-time : goal.overflow_mul-time
overflow_mul-time g c =
    rw c.time.ensures (omega (arith, (whole-fits g.row.K c.args.ms c.args.least c.widest-whole.result (at c.args.curve.now.b) c.requires.order c.ranges.ms.fits c.requires.least c.widest-whole.ensures (λ k small. within c.args.curve.now.b k c.requires.values)).1))

pub returns-then-units-whole-clause-exact : goal.returns-then-units-whole-clause-exact
returns-then-units-whole-clause-exact g c =
    none_faster g.row.K c.args.depth c.args.ms c.args.least c.widest-whole.result (at c.args.curve.now.b) c.requires.order c.requires.duration c.widest-whole.ensures
    (rw (sym c.units.ensures, sym c.time.ensures) c.if-units-whole.true)

pub widest_part-found-requires-clause-values : goal.widest_part-found-requires-clause-values
widest_part-found-requires-clause-values g c k d inside =
    let more : 28 ≤ 84 - 7 * c.args.depth = omega (arith, c.slow-slow.ensures.shallow) in wide (84 - 7 * c.args.depth) _ more (c.requires.values k d inside)

pub returns-then-found-slow-clause-exact : goal.returns-then-found-slow-clause-exact
returns-then-found-slow-clause-exact g c =
    parts_no_faster g.row.K c.args.depth c.args.ms c.slow-slow.result c.widest_part-found.result c.args.least (at c.args.curve.now.b) c.requires.order c.requires.duration c.slow-slow.ensures.exact c.widest_part-found.ensures
    (omega (arith, c.if-found-slow.true))

pub rate-requires-clause-widest : goal.rate-requires-clause-widest
rate-requires-clause-widest g c =
    let same : c.widest_part-found.result ≡ widest_in g.row.K c.args.depth (at c.args.curve.now.b) = omega (arith, c.widest_part-found.ensures, c.if-found-slow.false) in
    rw same (widest-few g.row.K c.args.depth (at c.args.curve.now.b) c.requires.order (λ k small. within c.args.curve.now.b k c.requires.values))
