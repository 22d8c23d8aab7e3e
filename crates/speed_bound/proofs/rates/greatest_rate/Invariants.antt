use Rattle.speed_bound.proofs.Prelude.{◌≡◌, ◌<◌, max, at, raised, points, duration, greatest_below, limit, segment_rate, value_at}
use Rattle.speed_bound.proofs.rates.greatest_rate.Given as goal

abbrev pub invariant-loop-s : goal.invariant-loop-s
invariant-loop-s g l = record {
  value : l.value ≡ value_at l.t l.axis l.s-index;
  most : l.most ≡ max l.fn.least (greatest_below l.s-index (λ cue. segment_rate g.row.K l.depth (duration l.t cue) (at (raised (points l.t cue l.axis)))));
  small : l.most < limit g.row.K;
}
