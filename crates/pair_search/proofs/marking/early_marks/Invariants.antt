use Rattle.pair_search.proofs.Prelude.{◌≡◌, ◌≢◌, ℕ, ◌<◌, ◌<ℤ◌, length, get_or, at, lane_value}
use Rattle.pair_search.proofs.marking.early_marks.Given as goal

abbrev pub invariant-loop-i : goal.invariant-loop-i
invariant-loop-i l = record {
  front_long : length l.front ≡ 16;
  back_long : length l.back ≡ 16;
  front : (k : ℕ) → k < l.i → get_or l.front k 0 ≢ 0 → lane_value l.opposites.lanes l.p k <ℤ at l.opposites.lanes.low k;
  back : (k : ℕ) → k < l.i → get_or l.back k 0 ≢ 0 → at l.opposites.high k <ℤ lane_value l.opposites.lanes l.p k;
}
