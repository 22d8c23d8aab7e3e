use Rattle.pair_search.proofs.Prelude.{◌≡◌, ℕ, ◌+◌, ◌-◌, ◌<◌, length, TellsShort, short_lane_at}
use Rattle.pair_search.proofs.short.short_of.Given as goal

abbrev pub invariant-loop-i : goal.invariant-loop-i
invariant-loop-i l = record {
  x_long : length l.short.x ≡ 56;
  y_long : length l.short.y ≡ 56;
  z_long : length l.short.z ≡ 56;
  low_long : length l.short.low ≡ 56;
  high_long : length l.short.high ≡ 56;
  done : (k : ℕ) → k < l.i → TellsShort l.lanes k (l.count - (k + 1)) (short_lane_at l.short k);
}
