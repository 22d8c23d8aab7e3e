use Rattle.pair_search.proofs.Prelude.{◌≡◌, ◌≢◌, ℕ, ℤ, ◌<◌, ◌<ℤ◌, length, get_or, at, HasSmallWeights, IsRough, short_lane_at}
use Rattle.pair_search.proofs.short.short_marks.Given as goal

abbrev pub invariant-loop-i : goal.invariant-loop-i
invariant-loop-i l = record {
  front_long : length l.front ≡ 64;
  back_long : length l.back ≡ 64;
  front : (k : ℕ) → k < l.i → get_or l.front k 0 ≢ 0 → HasSmallWeights (short_lane_at l.short k)
      → (v : ℤ) × IsRough (short_lane_at l.short k) (record { x = l.x; y = l.y; z = l.z }) v × (v <ℤ at l.short.low k);
  back : (k : ℕ) → k < l.i → get_or l.back k 0 ≢ 0 → HasSmallWeights (short_lane_at l.short k)
      → (v : ℤ) × IsRough (short_lane_at l.short k) (record { x = l.x; y = l.y; z = l.z }) v × (at l.short.high k <ℤ v);
}
