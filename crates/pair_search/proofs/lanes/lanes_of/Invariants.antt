use Rattle.pair_search.proofs.Prelude.{◌≡◌, ℕ, ◌<◌, length, direction_of, IsLane, IsSmallLane}
use Rattle.pair_search.proofs.lanes.lanes_of.Given as goal

abbrev pub invariant-loop-i : goal.invariant-loop-i
invariant-loop-i g l = record {
  x_long : length l.lanes.x ≡ 112;
  y_long : length l.lanes.y ≡ 112;
  z_long : length l.lanes.z ≡ 112;
  low_long : length l.lanes.low ≡ 112;
  small : (j : ℕ) → j < 112 → IsSmallLane l.lanes j;
  done : (j : ℕ) → j < l.i → IsLane l.ruler.clearance (direction_of l.ruler.directions j) l.lanes j;
}
