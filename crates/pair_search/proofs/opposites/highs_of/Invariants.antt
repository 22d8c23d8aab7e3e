use Rattle.pair_search.proofs.Prelude.{◌≡◌, ℕ, ◌+◌, ◌-◌, ◌<◌, length, at, AreSmallHighs, IsHigh}
use Rattle.pair_search.proofs.opposites.highs_of.Given as goal

abbrev pub invariant-loop-i : goal.invariant-loop-i
invariant-loop-i l = record {
  same_length : length l.high ≡ 56;
  small : AreSmallHighs l.high;
  each : (k : ℕ) → k < l.i → IsHigh l.lanes k (l.count - (k + 1)) (at l.high k);
}
