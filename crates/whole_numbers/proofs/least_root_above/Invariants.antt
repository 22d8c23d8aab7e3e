use Rattle.whole_numbers.proofs.Prelude.{pos, ◌^◌, ◌-ℤ◌, ◌*ℤ◌, ◌<ℤ◌, ◌≤ℤ◌, unsigned_abs}
use Rattle.whole_numbers.proofs.least_root_above.Given as goal

abbrev pub invariant-loop-high : goal.invariant-loop-high
invariant-loop-high l = record {
  not_negative : pos 0 ≤ℤ l.low;
  apart : l.low <ℤ l.high;
  small : l.high ≤ℤ pos (2 ^ 50);
  under : (l.low *ℤ l.low) ≤ℤ l.v;
  over : l.v <ℤ (l.high *ℤ l.high);
}

abbrev pub decreases-loop-high : goal.decreases-loop-high
decreases-loop-high l = unsigned_abs (l.high -ℤ l.low)
