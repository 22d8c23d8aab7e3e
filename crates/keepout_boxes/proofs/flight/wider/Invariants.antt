use Rattle.keepout_boxes.proofs.Prelude.{ℕ, ◌<◌, pos, ◌≤ℤ◌, get_or, IsIn}
use Rattle.keepout_boxes.proofs.flight.wider.Given as goal

abbrev pub invariant-loop-k : goal.invariant-loop-k
invariant-loop-k l = record {
  as_low : l.low ≤ℤ l.fn.ends.low;
  as_high : l.fn.ends.high ≤ℤ l.high;
  between : (k : ℕ) → k < l.k → IsIn l.low l.high (get_or l.curve.b k (pos 0));
}
