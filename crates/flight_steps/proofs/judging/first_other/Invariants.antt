use Rattle.flight_steps.proofs.Prelude.{◌≡◌, ◌≤◌, drop, length, first_other}
use Rattle.flight_steps.proofs.judging.first_other.Given as goal

abbrev pub invariant-loop-d : goal.invariant-loop-d
invariant-loop-d l = record {
  inside : l.d ≤ length l.b;
  same : first_other 0 l.a l.b ≡ first_other l.d (drop l.d l.a) (drop l.d l.b);
}
