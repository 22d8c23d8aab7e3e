use Rattle.choreo_lines.proofs.Prelude.{◌≡◌, ℕ, ◌*◌, ◌^◌, ◌≤◌, capped}
use Rattle.choreo_lines.proofs.quantity.with_zeros.Given as goal

abbrev pub invariant-loop : goal.invariant-loop
invariant-loop l = record {
  small : l.n ≤ 1000000000000;
  each : (kept : ℕ) → l.number ≡ capped kept → l.n ≡ capped (kept * 10 ^ l.counter);
}
