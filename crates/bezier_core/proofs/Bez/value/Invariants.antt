use Rattle.bezier_core.proofs.Prelude.{◌≡◌, ℕ, ◌-◌, ◌<◌, ◌≤◌, pos, ◌*ℤ◌, power, at, bernstein, bern, IsWithin}
use Rattle.bezier_core.proofs.Bez.value.Given as goal

abbrev pub invariant-loop-last : goal.invariant-loop-last
invariant-loop-last g l = record {
  some : 1 ≤ l.last;
  sum : bernstein (l.last - 1) (at l.row) l.a l.c ≡ bern l.self.b l.a l.c;
  small : (k : ℕ) → k < l.last → IsWithin (pos 32768 *ℤ power l.c (g.row.N - l.last)) (at l.row k);
}
