use Rattle.bezier_core.proofs.Prelude.{◌≡◌, length, ℕ, ◌-◌, ◌≤◌, pos, ◌*ℤ◌, at, fact}
use Rattle.bezier_core.proofs.RaisedLemmas.{raised_by}
use Rattle.bezier_core.proofs.Bez.to_eight.Given as goal

abbrev pub invariant-loop-degree : goal.invariant-loop-degree
invariant-loop-degree g l = record {
  same_length : length l.row ≡ 8;
  low : g.row.N - 1 ≤ l.degree;
  high : l.degree ≤ 7;
  values : (k : ℕ) → k ≤ l.degree →
      at l.row k ≡ raised_by (l.degree - (g.row.N - 1)) (g.row.N - 1) (λ i. pos (fact (g.row.N - 1)) *ℤ at l.self.b i) k;
}
