use Rattle.fleet_curves.proofs.Prelude.{◌≡◌, ◌^◌, ◌-ℤ◌, ℕ, ℤ, arith, rules, lit<, at, below_at, eight_from_entries}
use Rattle.fleet_curves.proofs.Small.{told_less}
use Rattle.fleet_curves.proofs.Rows.{set_below}
use Rattle.fleet_curves.proofs.curves.row_less.Goals as goal

pub returns : goal.returns
returns c = eight_from_entries c.loop-k.row _ c.loop-k.invariant.same_length (λ k less. c.loop-k.invariant.done k (omega (arith, less)))

pub loop-k-preserved : goal.loop-k-preserved
loop-k-preserved c = record {
  same_length = search rules;
  done = set_below (λ (k : ℕ) (z : ℤ). z ≡ at c.args.second.now k -ℤ at c.args.first.now k) c.loop-k.row c.loop-k.k _ (omega (arith, c.loop-k.invariant.same_length))
      (told_less _ _ _ (below_at (2 ^ 28) c.args.second.now c.loop-k.k (lit< tt) c.requires.second) (below_at (2 ^ 28) c.args.first.now c.loop-k.k (lit< tt) c.requires.first) c.value_less.ensures)
      c.loop-k.invariant.done;
}
