use Rattle.show_looks.proofs.Prelude.{◌≡◌, ◌*◌, ◌≤◌, sum, take}
use Rattle.show_looks.proofs.numbers.total.Given as goal

-- the sum so far
abbrev pub invariant-loop-number : goal.invariant-loop-number
invariant-loop-number l = record {
  so_far : l.total ≡ sum (take l.number-index l.numbers);
  most : l.total ≤ 4096 * l.number-index;
}
