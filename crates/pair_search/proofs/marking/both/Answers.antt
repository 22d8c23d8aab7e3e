use Rattle.pair_search.proofs.Prelude.{arith, by_lt}
use Rattle.pair_search.proofs.EndLemmas.{both_clear}
use Rattle.pair_search.proofs.marking.both.Goals as goal

pub returns : goal.returns
returns c = λ s p early late. record {
  front = λ i from before clear.
      let clears = both_clear c.args.early.front c.args.late.front i clear in
      by_lt i 16 (λ less. early.front i (omega arith) less clears.0) (λ more. late.front i more before clears.1);
  back = λ i from before clear.
      let clears = both_clear c.args.early.back c.args.late.back i clear in
      by_lt i 16 (λ less. early.back i (omega arith) less clears.0) (λ more. late.back i more before clears.1);
}
