use Rattle.pair_search.proofs.Prelude.{ℕ, true, false}
use Rattle.pair_search.proofs.Firsts.{back_first, front_first}
use Rattle.pair_search.proofs.first.first_left.Goals as goal

pub returns-in-Some : goal.returns-in-Some
returns-in-Some g c =
    front_first (λ (dir : ℕ). goal.F-post g c.args.asks.now dir false) (λ (dir : ℕ). goal.F-post g c.args.asks.now dir true) c.args.count c.args.near c.in-Some.dir c.first_marked.result c.first_marked.ensures c.in-Some.is

pub returns-in-None : goal.returns-in-None
returns-in-None g c =
    back_first (λ (dir : ℕ). goal.F-post g c.args.asks.now dir false) (λ (dir : ℕ). goal.F-post g c.args.asks.now dir true) c.args.count c.args.near c.first_marked.result c.first_marked-in-None.result c.first_marked.ensures c.in-None.is c.first_marked-in-None.ensures
