use Rattle.pair_search.proofs.walk.search.Goals as goal

pub returns-clause-clear : goal.returns-clause-clear
returns-clause-clear g c = rw c.make.ensures at c.search_with.ensures.clear
