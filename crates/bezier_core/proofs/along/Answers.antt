use Rattle.bezier_core.proofs.Prelude.{rules, ◌*◌, ℤ, sym, subst, List, All, IsBelow, along_value}
use Rattle.bezier_core.proofs.SizeLemmas.{eight_below, along_below}
use Rattle.bezier_core.proofs.along.Goals as goal

pub returns-clause-exact : goal.returns-clause-exact
returns-clause-exact c = search rules

pub returns-clause-small : goal.returns-clause-small
returns-clause-small c n some values =
    subst (λ (xs : List ℤ). All (IsBelow (12000 * n)) xs) (sym (returns-clause-exact c))
    (eight_below (12000 * n) (along_value c.args.xyz.now c.args.w)
    (λ k few. along_below n k c.args.xyz.now c.args.w some c.requires.weights values))

pub along_at-requires-clause-values : goal.along_at-requires-clause-values
along_at-requires-clause-values c = c.requires.values

pub along_at-requires-clause-weights : goal.along_at-requires-clause-weights
along_at-requires-clause-weights c = c.requires.weights

pub along_at-requires-2-clause-values : goal.along_at-requires-2-clause-values
along_at-requires-2-clause-values c = c.requires.values

pub along_at-requires-2-clause-weights : goal.along_at-requires-2-clause-weights
along_at-requires-2-clause-weights c = c.requires.weights

pub along_at-requires-3-clause-values : goal.along_at-requires-3-clause-values
along_at-requires-3-clause-values c = c.requires.values

pub along_at-requires-3-clause-weights : goal.along_at-requires-3-clause-weights
along_at-requires-3-clause-weights c = c.requires.weights

pub along_at-requires-4-clause-values : goal.along_at-requires-4-clause-values
along_at-requires-4-clause-values c = c.requires.values

pub along_at-requires-4-clause-weights : goal.along_at-requires-4-clause-weights
along_at-requires-4-clause-weights c = c.requires.weights

pub along_at-requires-5-clause-values : goal.along_at-requires-5-clause-values
along_at-requires-5-clause-values c = c.requires.values

pub along_at-requires-5-clause-weights : goal.along_at-requires-5-clause-weights
along_at-requires-5-clause-weights c = c.requires.weights

pub along_at-requires-6-clause-values : goal.along_at-requires-6-clause-values
along_at-requires-6-clause-values c = c.requires.values

pub along_at-requires-6-clause-weights : goal.along_at-requires-6-clause-weights
along_at-requires-6-clause-weights c = c.requires.weights

pub along_at-requires-7-clause-values : goal.along_at-requires-7-clause-values
along_at-requires-7-clause-values c = c.requires.values

pub along_at-requires-7-clause-weights : goal.along_at-requires-7-clause-weights
along_at-requires-7-clause-weights c = c.requires.weights

pub along_at-requires-8-clause-values : goal.along_at-requires-8-clause-values
along_at-requires-8-clause-values c = c.requires.values

pub along_at-requires-8-clause-weights : goal.along_at-requires-8-clause-weights
along_at-requires-8-clause-weights c = c.requires.weights
