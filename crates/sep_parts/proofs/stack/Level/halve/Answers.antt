use Rattle.sep_parts.proofs.Halved.{less_told}
use Rattle.sep_parts.proofs.Lows.{wide_enough}
use Rattle.sep_parts.proofs.Parts.{left_level, level_halved, level_small, right_level}
use Rattle.sep_parts.proofs.stack.Level.halve.Goals as goal

pub halve-requires-clause-values : goal.halve-requires-clause-values
halve-requires-clause-values c k d inside k' d' inside' = wide_enough _ (level_small c.args.diff.now c.args.self.now c.requires.level c.raised_law.ensures.values k d inside k' d' inside')

pub halve-requires-clause-narrow : goal.halve-requires-clause-narrow
halve-requires-clause-narrow c = λ yes. level_halved c.args.diff.now c.args.self.now (less_told _ _ yes) c.requires.level c.raised_law.ensures.values

pub returns-clause-left : goal.returns-clause-left
returns-clause-left c =
    rw c.left-first.ensures (left_level c.args.diff.now c.halve.new.left c.args.self.now c.requires.level c.requires.shallow c.halve.ensures.sizes.0 c.halve.ensures.left)

pub returns-clause-right : goal.returns-clause-right
returns-clause-right c =
    rw c.right-self.ensures (right_level c.args.diff.now c.halve.new.self c.args.self.now c.requires.level c.requires.shallow c.halve.ensures.sizes.1 c.halve.ensures.right)
