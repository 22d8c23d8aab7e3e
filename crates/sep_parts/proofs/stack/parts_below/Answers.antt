use Rattle.sep_parts.proofs.Lows.{wide_enough}
use Rattle.sep_parts.proofs.Parts.{left_level, level_small, right_level}
use Rattle.sep_parts.proofs.Prelude.{left_half, right_half}
use Rattle.sep_parts.proofs.stack.parts_below.Goals as goal

pub halves-requires : goal.halves-requires
halves-requires c = rw c.curves.ensures (λ k d inside k' d' inside'. wide_enough _ (level_small c.args.diff.now c.args.level.now c.requires.level c.raised_law.ensures.values k d inside k' d' inside'))

pub returns-clause-left : goal.returns-clause-left
returns-clause-left c =
    left_level c.args.diff.now c.halves.result.0 c.args.level.now c.requires.level c.requires.shallow c.halves.ensures.sizes.0 (rw c.curves.ensures at c.halves.ensures.left)

pub returns-clause-right : goal.returns-clause-right
returns-clause-right c =
    right_level c.args.diff.now c.halves.result.1 c.args.level.now c.requires.level c.requires.shallow c.halves.ensures.sizes.1 (rw c.curves.ensures at c.halves.ensures.right)

pub returns-clause-left_small : goal.returns-clause-left_small
returns-clause-left_small c = level_small c.args.diff.now (record { place = left_half c.args.level.now.place; part = c.halves.result.0 }) (returns-clause-left c) c.raised_law.ensures.values

pub returns-clause-right_small : goal.returns-clause-right_small
returns-clause-right_small c = level_small c.args.diff.now (record { place = right_half c.args.level.now.place; part = c.halves.result.1 }) (returns-clause-right c) c.raised_law.ensures.values
