use Rattle.cue_grid.proofs.Numbering.{put_in, keeps_in}
use Rattle.cue_grid.proofs.lookup.number_of.Goals as goal

pub returns-clause-keeps : goal.returns-clause-keeps
returns-clause-keeps c = keeps_in _ _ _ c.in_ok-number.ensures.keys

pub returns-clause-number : goal.returns-clause-number
returns-clause-number c = put_in _ _ _ _ _ c.in_ok-number.ensures.keys c.in_ok-number.ensures.index c.copy_of.ensures
