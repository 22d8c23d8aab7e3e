use Rattle.cue_grid.proofs.Prelude.{shown, played}
use Rattle.cue_grid.proofs.Placing.{line_none}
use Rattle.cue_grid.proofs.cues.put_line.Goals as goal

pub returns-in-None : goal.returns-in-None
returns-in-None c = line_none (shown c.args.show.now).formations (played c.args.cast.now) _ _ _ _ _ _ c.in-Form.is c.in-None.ensures
