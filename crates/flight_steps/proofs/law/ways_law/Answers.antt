use Rattle.flight_steps.proofs.Rejections.{rows}
use Rattle.flight_steps.proofs.law.ways_law.Goals as goal

pub returns : goal.returns
returns c = rows
