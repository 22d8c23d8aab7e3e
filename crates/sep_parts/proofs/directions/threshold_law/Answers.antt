use Rattle.sep_parts.proofs.Roots.{laws}
use Rattle.sep_parts.proofs.directions.threshold_law.Goals as goal

pub returns : goal.returns
returns c = laws
