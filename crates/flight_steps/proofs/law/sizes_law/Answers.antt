use Rattle.flight_steps.proofs.Counted.{size_rows}
use Rattle.flight_steps.proofs.law.sizes_law.Goals as goal

pub returns : goal.returns
returns c = size_rows
