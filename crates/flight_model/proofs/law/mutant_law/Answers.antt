use Rattle.flight_model.proofs.MutantRows.{mutant_rows}
use Rattle.flight_model.proofs.law.mutant_law.Goals as goal

pub returns : goal.returns
returns c = mutant_rows
