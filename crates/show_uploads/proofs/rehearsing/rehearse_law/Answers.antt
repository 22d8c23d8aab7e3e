use Rattle.show_uploads.proofs.RehearseLemmas.{rehearse_laws}
use Rattle.show_uploads.proofs.rehearsing.rehearse_law.Goals as goal

pub returns : goal.returns
returns c = rehearse_laws c.curve_law.ensures c.schedule_law.ensures
