use Rattle.show_plan.proofs.Prelude.{table_of, measure_of}
use Rattle.show_plan.proofs.separation.ruler_of.Goals as goal

pub returns : goal.returns
unfolding measure_of table_of
returns c = c.make.ensures
