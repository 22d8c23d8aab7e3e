use Rattle.show_studies.proofs.StudyLaws.{speed_laws}
use Rattle.show_studies.proofs.speeding.speed.Goals as goal

pub run_any-requires-clause-verb : goal.run_any-requires-clause-verb
run_any-requires-clause-verb g c = speed_laws c.args.depth c.args.limit
