use Rattle.show_studies.proofs.StudyLaws.{explain_laws}
use Rattle.show_studies.proofs.explaining.explain.Goals as goal

pub run_any-requires-clause-verb : goal.run_any-requires-clause-verb
run_any-requires-clause-verb g c = explain_laws c.args.study.depth c.args.study.fine c.args.study.all
