use Rattle.show_studies.proofs.StudyLaws.{dynamics_laws}
use Rattle.show_studies.proofs.accelerating.dynamics.Goals as goal

pub run_any-requires-clause-verb : goal.run_any-requires-clause-verb
run_any-requires-clause-verb g c = dynamics_laws c.args.depth c.args.accel c.args.jump
