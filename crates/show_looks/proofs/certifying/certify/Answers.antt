use Rattle.show_looks.proofs.CertifyLemmas.{certify_laws}
use Rattle.show_looks.proofs.certifying.certify.Goals as goal

pub run_any-requires-clause-verb : goal.run_any-requires-clause-verb
run_any-requires-clause-verb g c = certify_laws c.args.depth
