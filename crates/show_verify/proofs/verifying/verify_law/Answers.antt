use Rattle.show_verify.proofs.VerifyLemmas.{verify_laws}
use Rattle.show_verify.proofs.verifying.verify_law.Goals as goal

pub returns : goal.returns
returns c = verify_laws c.text_law.ensures c.certificate_law.ensures
