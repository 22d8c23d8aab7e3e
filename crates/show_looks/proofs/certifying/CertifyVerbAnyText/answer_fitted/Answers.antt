use Rattle.show_looks.proofs.Prelude.{refl}
use Rattle.show_looks.proofs.CertifyLemmas.{apart_kept}
use Rattle.show_looks.proofs.certifying.CertifyVerbAnyText.answer_fitted.Goals as goal

pub returns-in_ok-bytes-in-Ok-clause-promised : goal.returns-in_ok-bytes-in-Ok-clause-promised
returns-in_ok-bytes-in-Ok-clause-promised c = λ s cut is uploads done. apart_kept c.args.fitted.now s is uploads (c.in-Ok.ensures.apart refl)
