use Rattle.certificate_checker.proofs.Prelude.{common_steps, arith, checked_all}
use Rattle.certificate_checker.proofs.Bytes.{first_next}
use Rattle.certificate_checker.proofs.checker.Checker.make.Goals as goal

pub returns-clause-has_read : goal.returns-clause-has_read
unfolding checked_all
returns-clause-has_read c = grind (arith, common_steps, first_next)
