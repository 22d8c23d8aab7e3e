use Rattle.sep_certificate.proofs.Prelude.{arith, common_steps, rules_of}
use Rattle.sep_certificate.proofs.Disjoint.{keeps_disjoint}
use Rattle.sep_certificate.proofs.Keeping.{keeps}
use Rattle.sep_certificate.proofs.Verdicts.{valid_of, none_of_valid}
use Rattle.sep_certificate.proofs.judge.certificate_law.Goals as goal

pub returns : goal.returns
returns c = record {
  apart = λ dirs curves clear cert small valid. keeps (rules_of clear cert) dirs curves cert.trees small valid;
  disjoint = λ dirs curves clear cert valid. keeps_disjoint (rules_of clear cert) dirs curves cert.trees valid;
  exact = grind (arith, common_steps, valid_of, none_of_valid);
}
