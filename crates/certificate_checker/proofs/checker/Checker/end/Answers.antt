use Rattle.certificate_checker.proofs.Prelude.{common_steps, ◌≡◌, arith, sym, subst, Seen, most_bytes, closed, verdict_of, AreFew}
use Rattle.certificate_checker.proofs.Bytes.{few_of, named_told, safe_told, verdict_told}
use Rattle.certificate_checker.proofs.Few.{few_within}
use Rattle.certificate_checker.proofs.checker.Checker.end.Goals as goal

pub verdict-requires-clause-few : goal.verdict-requires-clause-few
verdict-requires-clause-few c =
    subst (λ (s : Seen). AreFew most_bytes s.checking.reading) (sym c.self.view_is)
    (few_within _ most_bytes _ c.requires.1 (few_of c.args.self.now c.args.curves.now c.requires.0 c.requires.2))

pub returns-clause-gives : goal.returns-clause-gives
returns-clause-gives c = grind (arith, common_steps, verdict_told)

pub returns-clause-named : goal.returns-clause-named
returns-clause-named c =
    named_told c.args.curves.now c.args.self.now.clearance c.requires.0 c.verdict.result
    (verdict_told c.args.self.now c.args.curves.now c.requires.0 c.verdict.result (omega arith) (omega arith) c.requires.1 c.requires.2
    (subst (λ (s : Seen). c.verdict.result ≡ verdict_of c.args.curves.now (closed s.clearance c.args.curves.now s.checking)) c.self.view_is c.verdict.ensures.verdict))

pub returns-clause-safe : goal.returns-clause-safe
returns-clause-safe c =
    safe_told c.args.curves.now c.args.self.now.clearance c.requires.0 c.verdict.result
    (verdict_told c.args.self.now c.args.curves.now c.requires.0 c.verdict.result (omega arith) (omega arith) c.requires.1 c.requires.2
    (subst (λ (s : Seen). c.verdict.result ≡ verdict_of c.args.curves.now (closed s.clearance c.args.curves.now s.checking)) c.self.view_is c.verdict.ensures.verdict))
