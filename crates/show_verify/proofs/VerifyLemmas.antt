-- The laws of `verify`.
use Rattle.show_verify.proofs.Prelude.{◌≡◌, ℕ, ◌==◌, Bool, true, false, cond, List, length, Option, Some, None, refl, sym, ap, subst, ◌∙◌, arith, lines, PlainShow, raised_of, Refusal, known_in, table_of, CertFault, Certificate, IsWholeIn, fault_of, Says, bad_line, clearance_of, second_refusal, Cut, names_of, trajectories_of, Outcome, CertificateGives, VerifyGives, VerifyLaw, VerifySucceeds, certificate_limit, judged, judged_for, verify_verb}
use Rattle.sep_parts.specs.declared.directions.TheConstants.{DIRECTIONS, WIDE}
use Rattle.sep_certificate.specs.Laws.{CertificateLaw}
use Rattle.sep_certificate.specs.Readings.{TextLaw}
use Rattle.show_judge.proofs.HeadlineLemmas.{flies_text, none_both}
use Rattle.show_judge.proofs.VerbLemmas.{none_mapped, within_limit}

-- ---- one outcome

-- a certificate's text gives one outcome
certificate_one : TextLaw → (refused : Option Refusal) (s : PlainShow) (cut : Cut) (o p : Outcome) → CertificateGives refused s cut o → CertificateGives refused s cut p → o ≡ p
certificate_one law (Some r) s cut o p first second = first ∙ sym second
certificate_one law None s cut o p first second = first.2 ∙ ap (judged_for s) (law.one cut.second first.0 second.0 first.1 second.1) ∙ sym second.2

-- ---- there is one

-- a certificate's text that isn't refused says a certificate, so it gives an outcome
certificate_some : TextLaw → (refused : Option Refusal) (s : PlainShow) (cut : Cut) → second_refusal certificate_limit (bad_line (lines cut.second)) cut ≡ refused → (o : Outcome) × CertificateGives refused s cut o
certificate_some law (Some r) s cut is = (_, refl)
certificate_some law None s cut is =
    let parts = within_limit certificate_limit (length cut.second) _ _ is in
    let clean : bad_line (lines cut.second) ≡ None = none_mapped _ (bad_line (lines cut.second)) (none_both _ _ parts.1).0 in
    let said = law.said cut.second (omega (arith, parts.0)) clean in
    (judged_for s said.0, (said.0, said.1, refl))

-- ---- status 0

-- a version's table has as many directions as the version knows
table_counted : (version : ℕ) → length (table_of version) ≡ known_in version
unfolding table_of
table_counted version = by_test (version == 1)
  where
    by_test : (b : Bool) → length (cond b DIRECTIONS.n WIDE.n) ≡ cond b 26 98
    by_test true = refl
    by_test false = refl

says_whole : (c : Certificate) (text : List ℕ) → Says text c → IsWholeIn (length (table_of c.version)) c
says_whole c text says = subst (λ (m : ℕ). IsWholeIn m c) (sym (table_counted c.version)) says.whole.whole

valid_done : CertificateLaw → (s : PlainShow) (c : Certificate) → (fault_of (table_of c.version) (raised_of (trajectories_of s)) (clearance_of s.settings (trajectories_of s)) c ≡ None) → (judged_for s c).status ≡ 0
valid_done law s c none = ap (λ (f : Option CertFault). (judged (names_of s) c f).status) none

certificate_done : TextLaw → CertificateLaw → (refused : Option Refusal) (s : PlainShow) (cut : Cut) (o : Outcome) → refused ≡ None → CertificateGives refused s cut o → (c : Certificate) → Says cut.second c →
    (fault_of (table_of c.version) (raised_of (trajectories_of s)) (clearance_of s.settings (trajectories_of s)) c ≡ None) → o.status ≡ 0
certificate_done text law (Some r) s cut o none gives c says valid = absurd (cc)
certificate_done text law None s cut o none gives c says valid =
    let same : gives.0 ≡ c = text.one cut.second gives.0 c gives.1 says in
    ap (λ (p : Outcome). p.status) gives.2 ∙ (subst (λ (d : Certificate). (judged_for s d).status ≡ 0) (sym same) (valid_done law s c valid))

done : TextLaw → CertificateLaw → (s : PlainShow) (cut : Cut) (o : Outcome) → VerifyGives s cut o → VerifySucceeds s cut → o.status ≡ 0
done text law s cut o gives (c, none, says, valid) =
    certificate_done text law (second_refusal certificate_limit (bad_line (lines cut.second)) cut) s cut o none gives c says
    ((law.exact (table_of c.version) (raised_of (trajectories_of s)) (clearance_of s.settings (trajectories_of s)) c (says_whole c cut.second says)).1 valid)

-- ---- the laws

pub verify_laws : TextLaw → CertificateLaw → VerifyLaw
verify_laws text law = record {
  one = λ s cut o p first second. certificate_one text (second_refusal certificate_limit (bad_line (lines cut.second)) cut) s cut o p first second;
  some = λ s cut known. certificate_some text (second_refusal certificate_limit (bad_line (lines cut.second)) cut) s cut refl;
  done = done text law;
  apart = λ d s cut searched apart. apart;
  headline = λ input o old new safe appended. flies_text verify_verb input o safe safe.promised;
}
