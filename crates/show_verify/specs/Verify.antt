-- What `verify` gives.
use Rattle.std.specs.Prelude.{◌≡◌, ℕ, List, [], ◌∷◌, length, codes, decimal, Option, Some, None}
use Rattle.std.specs.Str.Lines.{lines}
use Rattle.choreo_show.specs.Name.{Name}
use Rattle.choreo_show.specs.Plain.{PlainShow}
use Rattle.fleet_curves.specs.Raised.{raised_of}
use Rattle.byte_streams.specs.Words.{line}
use Rattle.refusals.specs.declared.refusal.Refusal.{Refusal}
use Rattle.refusals.specs.declared.refusal.Refusal.TheVariants as refusal
use Rattle.sep_certificate.specs.declared.certificate.CertFault.{CertFault}
use Rattle.sep_certificate.specs.declared.certificate.CertFault.TheVariants as cert
use Rattle.sep_certificate.specs.declared.certificate.Certificate.{Certificate}
use Rattle.sep_certificate.specs.declared.text.TheConstants.{CERTIFICATE_LIMIT}
use Rattle.sep_certificate.specs.Certificates.{IsValid, fault_of}
use Rattle.sep_certificate.specs.Texts.{Says, bad_line}
use Rattle.sep_parts.specs.Versions.{table_of}
use Rattle.show_plan.specs.Separation.{clearance_of}
use Rattle.text_lines.specs.Marker.{part_of}
use Rattle.show_judge.specs.Headline.{FliesText}
use Rattle.show_judge.specs.Outcome.{IsVerb, refused}
use Rattle.show_judge.specs.Refused.{pair_at, second_refusal}
use Rattle.show_judge.specs.Shows.{Cut, names_of, trajectories_of}
use Rattle.show_judge.specs.Verb.{FliesApart, Outcome, Verb, of_two, outcome}

-- the most bytes of a certificate's text
abbrev pub certificate_limit : ℕ
certificate_limit = CERTIFICATE_LIMIT

-- what is said of a certificate that is valid: its depth, and how many trees it has
unfoldable pub valid_line : ℕ → ℕ → List ℕ
valid_line depth trees = line (codes "valid") (codes "depth" ∷ decimal depth ∷ codes "trees" ∷ decimal trees ∷ [])

-- what is wrong with a certificate of this version
abbrev pub not_valid : List Name → ℕ → CertFault → Refusal
not_valid names version (cert.Missing a b cue) = refusal.Missing (pair_at names a b cue)
not_valid names version (cert.Extra tree) = refusal.Extra version tree
not_valid names version (cert.TooDeep a b cue) = refusal.TooDeep (pair_at names a b cue)
not_valid names version (cert.Fails a b cue place dir control) =
    refusal.Fails (pair_at names a b cue) place version dir control

-- what a certificate gives that has this first fault, or none
abbrev pub judged : List Name → Certificate → Option CertFault → Outcome
judged names c None = outcome 0 (valid_line c.depth (length c.trees))
judged names c (Some fault) = refused (not_valid names c.version fault)

-- what a certificate gives for the trajectories of a show
abbrev pub judged_for : PlainShow → Certificate → Outcome
judged_for s c =
    judged (names_of s) c
    (fault_of (table_of c.version) (raised_of (trajectories_of s)) (clearance_of s.settings (trajectories_of s)) c)

-- a certificate's text gives its refusal, or what the certificate gives that it says
abbrev pub CertificateGives : Option Refusal → PlainShow → Cut → Outcome → Type 0
CertificateGives (Some r) s cut o = o ≡ refused r
CertificateGives None s cut o = (c : Certificate) × Says cut.second c × (o ≡ judged_for s c)

abbrev pub VerifyGives : PlainShow → Cut → Outcome → Type 0
VerifyGives s cut o = CertificateGives (second_refusal certificate_limit (bad_line (lines cut.second)) cut) s cut o

-- the second text says a certificate that is valid
abbrev pub VerifySucceeds : PlainShow → Cut → Type 0
VerifySucceeds s cut =
    (c : Certificate) × (second_refusal certificate_limit (bad_line (lines cut.second)) cut ≡ None) × Says cut.second c
    × IsValid (table_of c.version) (raised_of (trajectories_of s)) (clearance_of s.settings (trajectories_of s)) c

abbrev pub verify_verb : Verb
verify_verb =
    of_two None certificate_limit (λ s cut o. VerifyGives s cut o) (λ s cut. Unit {0}) (λ s cut. FliesApart s)
    (λ s cut. VerifySucceeds s cut)
    (λ input old new. FliesText (part_of input))

-- the laws of the command
abbrev pub VerifyLaw : Type 0
VerifyLaw = IsVerb verify_verb
