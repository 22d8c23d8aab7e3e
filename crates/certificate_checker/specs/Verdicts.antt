-- What a verdict says of a text, for the curves of a fleet.
use Rattle.std.specs.Prelude.{◌≡◌, ℕ, List, length, Some, None}
use Rattle.std.specs.Str.Lines.{lines}
use Rattle.fleet_curves.specs.Raised.{Raised}
use Rattle.sep_parts.specs.declared.clearance.Clearance.{Clearance}
use Rattle.sep_parts.specs.Versions.{table_of}
use Rattle.sep_certificate.specs.declared.certificate.Certificate.{Certificate}
use Rattle.sep_certificate.specs.Certificates.{fault_of}
use Rattle.sep_certificate.specs.Texts.{Says, bad_line}
use Rattle.certificate_checker.specs.declared.verdict.Verdict.{Verdict}
use Rattle.certificate_checker.specs.declared.verdict.Verdict.TheVariants.{Valid, Line, Refused}

-- The verdict is the first faulty line of the text; or the version and the first fault of the certificate that the text
-- spells; or the depth and the number of trees of that certificate, which is valid.
abbrev pub VerdictGives : Raised → Clearance → List ℕ → Verdict → Type 0
VerdictGives curves clearance text (Line line) = bad_line (lines text) ≡ Some line
VerdictGives curves clearance text (Refused version fault) =
    (cert : Certificate) × Says text cert × (cert.version ≡ version)
    × (fault_of (table_of cert.version) curves clearance cert ≡ Some fault)
VerdictGives curves clearance text (Valid depth trees) =
    (cert : Certificate) × Says text cert × (cert.depth ≡ depth) × (length cert.trees ≡ trees)
    × (fault_of (table_of cert.version) curves clearance cert ≡ None)
