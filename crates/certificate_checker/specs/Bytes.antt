-- Which bytes a checker has read, for the curves of a fleet, and what its verdict names and promises.
use Rattle.std.specs.Prelude.{◌≡◌, ℕ, ◌^◌, ◌<◌, List, length}
use Rattle.bezier_core.specs.declared.Bez.{Bez}
use Rattle.sep_parts.specs.declared.clearance.Clearance.{Clearance}
use Rattle.sep_parts.specs.Apart.{KeepsApart}
use Rattle.fleet_curves.specs.Raised.{Raised}
use Rattle.sep_parts.specs.Versions.{IsVersion}
use Rattle.sep_certificate.specs.declared.certificate.Certificate.{Certificate}
use Rattle.sep_certificate.specs.Certificates.{IsFaultOf}
use Rattle.certificate_checker.specs.declared.verdict.Verdict.{Verdict}
use Rattle.certificate_checker.specs.declared.verdict.Verdict.TheVariants.{Line, Refused, Valid}
use Rattle.certificate_checker.specs.Checking.{Checking, checked_all, nothing_checked}
use Rattle.certificate_checker.specs.Judgments.{IsNextIn}

-- What contracts see of a checker: the clearance; what is kept of the bytes that were read; and the difference of
-- the curves of the pair and cue whose tree comes next.
pub record Seen : Type 0 where
  pub clearance : Clearance
  pub checking : Checking
  pub diff : List (Bez 8)

-- What is kept is what the definitions keep of these bytes for these curves, and the difference is that of the pair and
-- cue whose tree comes next.
pub record HasRead (c : Seen) (curves : Raised) (bytes : List ℕ) : Type 0 where
  pub read : c.checking ≡ checked_all c.clearance curves nothing_checked bytes
  pub next : IsNextIn curves c.checking.reading c.diff

-- What a verdict names exists: the version, and the fault of a certificate of that version for these curves, with fewer
-- than 2^31 trees.
abbrev pub NamesFault : Raised → Verdict → Type 0
NamesFault curves (Valid depth trees) = Unit {0}
NamesFault curves (Line line) = Unit {0}
NamesFault curves (Refused version fault) =
    (cert : Certificate) × IsVersion version × (cert.version ≡ version) × (length cert.trees < 2 ^ 31)
    × IsFaultOf curves cert fault

-- If the verdict is that the certificate is valid, any two drones fly apart.
abbrev pub ApartWhereValid : Raised → Clearance → Verdict → Type 0
ApartWhereValid curves clearance (Valid depth trees) = KeepsApart curves clearance
ApartWhereValid curves clearance (Line line) = Unit {0}
ApartWhereValid curves clearance (Refused version fault) = Unit {0}

-- The most bytes that a checker takes. A certificate's text has no more.
abbrev pub most_bytes : ℕ
most_bytes = 400000000
