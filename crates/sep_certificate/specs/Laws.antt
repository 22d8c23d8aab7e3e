-- What a valid certificate promises, and how a certificate is seen to be valid.
use Rattle.std.specs.Prelude.{◌≡◌, ◌↔◌, ℤ, List, length, None, All}
use Rattle.sep_parts.specs.declared.clearance.Clearance.{Clearance}
use Rattle.sep_parts.specs.Apart.{KeepsApart}
use Rattle.sep_parts.specs.Directions.{AreSmall}
use Rattle.fleet_curves.specs.Raised.{Raised}
use Rattle.sep_certificate.specs.declared.certificate.Certificate.{Certificate}
use Rattle.sep_certificate.specs.Certificates.{IsValid, IsWholeIn, fault_of}
use Rattle.sep_certificate.specs.Disjoint.{KeepsDisjoint}

-- By any table of directions, a valid certificate keeps drones apart, and a whole one is valid exactly where no fault
-- is found.
pub record CertificateLaw : Type 0 where
  -- Where a certificate is valid for curves, by any table of directions with entries from -2 to 2, any two different
  -- drones fly apart with the margin.
  pub apart : (dirs : List (List ℤ)) (curves : Raised) (c : Clearance) (cert : Certificate) → All AreSmall dirs →
      IsValid dirs curves c cert → KeepsApart curves c
  -- Where a certificate is valid for curves, by any table of directions whatever, the ellipsoids around any two
  -- different drones share no point.
  pub disjoint : (dirs : List (List ℤ)) (curves : Raised) (c : Clearance) (cert : Certificate) →
      IsValid dirs curves c cert → KeepsDisjoint curves c
  -- A whole certificate, whose leaves name directions of the table, has no first fault exactly where it is valid for
  -- the curves.
  pub exact : (dirs : List (List ℤ)) (curves : Raised) (c : Clearance) (cert : Certificate) →
      IsWholeIn (length dirs) cert →
      (fault_of dirs curves c cert ≡ None) ↔ IsValid dirs curves c cert
