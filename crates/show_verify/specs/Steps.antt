-- What steps of `verify` hand on, which no public contract cites.
use Rattle.std.specs.Prelude.{ℕ, ◌<◌, ◌^◌}
use Rattle.sep_certificate.specs.declared.certificate.CertFault.{CertFault}
use Rattle.sep_certificate.specs.declared.certificate.CertFault.TheVariants as cert
use Rattle.sep_parts.specs.Versions.{known_in}

-- a fault of a certificate of this version for this many drones: it names two of them, a tree that a text has a line
-- for, a direction of the table
abbrev pub IsFaultAmong : ℕ → ℕ → CertFault → Type 0
IsFaultAmong drones version (cert.Missing a b cue) = (a < drones) × (b < drones)
IsFaultAmong drones version (cert.Extra tree) = tree < 2 ^ 31
IsFaultAmong drones version (cert.TooDeep a b cue) = (a < drones) × (b < drones)
IsFaultAmong drones version (cert.Fails a b cue place dir control) = (a < drones) × (b < drones)
    × (dir < known_in version)
