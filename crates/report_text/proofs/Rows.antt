-- The report of the three cues.
use Rattle.std.proofs.Common.{◌≡◌, [], ◌∷◌, refl}
use Rattle.std.specs.Prelude.{codes}
use Rattle.std.specs.Fmt.{digits}
use Rattle.json.specs.Print.{escape_byte}
use Rattle.report_text.specs.Report.{report_text}

three_cues : report_text (record { bytes = 34 ∷ 62 ∷ []; cues = 3; drones = codes "a" ∷ codes "b" ∷ []; duration_ms = 9000; nodes = 3; packets = 3 ∷ 4 ∷ [] })
    ≡ codes "{\"bytes\":[34,62],\"cues\":3,\"drones\":[\"a\",\"b\"],\"duration_ms\":9000,\"nodes\":3,\"packets\":[3,4]}\n"
unfolding digits escape_byte report_text
three_cues = refl
