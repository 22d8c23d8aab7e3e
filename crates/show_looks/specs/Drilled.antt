-- What `drill` gives.
use Rattle.std.specs.Prelude.{ℕ, ◌*◌, ◌-◌, ◌/◌, List, length}
use Rattle.std.specs.List.{sum}
use Rattle.drill_show.specs.Drill.{drill_line, drill_text}
use Rattle.report_text.specs.Report.{Report}
use Rattle.show_judge.specs.Verb.{Verb, of_own}
use Rattle.show_looks.specs.Reports.{report_of}

abbrev pub drill_of : Report → List ℕ
drill_of r =
    drill_line (length r.drones) r.cues (length r.drones * (length r.drones - 1) / 2) (sum r.bytes) (sum r.packets)
    r.nodes

abbrev pub drill_verb : ℕ → ℕ → Verb
drill_verb drones depth = of_own depth (drill_text drones) (λ s. drill_of (report_of s depth))
