-- What `report` gives.
use Rattle.std.specs.Prelude.{ℕ}
use Rattle.report_text.specs.Report.{report_text}
use Rattle.show_judge.specs.Verb.{Verb, of_show}
use Rattle.show_looks.specs.Reports.{report_of}

-- the numbers of the show as JSON
abbrev pub report_verb : ℕ → Verb
report_verb depth = of_show depth (λ s. report_text (report_of s depth))
