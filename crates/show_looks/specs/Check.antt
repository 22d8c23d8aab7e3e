-- What `check` gives.
use Rattle.std.specs.Prelude.{ℕ, List, length}
use Rattle.choreo_show.specs.Plain.{PlainShow}
use Rattle.show_judge.specs.Shows.{cues_in}
use Rattle.show_judge.specs.Verb.{Verb, of_show}
use Rattle.show_looks.specs.Reports.{duration_of, ok_line}

-- the numbers of its drones and cues and its milliseconds
abbrev pub check_text : PlainShow → List ℕ
check_text s = ok_line (length s.drones) (cues_in s) (duration_of s)

abbrev pub check_verb : ℕ → Verb
check_verb depth = of_show depth check_text
