-- What `version` gives.
use Rattle.std.specs.Prelude.{ℕ, List, codes}
use Rattle.show_judge.specs.Verb.{Verb, of_nothing}

-- one line with the program's version, which the file VERSION has too
abbrev pub version_line : List ℕ
version_line = codes "hemtoghai 0.2.0\n"

abbrev pub version_verb : Verb
version_verb = of_nothing version_line
