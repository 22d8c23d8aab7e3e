-- What `help` gives.
use Rattle.std.specs.Prelude.{ℕ, List}
use Rattle.show_judge.specs.Verb.{Verb, of_nothing}

-- these lines, always
abbrev pub help_verb : List ℕ → Verb
help_verb lines = of_nothing lines
