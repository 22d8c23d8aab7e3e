-- What `play` gives.
use Rattle.std.specs.Prelude.{ℕ, List}
use Rattle.choreo_show.specs.Plain.{PlainShow}
use Rattle.integer_player.specs.Played.{play_text}
use Rattle.show_judge.specs.Shows.{sent_of, words_of}
use Rattle.show_judge.specs.Verb.{Verb, of_show}
use Rattle.show_looks.specs.Reports.{duration_of}

-- the rows of a show's instants, at this step in milliseconds
abbrev pub rows : ℕ → PlainShow → List ℕ
rows step s = play_text (duration_of s) step (words_of s) (sent_of s)

abbrev pub play_verb : ℕ → ℕ → Verb
play_verb depth step = of_show depth (rows step)
