-- How many cues there are, without writing them out.
use Rattle.std.specs.Prelude.{ℕ, ◌+◌, ◌*◌, List, Option, Some, None, nat_lt, if◌then◌else◌}
use Rattle.whole_numbers.specs.Limits.{most_cues}
use Rattle.choreo_show.specs.Plain as plain
use Rattle.choreo_show.specs.Name.{Name}
use Rattle.choreo_show.specs.Plain.{Body, PlainFigure, PlainShow}
use Rattle.cue_grid.specs.Names.{figure_named}

-- the number of cues of blocks: a cue counts 1, a repeat its number times its body, and a perform what is handed in for
-- its figure
abbrev pub count_in : (Name → ℕ) → Body → ℕ
count_in performed plain.Done = 0
count_in performed (plain.Cue line ms acts rest) = 1 + count_in performed rest
count_in performed (plain.Repeat line times inside rest) = times * count_in performed inside + count_in performed rest
count_in performed (plain.Perform line figure frame drones rest) = performed figure + count_in performed rest

-- no figure performs another
abbrev pub none_performed : Name → ℕ
none_performed figure = 0

-- the number of cues of a figure's body
abbrev pub figure_count : Body → ℕ
figure_count b = count_in none_performed b

abbrev pub count_of_figure : Option PlainFigure → ℕ
count_of_figure None = 0
count_of_figure (Some f) = figure_count f.body

-- a perform counts its figure's body
abbrev pub perform_count : List PlainFigure → Name → ℕ
perform_count figures figure = count_of_figure (figure_named figures figure)

-- the number of cues of the show's blocks
abbrev pub body_count : List PlainFigure → Body → ℕ
body_count figures b = count_in (perform_count figures) b

-- this line, where the number of cues exceeds the limit, or else later
abbrev pub line_if_over : ℕ → ℕ → Option ℕ → Option ℕ
line_if_over n line later = if nat_lt most_cues n then Some line else later

-- the line of the first block with which the number of cues exceeds the limit, after this many cues
abbrev pub over_at : List PlainFigure → ℕ → Body → Option ℕ
over_at figures n plain.Done = None
over_at figures n (plain.Cue line ms acts rest) = line_if_over (n + 1) line (over_at figures (n + 1) rest)
over_at figures n (plain.Repeat line times inside rest) =
    line_if_over (n + times * body_count figures inside) line
    (over_at figures (n + times * body_count figures inside) rest)
over_at figures n (plain.Perform line figure frame drones rest) =
    line_if_over (n + perform_count figures figure) line (over_at figures (n + perform_count figures figure) rest)
