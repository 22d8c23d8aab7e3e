-- Words of the reader's own steps.
use Rattle.std.specs.Prelude.{ℕ, Bool, ◌||◌}
use Rattle.text_lines.specs.Lines.{is_line_feed}
use Rattle.choreo_reader.specs.Text.{is_allowed}

-- a byte that may stand anywhere in a text: outside a comment, or a line feed
abbrev pub stands_anywhere : ℕ → Bool
stands_anywhere b = is_line_feed b || is_allowed b
