-- The one word that names what is wrong.
use Rattle.std.specs.Prelude.{ℕ, List, codes, ◌==◌, if◌then◌else◌}
use Rattle.choreo_lines.specs.declared.line.LineKind.{LineKind}
use Rattle.choreo_lines.specs.declared.line.LineKind.TheVariants as of_line
use Rattle.cue_grid.specs.declared.grid.GridFault.{GridFault}
use Rattle.cue_grid.specs.declared.grid.GridFault.TheVariants as of_grid

-- what is wrong with a line of a show
abbrev pub kind_word : LineKind → List ℕ
kind_word of_line.BadByte = codes "bad-byte"
kind_word of_line.Header = codes "header"
kind_word of_line.BadWord = codes "bad-word"
kind_word of_line.BadName = codes "bad-name"
kind_word of_line.BadCount = codes "bad-count"
kind_word of_line.BadNumber = codes "bad-number"
kind_word of_line.Range = codes "range"
kind_word of_line.DoubleSetting = codes "double-setting"
kind_word of_line.Nesting = codes "nesting"
kind_word of_line.EmptyBlock = codes "empty-block"
kind_word of_line.NoEnd = codes "no-end"

-- what is wrong with the names or the cues of a show
abbrev pub grid_word : GridFault → List ℕ
grid_word (of_grid.NoDrone line) = codes "no-drone"
grid_word (of_grid.TooManyDrones line) = codes "too-many-drones"
grid_word (of_grid.DoubleName line) = codes "double-name"
grid_word (of_grid.UnknownName line) = codes "unknown-name"
grid_word (of_grid.DoubleAct line) = codes "double-act"
grid_word (of_grid.RoleCount line) = codes "role-count"
grid_word (of_grid.NoCue line) = codes "no-cue"
grid_word (of_grid.TooManyCues line) = codes "too-many-cues"

-- the axes x, y, z and yaw, which count from 0
abbrev pub axis_word : ℕ → List ℕ
axis_word axis =
    if axis == 0 then codes "x" else (if axis == 1 then codes "y" else (if axis == 2 then codes "z" else codes "yaw"))
