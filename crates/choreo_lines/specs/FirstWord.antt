-- The first word of a line.
use Rattle.std.specs.Prelude.{ℕ, List, bytes_eq, codes, if◌then◌else◌}
use Rattle.choreo_lines.specs.declared.line.Keyword.{Keyword}
use Rattle.choreo_lines.specs.declared.line.Keyword.TheVariants.{Memory, Trajectory, Ellipsoid, Stray, Late, Drone}
use Rattle.choreo_lines.specs.declared.line.Keyword.TheVariants.{Formation, At, Figure, Cue, Repeat, Perform, Form, End}
use Rattle.choreo_lines.specs.declared.line.Keyword.TheVariants.{Other}

-- what a first word is
abbrev pub keyword_of : List ℕ → Keyword
keyword_of w =
    if bytes_eq w (codes "memory") then Memory else
    if bytes_eq w (codes "trajectory") then Trajectory else
    if bytes_eq w (codes "ellipsoid") then Ellipsoid else
    if bytes_eq w (codes "stray") then Stray else
    if bytes_eq w (codes "late") then Late else
    if bytes_eq w (codes "drone") then Drone else
    if bytes_eq w (codes "formation") then Formation else
    if bytes_eq w (codes "at") then At else
    if bytes_eq w (codes "figure") then Figure else
    if bytes_eq w (codes "cue") then Cue else
    if bytes_eq w (codes "repeat") then Repeat else
    if bytes_eq w (codes "perform") then Perform else
    if bytes_eq w (codes "form") then Form else
    if bytes_eq w (codes "end") then End else Other
