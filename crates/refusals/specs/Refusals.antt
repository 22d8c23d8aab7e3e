-- Why the program refuses, with the status that it ends with and the line that it writes.
use Rattle.std.specs.Prelude.{ℕ, ◌<◌, ◌≤◌, ◌^◌, List}
use Rattle.byte_streams.specs.Words.{IsWord}
use Rattle.sep_parts.specs.Versions.{IsVersion, known_in}
use Rattle.refusals.specs.declared.refusal.Pair.{Pair}
use Rattle.refusals.specs.declared.refusal.Refusal.{Refusal}
use Rattle.refusals.specs.declared.refusal.Refusal.TheVariants as refused
use Rattle.refusals.specs.Lines as lines

-- the status that the program ends with
abbrev pub status_of : Refusal → ℕ
status_of refused.Usage = 2
status_of refused.TooLarge = 3
status_of (refused.Line line kind) = 3
status_of (refused.Grid fault) = 3
status_of (refused.Range line axis value) = 3
status_of (refused.Room drone bytes room) = 4
status_of (refused.Segments drone segments) = 4
status_of (refused.Blocked pair index depth) = 5
status_of refused.Read = 6
status_of refused.Ended = 8
status_of (refused.GaveUp drone packet) = 9
status_of (refused.Refused drone packet status) = 10
status_of (refused.Differs drone address wanted got) = 14
status_of (refused.SecondLine line) = 11
status_of refused.SecondTooLarge = 11
status_of (refused.Missing pair) = 12
status_of (refused.Extra version tree) = 12
status_of (refused.TooDeep pair) = 12
status_of (refused.Fails pair place version dir control) = 12
status_of (refused.Enters region drone cue index depth) = 15
status_of (refused.TooFast drone axis speed) = 16
status_of (refused.Accelerates drone cue axis acceleration) = 18
status_of (refused.Jumps drone cue axis speed) = 18

-- the line that it writes
abbrev pub line_of : Refusal → List ℕ
line_of refused.Usage = lines.usage_line
line_of refused.TooLarge = lines.too_large_line
line_of (refused.Line line kind) = lines.faulty_line line kind
line_of (refused.Grid fault) = lines.grid_line fault
line_of (refused.Range line axis value) = lines.range_line line axis value
line_of (refused.Room drone bytes room) = lines.room_line drone.items bytes room
line_of (refused.Segments drone segments) = lines.segments_line drone.items segments
line_of (refused.Blocked pair index depth) = lines.blocked_line pair index depth
line_of refused.Read = lines.read_line
line_of refused.Ended = lines.ended_line
line_of (refused.GaveUp drone packet) = lines.gave_up_line drone.items packet
line_of (refused.Refused drone packet status) = lines.refused_line drone.items packet status
line_of (refused.Differs drone address wanted got) = lines.differs_line drone.items address wanted got
line_of (refused.SecondLine line) = lines.second_line line
line_of refused.SecondTooLarge = lines.second_too_large_line
line_of (refused.Missing pair) = lines.missing_line pair
line_of (refused.Extra version tree) = lines.extra_line version tree
line_of (refused.TooDeep pair) = lines.too_deep_line pair
line_of (refused.Fails pair place version dir control) = lines.fails_line pair place version dir control
line_of (refused.Enters region drone cue index depth) = lines.enters_line region drone.items cue index depth
line_of (refused.TooFast drone axis speed) = lines.too_fast_line drone.items axis speed
line_of (refused.Accelerates drone cue axis acceleration) = lines.accelerates_line drone.items cue axis acceleration
line_of (refused.Jumps drone cue axis speed) = lines.jumps_line drone.items cue axis speed

-- the names of a pair can stand as words of a line
pub record AreNamed (pair : Pair) : Type 0 where
  pub first : IsWord pair.first.items
  pub second : IsWord pair.second.items

-- What a refusal names can be said in a line: names are words, an axis is one of four, or of three where it has a speed
-- or an acceleration, and a direction is one of its version's table.
abbrev pub IsSayable : Refusal → Type 0
IsSayable refused.Usage = Unit {0}
IsSayable refused.TooLarge = Unit {0}
IsSayable (refused.Line line kind) = Unit {0}
IsSayable (refused.Grid fault) = Unit {0}
IsSayable (refused.Range line axis value) = axis ≤ 3
IsSayable (refused.Room drone bytes room) = IsWord drone.items
IsSayable (refused.Segments drone segments) = IsWord drone.items
IsSayable (refused.Blocked pair index depth) = AreNamed pair
IsSayable refused.Read = Unit {0}
IsSayable refused.Ended = Unit {0}
IsSayable (refused.GaveUp drone packet) = IsWord drone.items
IsSayable (refused.Refused drone packet status) = IsWord drone.items
IsSayable (refused.Differs drone address wanted got) = IsWord drone.items
IsSayable (refused.SecondLine line) = Unit {0}
IsSayable refused.SecondTooLarge = Unit {0}
IsSayable (refused.Missing pair) = AreNamed pair
IsSayable (refused.Extra version tree) = IsVersion version × (tree < 2 ^ 31)
IsSayable (refused.TooDeep pair) = AreNamed pair
IsSayable (refused.Fails pair place version dir control) = AreNamed pair × IsVersion version × (dir < known_in version)
IsSayable (refused.Enters region drone cue index depth) = IsWord drone.items
IsSayable (refused.TooFast drone axis speed) = IsWord drone.items × (axis ≤ 2)
IsSayable (refused.Accelerates drone cue axis acceleration) = IsWord drone.items × (axis ≤ 2)
IsSayable (refused.Jumps drone cue axis speed) = IsWord drone.items × (axis ≤ 2)
