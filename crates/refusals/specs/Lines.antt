-- The lines that the program writes where it refuses: the word `error`, the status that the program ends with, and what
-- is wrong. docs/COMMANDS.md says what to do at each.
use Rattle.std.specs.Prelude.{ℕ, ◌+◌, ◌^◌, ℤ, List, [], ◌∷◌, ◌++◌, codes, decimal}
use Rattle.std.specs.Fmt.{signed_decimal}
use Rattle.byte_streams.specs.Words.{hex_word, line}
use Rattle.choreo_lines.specs.declared.line.LineKind.{LineKind}
use Rattle.cue_grid.specs.declared.grid.GridFault.{GridFault}
use Rattle.cue_grid.specs.Faults.{line_of}
use Rattle.bezier_core.specs.declared.halves.Place.{Place}
use Rattle.sep_parts.specs.Versions.{direction_word, head_count}
use Rattle.refusals.specs.KindWords.{kind_word, grid_word, axis_word}
use Rattle.refusals.specs.declared.refusal.Pair.{Pair}

-- the line of a status and these words after it
abbrev pub refusal : List ℕ → List (List ℕ) → List ℕ
refusal status words = line (codes "error") (status ∷ words)

-- ---- the command and the show

-- the words of the command aren't those of a command
abbrev pub usage_line : List ℕ
usage_line = refusal (codes "2") (codes "usage" ∷ [])

-- the show is longer than a text may be
abbrev pub too_large_line : List ℕ
too_large_line = refusal (codes "3") (codes "too-large" ∷ [])

-- a line of the show, and the words on what is wrong there
abbrev pub show_line : ℕ → List (List ℕ) → List ℕ
show_line number words = refusal (codes "3") (codes "line" ∷ decimal number ∷ words)

-- a faulty line
abbrev pub faulty_line : ℕ → LineKind → List ℕ
faulty_line number kind = show_line number (kind_word kind ∷ [])

-- a fault of names or cues, with the line that it names
abbrev pub grid_line : GridFault → List ℕ
grid_line fault = show_line (line_of fault) (grid_word fault ∷ [])

-- a number that doesn't fit two bytes when it is rounded, as it is before: in micrometres, or on yaw in tenths of a
-- degree
abbrev pub range_line : ℕ → ℕ → ℤ → List ℕ
range_line number axis value = show_line number (codes "out-of-range" ∷ axis_word axis ∷ signed_decimal value ∷ [])

-- a drone whose trajectory takes more bytes than it has room for
abbrev pub room_line : List ℕ → ℕ → ℕ → List ℕ
room_line name bytes room =
    refusal (codes "4") (codes "drone" ∷ name ∷ codes "bytes" ∷ decimal bytes ∷ codes "room" ∷ decimal room ∷ [])

-- a drone whose trajectory has more segments than one may have, whole holds that follow each other joined
abbrev pub segments_line : List ℕ → ℕ → List ℕ
segments_line name segments = refusal (codes "4") (codes "drone" ∷ name ∷ codes "segments" ∷ decimal segments ∷ [])

-- a read failed
abbrev pub read_line : List ℕ
read_line = refusal (codes "6") (codes "read" ∷ [])

-- ---- an upload

-- the schedule, or the frames, ended before the upload did
abbrev pub ended_line : List ℕ
ended_line = refusal (codes "8") (codes "ended" ∷ [])

-- a packet of a drone was not acknowledged in time; packets count from 0 in the program and from 1 in the line
abbrev pub gave_up_line : List ℕ → ℕ → List ℕ
gave_up_line name packet = refusal (codes "9") (codes "drone" ∷ name ∷ codes "packet" ∷ decimal (packet + 1) ∷ [])

-- a drone refused a packet with this status
abbrev pub refused_line : List ℕ → ℕ → ℕ → List ℕ
refused_line name packet status =
    refusal (codes "10")
    (codes "drone" ∷ name ∷ codes "packet" ∷ decimal (packet + 1) ∷ codes "status" ∷ decimal status ∷ [])

-- a byte that was read back from a drone's memory differs from the load's
abbrev pub differs_line : List ℕ → ℕ → ℕ → ℕ → List ℕ
differs_line name address wanted got =
    refusal (codes "14") (codes "drone" ∷ name ∷ codes "address" ∷ decimal address ∷ codes "wanted" ∷ hex_word wanted
    ∷ codes "got" ∷ hex_word got ∷ [])

-- ---- two drones in a cue

-- the two drones by name, and the cue, which counts from 0 in the program and from 1 in the line
abbrev pub pair_words : Pair → List (List ℕ)
pair_words pair = codes "pair" ∷ pair.first.items ∷ pair.second.items ∷ codes "cue" ∷ decimal (pair.cue + 1) ∷ []

-- no direction separates the two in this part of the cue, which is one of 2 ^ depth equal parts; the first part is 0
abbrev pub blocked_line : Pair → ℕ → ℕ → List ℕ
blocked_line pair index depth =
    refusal (codes "5") (pair_words pair ++ codes "part" ∷ decimal index ∷ codes "of" ∷ decimal (2 ^ depth) ∷ [])

-- ---- the second text

-- a faulty line of the second text
abbrev pub second_line : ℕ → List ℕ
second_line number = refusal (codes "11") (codes "line" ∷ decimal number ∷ [])

-- the second text is longer than it may be
abbrev pub second_too_large_line : List ℕ
second_too_large_line = refusal (codes "11") (codes "too-large" ∷ [])

-- the two have no tree in this cue
abbrev pub missing_line : Pair → List ℕ
missing_line pair = refusal (codes "12") (codes "missing" ∷ pair_words pair)

-- a tree of no pair and cue, in a text of this version: trees count from 0, and stand after its first lines
abbrev pub extra_line : ℕ → ℕ → List ℕ
extra_line version tree =
    refusal (codes "12") (codes "extra" ∷ codes "line" ∷ decimal (tree + 1 + head_count version) ∷ [])

-- a split of the tree of the two in this cue stands at the greatest depth of the certificate
abbrev pub too_deep_line : Pair → List ℕ
too_deep_line pair = refusal (codes "12") (codes "too-deep" ∷ pair_words pair)

-- a leaf of the tree of the two: its part, its direction by the word of the version, and the first control value that
-- the direction fails to separate
abbrev pub fails_line : Pair → Place → ℕ → ℕ → ℕ → List ℕ
fails_line pair place version dir control =
    refusal (codes "12") (codes "fails" ∷ pair_words pair
    ++ codes "part" ∷ decimal place.depth ∷ decimal place.index ∷ codes "direction" ∷ direction_word version dir
    ∷ codes "control" ∷ decimal control ∷ [])

-- ---- regions, speeds, accelerations and jumps

-- a drone isn't kept from or in a region in this part of a cue; regions and cues count from 0 in the program and from 1
-- in the line
abbrev pub enters_line : ℕ → List ℕ → ℕ → ℕ → ℕ → List ℕ
enters_line region name cue index depth =
    refusal (codes "15") (codes "region" ∷ decimal (region + 1) ∷ codes "drone" ∷ name ∷ codes "cue" ∷ decimal (cue + 1)
    ∷ codes "part" ∷ decimal index ∷ codes "of" ∷ decimal (2 ^ depth) ∷ [])

-- the bound on a drone's speed on an axis is above the limit; it is in micrometres per second
abbrev pub too_fast_line : List ℕ → ℕ → ℤ → List ℕ
too_fast_line name axis speed =
    refusal (codes "16") (codes "drone" ∷ name ∷ axis_word axis ∷ codes "speed" ∷ signed_decimal speed ∷ [])

-- a number of a drone on an axis is above its limit, from the beginning of this cue on or there; cues count from 0 in
-- the program and from 1 in the line
abbrev pub excess_line : List ℕ → ℕ → List ℕ → ℕ → ℤ → List ℕ
excess_line name cue what axis value =
    refusal (codes "18")
    (codes "drone" ∷ name ∷ codes "cue" ∷ decimal (cue + 1) ∷ what ∷ axis_word axis ∷ signed_decimal value ∷ [])

-- the bound on a drone's acceleration on an axis, in what begins with this cue, is above the limit; it is in
-- micrometres per second squared
abbrev pub accelerates_line : List ℕ → ℕ → ℕ → ℤ → List ℕ
accelerates_line name cue axis acceleration = excess_line name cue (codes "accel") axis acceleration

-- the jump of a drone's speed on an axis, at the beginning of this cue, is above the limit; it is in micrometres per
-- second
abbrev pub jumps_line : List ℕ → ℕ → ℕ → ℤ → List ℕ
jumps_line name cue axis speed = excess_line name cue (codes "jump") axis speed
