-- Limits that several crates share.
use Rattle.std.specs.Prelude.{ℕ}

-- how many cues a show has at most
abbrev pub most_cues : ℕ
most_cues = 1000

-- how many drones a show has at most, and how many roles a figure
abbrev pub most_drones : ℕ
most_drones = 32

-- how many bytes the text of a show has at most, and one of regions or of a schedule
abbrev pub most_text : ℕ
most_text = 1048576

-- how many segments a trajectory in a drone's memory has at most
abbrev pub most_segments : ℕ
most_segments = 255

-- how often a segment is halved at most
abbrev pub most_depth : ℕ
most_depth = 8

-- how often a cue is halved at most to list its instants
abbrev pub most_fine : ℕ
most_fine = 5
