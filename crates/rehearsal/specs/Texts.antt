-- The text that says what the drones hold after a rehearsal (docs/COMMANDS.md, `rehearse`). With which values a
-- memory's trajectory ends is stated by what the memory decodes to, so the text is a relation.
use Rattle.std.specs.Prelude.{◌≡◌, ℕ, suc, ◌*◌, ◌/◌, ◌%◌, List, [], ◌∷◌, ◌++◌, codes, decimal, drop, take, map, Option}
use Rattle.std.specs.Prelude.{Some, None}
use Rattle.std.specs.List.{flat_map, range_with_len}
use Rattle.std.specs.Fmt.{signed_decimal}
use Rattle.byte_streams.specs.Words.{hex_word, line}
use Rattle.traj_codec.specs.declared.traj.Traj.{Traj}
use Rattle.upload_model.specs.declared.loads.Def.{Def}
use Rattle.upload_model.specs.Drones.{DroneState}
use Rattle.firmware_memory.specs.Decoded.{DecodesTo, last_value}

-- the first line
abbrev pub title_line : List ℕ
title_line = line (codes "rehearsal") (codes "done" ∷ [])

-- the line that names a drone
abbrev pub name_line : List ℕ → List ℕ
name_line name = line (codes "memory") (name ∷ [])

-- an address, in four upper-case hexadecimal digits
abbrev pub address_word : ℕ → List ℕ
address_word address = hex_word (address / 256) ++ hex_word (address % 256)

-- row k of a memory: its address and its 32 bytes
abbrev pub memory_line : List ℕ → ℕ → List ℕ
memory_line memory k = line (address_word (32 * k)) (map hex_word (take 32 (drop (32 * k) memory)))

-- the 4,096 bytes of a memory, in 128 rows
unfoldable pub memory_lines : List ℕ → List ℕ
memory_lines memory = flat_map (memory_line memory) (range_with_len 0 128)

-- an entry of the table under its id
abbrev pub entry_line : ℕ → Option Def → List ℕ
entry_line id None = []
entry_line id (Some entry) =
    line (codes "trajectory")
    (decimal id ∷ codes "offset" ∷ decimal entry.offset ∷ codes "pieces" ∷ decimal entry.pieces ∷ [])

-- the entries of a table whose first one has this id
abbrev pub entry_lines : ℕ → List (Option Def) → List ℕ
entry_lines id [] = []
entry_lines id (entry ∷ entries) = entry_line id entry ++ entry_lines (suc id) entries

-- which trajectory was started
abbrev pub started_word : Option ℕ → List ℕ
started_word None = codes "none"
started_word (Some id) = decimal id

abbrev pub started_line : Option ℕ → List ℕ
started_line started = line (codes "started") (started_word started ∷ [])

-- with which values a trajectory ends: millimetres on x, y and z, and tenths of a degree
abbrev pub ends_line : Traj → List ℕ
ends_line t = line (codes "ends") (map (λ axis. signed_decimal (last_value t axis)) (0 ∷ 1 ∷ 2 ∷ 3 ∷ []))

-- with which values the trajectory ends to which a memory decodes, if it decodes to one
abbrev pub ending_line : Option Traj → List ℕ
ending_line None = line (codes "ends") (codes "none" ∷ [])
ending_line (Some t) = ends_line t

-- What is said of a drone of this name, whose memory decodes to this trajectory, if to one.
abbrev pub drone_text : List ℕ → DroneState → Option Traj → List ℕ
drone_text name drone found =
    name_line name ++ (memory_lines drone.memory
    ++ (entry_lines 0 drone.table ++ (started_line drone.started ++ ending_line found)))

-- The memory decodes to this trajectory under the id, or to none.
abbrev pub IsFound : ℕ → DroneState → Option Traj → Type 0
IsFound id drone (Some t) = DecodesTo drone id t
IsFound id drone None = (t : Traj) → DecodesTo drone id t → ⊥

-- What is said of drones of these names, the first of which has number d.
abbrev pub AreTexts : (ℕ → DroneState) → ℕ → ℕ → List (List ℕ) → List ℕ → Type 0
AreTexts drones id d [] text = text ≡ []
AreTexts drones id d (name ∷ names) text =
    (found : Option Traj) × (rest : List ℕ) × IsFound id (drones d) found × AreTexts drones id (suc d) names rest
    × (text ≡ drone_text name (drones d) found ++ rest)

-- The text of a rehearsal that is done: the first line, and what is said of the drones.
abbrev pub IsRehearsalText : (ℕ → DroneState) → ℕ → List (List ℕ) → List ℕ → Type 0
IsRehearsalText drones id names text = (rest : List ℕ) × AreTexts drones id 0 names rest × (text ≡ title_line ++ rest)
