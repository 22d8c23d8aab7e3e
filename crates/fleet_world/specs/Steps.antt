-- Words of private steps. No public clause cites them.
use Rattle.std.specs.Prelude.{◌≡◌, ℕ, zero, suc, ◌+◌, ◌<◌, ◌≤◌, List, [], ◌∷◌, ◌++◌, slice_range, Result, Ok, Err}
use Rattle.crtp_packets.specs.declared.packet.TheConstants.{PACKET_BYTES}
use Rattle.text_lines.specs.Lines.{lines_of}

-- these events in front of what is read of the lines after them
abbrev pub prepended : {E : Type 0} → List E → Result (List E) ℕ → Result (List E) ℕ
prepended events (Ok later) = Ok (events ++ later)
prepended events (Err faulty) = Err faulty

-- a line of some text
abbrev pub IsLine : List ℕ → Type 0
IsLine line = (text : List ℕ) × (later : List (List ℕ)) × (lines_of text ≡ line ∷ later)

-- the pieces of these bytes from a place on, where each ends at the next of these places
abbrev pub cut : ℕ → List ℕ → List ℕ → List (List ℕ)
cut from bytes [] = []
cut from bytes (place ∷ places) = slice_range bytes from place ∷ cut place bytes places

-- where piece n begins
abbrev pub begin_of : ℕ → List ℕ → ℕ → ℕ
begin_of from places zero = from
begin_of from [] (suc n) = from
begin_of from (place ∷ places) (suc n) = begin_of place places n

-- the places at which pieces end that are packets, from one place to another
abbrev pub AreEnds : ℕ → List ℕ → ℕ → Type 0
AreEnds from [] to = from ≡ to
AreEnds from (place ∷ places) to = (from < place) × (place ≤ from + PACKET_BYTES) × AreEnds place places to
