-- A text of regions: one region a line.
use Rattle.std.specs.Prelude.{◌≡◌, ℕ, zero, suc, ◌+◌, ◌&&◌, ◌==◌, ℤ, pos, neg_ℤ, int_le, Bool, if◌then◌else◌, List, []}
use Rattle.std.specs.Prelude.{◌∷◌, length, codes, slice_index_or, Option, Some, None, Result, Ok, Err}
use Rattle.std.specs.Str.{bytes_eq}
use Rattle.text_lines.specs.declared.token.Comments.TheVariants.{Absent}
use Rattle.text_lines.specs.Lines.{lines_of}
use Rattle.text_lines.specs.Words as words
use Rattle.text_lines.specs.Numbers.{number_in}
use Rattle.whole_numbers.specs.Bernstein.{at}
use Rattle.keepout_boxes.specs.declared.region.Region.{Region}
use Rattle.keepout_boxes.specs.declared.region.Region.TheVariants.{Keepout, Volume}
use Rattle.keepout_boxes.specs.declared.reading.RegionFault.{RegionFault}
use Rattle.keepout_boxes.specs.declared.reading.RegionFault.TheVariants.{Line, Memory}
use Rattle.keepout_boxes.specs.Kept.{farthest, most_regions}

-- the number, if there is one
abbrev pub number_if : {E : Type 0} → Result ℤ E → Option ℤ
number_if (Ok n) = Some n
number_if (Err e) = None

-- a coordinate: whole millimetres from -40,000 to 40,000
abbrev pub coordinate : List ℕ → Option ℤ
coordinate word = number_if (number_in (neg_ℤ (pos farthest)) (pos farthest) word)

-- three coordinates, where each is there
abbrev pub three : Option ℤ → Option ℤ → Option ℤ → Option (List ℤ)
three None y z = None
three (Some x) None z = None
three (Some x) (Some y) None = None
three (Some x) (Some y) (Some z) = Some (x ∷ y ∷ z ∷ [])

-- a corner: the coordinates of three words, from a place on
abbrev pub corner : List (List ℕ) → ℕ → Option (List ℤ)
corner words place =
    three (coordinate (slice_index_or words place [])) (coordinate (slice_index_or words (place + 1) []))
    (coordinate (slice_index_or words (place + 2) []))

-- no lower end is above its upper one
abbrev pub are_ordered : List ℤ → List ℤ → Bool
are_ordered low high = int_le (at low 0) (at high 0) && int_le (at low 1) (at high 1) && int_le (at low 2) (at high 2)

-- the region of a kind between two corners
abbrev pub region_with : List ℕ → Option (List ℤ) → Option (List ℤ) → Option Region
region_with kind None high = None
region_with kind (Some low) None = None
region_with kind (Some low) (Some high) =
    if are_ordered low high
    then (if bytes_eq kind (codes "keepout") then Some (Keepout low high)
    else (if bytes_eq kind (codes "volume") then Some (Volume low high) else None))
    else None

-- The region of a line: `keepout` or `volume`, and the six ends, the lower ones first. None where the line is faulty.
abbrev pub region_of : List (List ℕ) → Option Region
region_of words =
    if length words == 7 then region_with (slice_index_or words 0 []) (corner words 1) (corner words 4) else None

-- A line's region before those of the lines after it; or the line, where it is faulty.
abbrev pub put_region : ℕ → Option Region → Result (List Region) ℕ → Result (List Region) ℕ
put_region number None later = Err number
put_region number (Some region) (Ok regions) = Ok (region ∷ regions)
put_region number (Some region) (Err faulty) = Err faulty

-- The regions of these lines, at most `room` of them, or the number of the first faulty one. A line too many is faulty.
abbrev pub regions_from : ℕ → List words.Line → Result (List Region) ℕ
regions_from room [] = Ok []
regions_from zero (line ∷ lines) = Err line.number
regions_from (suc room) (line ∷ lines) = put_region line.number (region_of line.words) (regions_from room lines)

-- What a text of regions says: the regions of its lines with words in order, or the number of the first faulty line. A
-- `#` is a byte like others.
abbrev pub regions_of : List ℕ → Result (List Region) ℕ
regions_of text = regions_from most_regions (words.numbered Absent 1 (lines_of text))

-- A line is the first faulty one of the text. Out of memory says nothing.
abbrev pub FaultGives : RegionFault → Result (List Region) ℕ → Type 0
FaultGives (Line line) regions = regions ≡ Err line
FaultGives Memory regions = Unit {0}
