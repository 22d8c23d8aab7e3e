-- A part of a text byte by byte.
use Rattle.std.specs.Prelude.{◌≡◌, ℕ, suc, ◌<◌, ◌≤◌, ◌==◌, Bool, true, false, ◌&&◌, ◌||◌, bytes_eq, List, [], ◌∷◌, ◌++◌}
use Rattle.std.specs.Prelude.{length, take, drop, Option, Some, if◌then◌else◌}
use Rattle.std.specs.Io.KnownBytes.{prepend_known}
use Rattle.std.specs.List.{position_or_len}
use Rattle.text_lines.specs.Lines.{between_feeds}
use Rattle.text_lines.specs.Marker.{is_marker, has_marker, part_of, rest_of}
use Rattle.byte_streams.specs.declared.parts.Ask.{Ask}
use Rattle.byte_streams.specs.declared.parts.Ask.TheVariants as ask

-- the bytes up to the first line feed, and those after it
abbrev pub first_piece : List ℕ → List ℕ
first_piece [] = []
first_piece (b ∷ bytes) = if b == 10 then [] else b ∷ first_piece bytes

abbrev pub after_piece : List ℕ → List ℕ
after_piece [] = []
after_piece (b ∷ bytes) = if b == 10 then bytes else after_piece bytes

-- a marker line stands here, where a line begins
abbrev pub is_marked_here : Bool → List ℕ → Bool
is_marked_here at_line bytes = at_line && is_marker (first_piece bytes)

-- What is left of the part, whether a marker line ends it, and what stands after that, where a line begins here or
-- not.
abbrev pub part_left : Bool → List ℕ → List ℕ
part_left at_line [] = []
part_left at_line (b ∷ bytes) = if is_marked_here at_line (b ∷ bytes) then [] else b ∷ part_left (b == 10) bytes

abbrev pub is_marked_left : Bool → List ℕ → Bool
is_marked_left at_line [] = false
is_marked_left at_line (b ∷ bytes) = if is_marked_here at_line (b ∷ bytes) then true else is_marked_left (b == 10) bytes

abbrev pub rest_left : Bool → List ℕ → List ℕ
rest_left at_line [] = []
rest_left at_line (b ∷ bytes) =
    if is_marked_here at_line (b ∷ bytes) then after_piece (b ∷ bytes) else rest_left (b == 10) bytes

-- a line begins after these bytes, where one begins before them or not
abbrev pub begins_after : Bool → List ℕ → Bool
begins_after at_line [] = at_line
begins_after at_line (b ∷ bytes) = begins_after (b == 10) bytes

-- a marker line stands at none of these bytes, after which others stand, where a line begins here or not
abbrev pub ArePlain : Bool → List ℕ → List ℕ → Type 0
ArePlain at_line [] rest = Unit {0}
ArePlain at_line (b ∷ bytes) rest = (is_marked_here at_line (b ∷ bytes ++ rest) ≡ false) × ArePlain (b == 10) bytes rest

-- What a call gives is what comes next of all bytes to come: the first of those that wait, at none of which a marker
-- line stands; the marker line, after which the others are still to come; or the end.
abbrev pub AsksNext : Ask → Bool → List ℕ → List ℕ → Option (List ℕ) → Type 0
AsksNext (ask.Bytes count) at_line all waiting left =
    (rest : List ℕ) × (all ≡ take count waiting ++ rest) × (prepend_known (drop count waiting) left ≡ Some rest)
    × ArePlain at_line (take count waiting) rest
AsksNext ask.Marker at_line all waiting left = (is_marked_here at_line all ≡ true)
    × (prepend_known waiting left ≡ Some (after_piece all))
AsksNext ask.«End» at_line all waiting left = (all ≡ []) × (prepend_known waiting left ≡ Some [])

-- the bytes that a call gives wait, and are some
abbrev pub IsWithin : Ask → List ℕ → Type 0
IsWithin (ask.Bytes count) waiting = (0 < count) × (count ≤ length waiting)
IsWithin ask.Marker waiting = Unit {0}
IsWithin ask.«End» waiting = Unit {0}

-- a line begins where the bytes begin that a call gives, or after its marker line or the end
abbrev pub begins_line : Bool → Ask → Bool
begins_line at_line (ask.Bytes count) = at_line
begins_line at_line ask.Marker = true
begins_line at_line ask.«End» = true

-- Byte by byte a part is the same as by lines.
pub record PartLaw : Type 0 where
  pub part : (all : List ℕ) → part_left true all ≡ part_of all
  pub marked : (all : List ℕ) → is_marked_left true all ≡ has_marker (between_feeds all)
  pub rest : (all : List ℕ) → rest_left true all ≡ rest_of all

-- these bytes, where a line begins, can still be followed by the rest of a marker line
abbrev pub may_be_marker : List ℕ → Bool
may_be_marker bytes =
    bytes_eq bytes []
    || (bytes_eq bytes (37 ∷ []) || (bytes_eq bytes (37 ∷ 37 ∷ []) || bytes_eq bytes (37 ∷ 37 ∷ 13 ∷ [])))

-- whether these bytes that wait leave open what comes next, where a line begins or not
abbrev pub is_untold : Bool → List ℕ → Bool
is_untold at_line bytes = bytes_eq bytes [] || (at_line && may_be_marker bytes)

-- the first byte, and those after it before the next `%`, with which a marker line begins
abbrev pub plain_len : List ℕ → ℕ
plain_len bytes = suc (position_or_len (λ b. b == 37) (drop 1 bytes))
