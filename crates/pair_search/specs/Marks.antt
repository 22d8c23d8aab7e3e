-- What the marks of points tell of directions, and the ends of parts that share them. No public clause cites these
-- words.
use Rattle.std.specs.Prelude.{◌≡◌, ◌⊎◌, ℕ, ◌+◌, ◌-◌, ◌<◌, ◌≤◌, ◌<ℤ◌, Bool, true, false, List, [], ◌∷◌, length, Option, Some, None}
use Rattle.std.specs.Int.{bit_at}
use Rattle.whole_numbers.specs.Bernstein.{at}
use Rattle.bezier_core.specs.declared.Bez.{Bez}
use Rattle.bezier_core.specs.declared.halves.Place.{Place}
use Rattle.sep_parts.specs.declared.stack.Level.{Level}
use Rattle.sep_parts.specs.Directions.{direction_of, threshold}
use Rattle.sep_parts.specs.Levels.{root}
use Rattle.sep_parts.specs.Rulers.{Measure}
use Rattle.sep_parts.specs.Separates.{least_value, part_along}
use Rattle.pair_search.specs.declared.lanes.Point.{Point}
use Rattle.pair_search.specs.declared.opposites.Opposites.{Opposites}
use Rattle.pair_search.specs.declared.marking.Marks.{Marks}
use Rattle.pair_search.specs.declared.ends.Ends.{Ends}
use Rattle.pair_search.specs.declared.ends.Kept.{Kept}
use Rattle.pair_search.specs.declared.ends.Weighed.{Weighed}
use Rattle.pair_search.specs.Lanes.{IsPoint, IsSmallPoint, lane_value}
use Rattle.pair_search.specs.Search.{first_by}
use Rattle.pair_search.specs.Steps.{IsSome, does_separate}

-- where a bit of a point is clear, the point is too low in its lane, or too high for the opposite one: in the lanes
-- from one on and before another
pub record IsMarkedIn (begin past : ℕ) (s : Opposites) (p : Point) (marks : Marks) : Type 0 where
  pub front : (i : ℕ) → begin ≤ i → i < past → bit_at marks.front i ≡ 0 → lane_value s.lanes p i <ℤ at s.lanes.low i
  pub back : (i : ℕ) → begin ≤ i → i < past → bit_at marks.back i ≡ 0 → at s.high i <ℤ lane_value s.lanes p i

-- in all lanes
abbrev pub IsMarked : Opposites → Point → Marks → Type 0
IsMarked s p marks = IsMarkedIn 0 49 s p marks

-- the marks of a point in the first 16 lanes, and in the others where they are made
pub record IsWeighed (s : Opposites) (w : Weighed) : Type 0 where
  pub small : IsSmallPoint w.point
  pub early : IsMarkedIn 0 16 s w.point w.early
  pub late : (marks : Marks) → w.late ≡ Some marks → IsMarkedIn 16 49 s w.point marks

-- the marks are those of the control values k of a level
abbrev pub MarksAt : Opposites → Level → ℕ → Marks → Type 0
MarksAt s level k marks = (p : Point) × IsSmallPoint p × IsPoint level k p × IsMarked s p marks

-- two points, weighed
abbrev pub AreWeighed : Opposites → Kept → Type 0
AreWeighed s kept = IsWeighed s kept.first × IsWeighed s kept.last

-- they are the two ends of a whole cue
pub record AreEnds (s : Opposites) (diff : List (Bez 8)) (kept : Kept) : Type 0 where
  pub first : IsWeighed s kept.first
  pub last : IsWeighed s kept.last
  pub at_first : IsPoint (record { place = root; part = diff }) 0 kept.first.point
  pub at_last : IsPoint (record { place = root; part = diff }) 7 kept.last.point

-- a bit is clear only where that of one of two others is
abbrev pub MarkTells : ℕ → ℕ → ℕ → Type 0
MarkTells a b both = (i : ℕ) → bit_at both i ≡ 0 → (bit_at a i ≡ 0) ⊎ (bit_at b i ≡ 0)

-- the control value k of a place is too low along a direction
abbrev pub IsLowEnd : Measure → List (Bez 8) → Place → ℕ → ℕ → Type 0
IsLowEnd m diff place k dir =
    part_along m.clearance.r m.clearance.h diff place (direction_of m.directions dir) k
    <ℤ least_value (threshold m.clearance (direction_of m.directions dir)) place.depth

-- so it is where the bit of the direction is clear, and along its opposite where that bit is
pub record TellsOf (m : Measure) (diff : List (Bez 8)) (place : Place) (k : ℕ) (marks : Marks) : Type 0 where
  pub front : (i : ℕ) → i + i < length m.directions → bit_at marks.front i ≡ 0 → IsLowEnd m diff place k i
  pub back : (i : ℕ) → i + i < length m.directions → bit_at marks.back i ≡ 0
      → IsLowEnd m diff place k (length m.directions - (i + 1))

-- the marks of both ends of a place
pub record TellsEnds (m : Measure) (diff : List (Bez 8)) (place : Place) (ends : Ends) : Type 0 where
  pub first : TellsOf m diff place 0 ends.first
  pub last : TellsOf m diff place 7 ends.last

-- those of each of several places
abbrev pub TellAll : Measure → List (Bez 8) → List Place → List Ends → Type 0
TellAll m diff [] all = Unit {0}
TellAll m diff (place ∷ places) [] = ⊥
TellAll m diff (place ∷ places) (ends ∷ all) = TellsEnds m diff place ends × TellAll m diff places all

-- a direction whose bit is clear doesn't separate a place, and so with the opposite
pub record AreLeft (m : Measure) (diff : List (Bez 8)) (place : Place) (near : Marks) : Type 0 where
  pub front : (i : ℕ) → i + i < length m.directions → bit_at near.front i ≡ 0 → does_separate m diff place i ≡ false
  pub back : (i : ℕ) → i + i < length m.directions → bit_at near.back i ≡ 0
      → does_separate m diff place (length m.directions - (i + 1)) ≡ false

-- the direction of a bit: the one with its number, or the one as far from the end of the table
abbrev pub dir_of : ℕ → Bool → ℕ → ℕ
dir_of count false i = i
dir_of count true i = count - (i + 1)

-- of the directions with a bit one that separates a place, if one does
abbrev pub FindsMarked : Measure → List (Bez 8) → Place → ℕ → Bool → Option ℕ → Type 0
FindsMarked m diff place bits back None =
    (i : ℕ) → i < length m.directions → i < 64 → bit_at bits i ≡ 1
    → does_separate m diff place (dir_of (length m.directions) back i) ≡ false
FindsMarked m diff place bits back (Some dir) = IsSome m diff place dir

-- the direction of a bit, where it separates a place
abbrev pub FindsBit : Measure → List (Bez 8) → Place → Bool → ℕ → Option ℕ → Type 0
FindsBit m diff place back i None =
    i < length m.directions → does_separate m diff place (dir_of (length m.directions) back i) ≡ false
FindsBit m diff place back i (Some dir) = IsSome m diff place dir

-- ---- the first direction that marks leave
-- the whole cue has none of the first 16 directions, those whose bit is clear
abbrev pub AreEarly : Measure → List (Bez 8) → ℕ → Type 0
AreEarly m diff near =
    (i : ℕ) → i < 16 → i + i < length m.directions → bit_at near i ≡ 0 → does_separate m diff root i ≡ false

-- the first direction of the whole cue, or that it is none of the first 16
abbrev pub FindsEarly : Measure → List (Bez 8) → Option ℕ → Type 0
FindsEarly m diff None = (i : ℕ) → i < 16 → i + i < length m.directions → does_separate m diff root i ≡ false
FindsEarly m diff (Some dir) = Some dir ≡ first_by m diff root

-- marks don't leave the direction with this number: its own bit in the first half of the table, else that of its
-- opposite, is clear
abbrev pub IsOut : ℕ → Marks → ℕ → Type 0
IsOut count near dir = ((dir + dir < count) × (bit_at near.front dir ≡ 0))
    ⊎ ((count ≤ dir + dir) × (bit_at near.back (count - (dir + 1)) ≡ 0))

-- the direction of one bit stands before that of another
abbrev pub IsBefore : Bool → ℕ → ℕ → Type 0
IsBefore false k bit = k < bit
IsBefore true k bit = bit < k

-- Of the directions with a bit, or of their opposites, the first for which `holds` holds, where `fails` holds for each
-- before it; none where `fails` holds for each.
abbrev pub FindsEarliest : (ℕ → Type 0) → (ℕ → Type 0) → ℕ → ℕ → Bool → Option ℕ → Type 0
FindsEarliest fails holds count bits back None =
    (k : ℕ) → k + k < count → (bit_at bits k ≡ 0) ⊎ fails (dir_of count back k)
FindsEarliest fails holds count bits back (Some dir) = (bit : ℕ) × (bit + bit < count) × (dir ≡ dir_of count back bit)
    × holds dir
    × ((k : ℕ) → k + k < count → IsBefore back k bit → (bit_at bits k ≡ 0) ⊎ fails (dir_of count back k))

-- what holds for the direction of one bit
abbrev pub AnswersBit : (ℕ → Type 0) → (ℕ → Type 0) → ℕ → Bool → ℕ → Option ℕ → Type 0
AnswersBit fails holds count back bit None = bit + bit < count → fails (dir_of count back bit)
AnswersBit fails holds count back bit (Some dir) = (bit + bit < count) × (dir ≡ dir_of count back bit) × holds dir
