-- The compressed trajectory: which bytes spell which trajectory. A relation between whole lists, to be read beside
-- Bitcraze's "compressed trajectory format" and docs/TRAJECTORY.md.
use Rattle.std.specs.Prelude.{◌≡◌, ℕ, ◌+◌, ◌*◌, ◌^◌, ◌<◌, ℤ, pos, neg_ℤ, List, [], ◌∷◌, ◌++◌, length}
use Rattle.std.specs.List.{flat_map, All}
use Rattle.std.specs.Int.{w16, cast_unsigned}
use Rattle.byteorder.specs.Endian.{little_bytes}
use Rattle.whole_numbers.specs.Numbers.{IsIn}
use Rattle.traj_codec.specs.declared.traj.Element.{Element}
use Rattle.traj_codec.specs.declared.traj.Element.TheVariants.{Constant, Linear, Cubic, Seven}
use Rattle.traj_codec.specs.declared.traj.Segment.{Segment}
use Rattle.traj_codec.specs.declared.traj.Traj.{Traj}

-- ---- the bytes

-- a signed number of two bytes in two's complement, the lower byte first
abbrev pub number : ℤ → List ℕ
number z = little_bytes 2 (cast_unsigned w16 z)

-- signed numbers, one after another
abbrev pub numbers : List ℤ → List ℕ
numbers zs = flat_map number zs

-- the two bits of a header that say an element's kind
abbrev pub kind : Element → ℕ
kind Constant = 0
kind (Linear v) = 1
kind (Cubic v) = 2
kind (Seven v) = 3

-- the control points of an element after its first one, which is the last value before its segment and isn't written
abbrev pub stored : Element → List ℤ
stored Constant = []
stored (Linear v) = v ∷ []
stored (Cubic v) = v
stored (Seven v) = v

-- a segment's first byte: the kinds of its elements, that of the first in the two lowest bits
abbrev pub header : List Element → ℕ
header [] = 0
header (e ∷ es) = kind e + 4 * header es

-- the numbers of elements, one element after another
abbrev pub bodies : List Element → List ℕ
bodies es = flat_map (λ (e : Element). numbers (stored e)) es

-- a segment: its header, its duration in two bytes, the lower one first, and the numbers of x, y, z and yaw
abbrev pub segment : Segment → List ℕ
segment s = header s.elements ∷ little_bytes 2 s.ms ++ bodies s.elements

-- a trajectory: its start, then its segments
abbrev pub spelling : Traj → List ℕ
spelling t = numbers t.start ++ flat_map segment t.segments

-- a segment takes some time
abbrev pub HasDuration : Segment → Type 0
HasDuration s = 0 < s.ms

-- The bytes, all of them, are a spelling of this trajectory; a trajectory with a duration 0 has none.
pub record Spells (bytes : List ℕ) (t : Traj) : Type 0 where
  pub text : bytes ≡ spelling t
  pub durations : All HasDuration t.segments

-- what stands after each trajectory that is written: three zero bytes
abbrev pub ending : List ℕ
ending = 0 ∷ 0 ∷ 0 ∷ []

-- The bytes are a spelling of this trajectory, and then the ending.
pub record IsEncoding (bytes : List ℕ) (t : Traj) : Type 0 where
  pub spelled : List ℕ
  pub spells : Spells spelled t
  pub ended : bytes ≡ spelled ++ ending

-- ---- one spelling each

-- the number fits two bytes
abbrev pub IsNumber : ℤ → Type 0
IsNumber z = IsIn (neg_ℤ (pos 32768)) (pos 32767) z

-- this many numbers, each of which fits two bytes
pub record AreNumbers (count : ℕ) (zs : List ℤ) : Type 0 where
  pub many : length zs ≡ count
  pub each : All IsNumber zs

-- An element has as many numbers as its kind says.
abbrev pub IsElement : Element → Type 0
IsElement Constant = Unit {0}
IsElement (Linear v) = IsNumber v
IsElement (Cubic v) = AreNumbers 3 v
IsElement (Seven v) = AreNumbers 7 v

-- A segment has four elements, and its duration fits two bytes.
pub record IsSegment (s : Segment) : Type 0 where
  pub short : s.ms < 2 ^ 16
  pub many : length s.elements ≡ 4
  pub each : All IsElement s.elements

-- A trajectory has four numbers at its start, and segments. Each value of the type `Traj` is so.
pub record IsTrajectory (t : Traj) : Type 0 where
  pub start : AreNumbers 4 t.start
  pub segments : All IsSegment t.segments

-- Two trajectories of as many segments that bytes begin with are one, and end at the same place: each has one spelling,
-- which spells nothing else, and none is a front of another.
abbrev pub SpellingLaw : Type 0
SpellingLaw =
    (t u : Traj) → (rest other : List ℕ) → IsTrajectory t → IsTrajectory u → length t.segments ≡ length u.segments →
    spelling t ++ rest ≡ spelling u ++ other → (t ≡ u) × (rest ≡ other)
