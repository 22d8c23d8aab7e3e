-- How large the numbers of a search get.
use Rattle.std.specs.Prelude.{ℕ, ◌≤◌, ◌^◌, ℤ, List, All}
use Rattle.whole_numbers.specs.Numbers.{IsBelow}
use Rattle.whole_numbers.specs.Bernstein.{at}
use Rattle.bezier_core.specs.declared.Bez.{Bez}
use Rattle.bezier_core.specs.Along.{controls}
use Rattle.bezier_core.specs.declared.halves.Place.{Place}
use Rattle.bezier_core.specs.Part.{part_value}
use Rattle.bezier_core.specs.Places.{IsPlace}
use Rattle.sep_parts.specs.declared.clearance.Clearance.{Clearance}
use Rattle.sep_parts.specs.Directions.{AreSmall, IsClearance, threshold}
use Rattle.sep_parts.specs.Separates.{least_value, part_along}

-- At a place and along a direction: the control values of the part, their weighted sums, the threshold, and what each
-- sum must be at least.
pub record HasSmallNumbers (c : Clearance) (diff : List (Bez 8)) (place : Place) (n : List ℤ) : Type 0 where
  pub parts : (axis k : ℕ) → axis ≤ 2 → k ≤ 7 →
      IsBelow (2 ^ 86) (part_value place.depth place.index (at (controls diff axis)) k)
  pub sums : (k : ℕ) → k ≤ 7 → IsBelow (2 ^ 104) (part_along c.r c.h diff place n k)
  pub reach : IsBelow (2 ^ 30) (threshold c n)
  pub least : IsBelow (2 ^ 104) (least_value (threshold c n) place.depth)

-- Of differences below 2^30, no number at a place gives 2^104, along whatever direction with entries from -2 to 2.
abbrev pub SizeLaw : Type 0
SizeLaw = (c : Clearance) (diff : List (Bez 8)) (place : Place) (n : List ℤ) → IsClearance c → AreSmall n →
    IsPlace place.depth place.index → All (λ curve. All (IsBelow (2 ^ 30)) curve.b) diff →
    HasSmallNumbers c diff place n
