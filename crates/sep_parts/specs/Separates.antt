-- When a direction separates two drones in a part of a cue.
use Rattle.std.specs.Prelude.{ℕ, ◌≤◌, ◌*◌, ◌^◌, ℤ, pos, ◌+ℤ◌, ◌*ℤ◌, ◌≤ℤ◌, int_lt, List, Option, position}
use Rattle.whole_numbers.specs.Bernstein.{at}
use Rattle.bezier_core.specs.declared.Bez.{Bez}
use Rattle.bezier_core.specs.Along.{controls}
use Rattle.bezier_core.specs.Raised.{eight}
use Rattle.bezier_core.specs.declared.halves.Place.{Place}
use Rattle.bezier_core.specs.Part.{part_value}
use Rattle.sep_parts.specs.declared.clearance.Clearance.{Clearance}
use Rattle.sep_parts.specs.Directions.{threshold}

-- what each control value of a part of this depth must be at least, at a threshold
abbrev pub least_value : ℤ → ℕ → ℤ
least_value t depth = t *ℤ pos (5040 * 2 ^ (7 * depth))

-- each of eight control values of a part of this depth is at least that
abbrev pub IsAbove : ℤ → ℕ → (ℕ → ℤ) → Type 0
IsAbove t depth f = (k : ℕ) → k ≤ 7 → least_value t depth ≤ℤ f k

-- The control value k of three curves along a direction, in the part at a place: the weighted sum of the three.
abbrev pub part_along : ℕ → ℕ → List (Bez 8) → Place → List ℤ → ℕ → ℤ
part_along r h diff place n k =
    (at n 0 *ℤ pos h) *ℤ part_value place.depth place.index (at (controls diff 0)) k
    +ℤ (at n 1 *ℤ pos h) *ℤ part_value place.depth place.index (at (controls diff 1)) k
    +ℤ (at n 2 *ℤ pos r) *ℤ part_value place.depth place.index (at (controls diff 2)) k

-- The direction n separates a place of a pair and a cue, whose raised differences these are:
-- along it each of the eight control values is at least the threshold.
abbrev pub Separates : Clearance → List (Bez 8) → Place → List ℤ → Type 0
Separates c diff place n = IsAbove (threshold c n) place.depth (part_along c.r c.h diff place n)

-- the first of eight control values that is below another number
unfoldable pub first_low : (ℕ → ℤ) → ℤ → Option ℕ
first_low f least = position (λ v. int_lt v least) (eight f)

-- the first control value of the place that is below the threshold along the direction
abbrev pub low_value : Clearance → List (Bez 8) → Place → List ℤ → Option ℕ
low_value c diff place n = first_low (part_along c.r c.h diff place n) (least_value (threshold c n) place.depth)
