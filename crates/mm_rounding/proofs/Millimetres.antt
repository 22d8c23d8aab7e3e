-- Rounding to millimetres errs by half a millimetre at most.
use Rattle.mm_rounding.proofs.Prelude.{ℤ, pos, negsuc, ◌+ℤ◌, ◌-ℤ◌, ◌*ℤ◌, ◌≤ℤ◌, ◌<ℤ◌, arith, ints, millimetres}
use Rattle.std.specs.Int.{int_div_euclid}

-- the floor of a thousandth
pub floor_of : (v : ℤ) → ((int_div_euclid v (pos 1000) *ℤ pos 1000) ≤ℤ v) × (v <ℤ ((int_div_euclid v (pos 1000) *ℤ pos 1000) +ℤ pos 1000))
floor_of (pos n) = (omega (arith, ints), omega (arith, ints))
floor_of (negsuc n) = (omega (arith, ints), omega (arith, ints))

-- a thousand times the rounded number is within 500 of the number
pub millimetres_near : (v : ℤ) → ((v -ℤ pos 500) ≤ℤ (pos 1000 *ℤ millimetres v)) × ((pos 1000 *ℤ millimetres v) ≤ℤ (v +ℤ pos 500))
millimetres_near v = (omega (arith, ints, floor_of (v +ℤ pos 500)), omega (arith, ints, floor_of (v +ℤ pos 500)))
