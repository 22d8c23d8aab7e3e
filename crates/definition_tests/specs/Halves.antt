-- What the definitions of half a millimetre say of small numbers.
use Rattle.std.specs.Prelude.{pos, negsuc}
use Rattle.whole_numbers.specs.Near.{IsNear, IsNearOver}

-- Half a millimetre is near, and a micrometre more is not; so on either side, and over denominators that differ.
pub record HalfRows : Type 0 where
  pub above : IsNear (pos 500) (pos 0) 1
  pub past_above : IsNear (pos 501) (pos 0) 1 → ⊥
  pub below : IsNear (negsuc 499) (pos 0) 1
  pub past_below : IsNear (negsuc 500) (pos 0) 1 → ⊥
  pub above_over : IsNearOver (pos 500) 1 (pos 0) 2
  pub past_above_over : IsNearOver (pos 501) 1 (pos 0) 2 → ⊥
  pub below_over : IsNearOver (negsuc 499) 1 (pos 0) 2
  pub past_below_over : IsNearOver (negsuc 500) 1 (pos 0) 2 → ⊥
