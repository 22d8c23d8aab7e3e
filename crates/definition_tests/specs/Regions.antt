-- What the definition of regions that are kept says of small flights.
use Rattle.std.specs.Prelude.{ℤ, pos, negsuc, List, [], ◌∷◌}
use Rattle.keepout_boxes.specs.declared.region.Region.{Region}
use Rattle.keepout_boxes.specs.declared.region.Region.TheVariants.{Keepout, Volume}
use Rattle.keepout_boxes.specs.Kept.{KeepClear}
use Rattle.definition_tests.specs.Apart.{behind}
use Rattle.definition_tests.specs.Flights.{flight}

-- three ends, on x, y and z
abbrev pub ends : ℤ → ℤ → ℤ → List ℤ
ends x y z = x ∷ y ∷ z ∷ []

-- from these millimetres on x and z to those, and from -1 to 1 on y
abbrev pub volume : ℤ → ℤ → ℤ → ℤ → Region
volume x z high_x high_z = Volume (ends x (negsuc 0) z) (ends high_x (pos 1) high_z)

-- a box from one number to another on x, and five to each side of 0 on y and z
abbrev pub box : ℤ → ℤ → Region
box from to = Keepout (ends from (negsuc 4) (negsuc 4)) (ends to (pos 5) (pos 5))

-- a wide box from one number to another on z
abbrev pub layer : ℤ → ℤ → Region
layer from to = Keepout (ends (negsuc 49) (negsuc 4) from) (ends (pos 50) (pos 5) to)

-- Two drones fly from 0 to 10 and from 7 to 17 mm on x, with 1 mm to each side and 2 mm above and below. They keep to
-- a volume that has room for just that, and out of boxes that are a millimetre farther off. They don't keep to a volume
-- of which one side is a millimetre nearer, and they enter a box that they touch, be it one drone at one instant.
pub record RegionRows : Type 0 where
  pub inside : KeepClear 1 2 (volume (negsuc 0) (negsuc 1) (pos 18) (pos 2) ∷ []) behind
  pub too_low_x : KeepClear 1 2 (volume (pos 0) (negsuc 1) (pos 18) (pos 2) ∷ []) behind → ⊥
  pub too_high_x : KeepClear 1 2 (volume (negsuc 0) (negsuc 1) (pos 17) (pos 2) ∷ []) behind → ⊥
  pub too_low_z : KeepClear 1 2 (volume (negsuc 0) (negsuc 0) (pos 18) (pos 2) ∷ []) behind → ⊥
  pub too_high_z : KeepClear 1 2 (volume (negsuc 0) (negsuc 1) (pos 18) (pos 1) ∷ []) behind → ⊥
  pub before : KeepClear 1 2 (box (pos 19) (pos 29) ∷ []) behind
  pub touched : KeepClear 1 2 (box (pos 18) (pos 28) ∷ []) behind → ⊥
  pub after : KeepClear 1 2 (box (negsuc 9) (negsuc 1) ∷ []) behind
  pub touched_behind : KeepClear 1 2 (box (negsuc 9) (negsuc 0) ∷ []) behind → ⊥
  pub above : KeepClear 1 2 (layer (pos 3) (pos 9) ∷ []) behind
  pub touched_above : KeepClear 1 2 (layer (pos 2) (pos 9) ∷ []) behind → ⊥
  pub second_region : KeepClear 1 2 (box (pos 19) (pos 29) ∷ box (pos 18) (pos 28) ∷ []) behind → ⊥
  pub between : KeepClear 1 2 (box (pos 500) (pos 502) ∷ []) (flight (pos 0) (pos 1000) ∷ []) → ⊥
