-- When a position in millimetres is near one in micrometres.
use Rattle.std.specs.Prelude.{◌≡◌, ℕ, ℤ, pos, ◌+ℤ◌, ◌-ℤ◌, ◌*ℤ◌, ◌≤ℤ◌}
use Rattle.whole_numbers.specs.Sums.{power}

-- The written position w in micrometres and the decoded position d in millimetres, both numerators over c ^ 7,
-- differ by at most half a millimetre: |1000 d - w| is at most 500 c ^ 7.
pub record IsNear (w d : ℤ) (c : ℕ) : Type 0 where
  pub below : (w -ℤ (pos 500 *ℤ power (pos c) 7)) ≤ℤ (pos 1000 *ℤ d)
  pub above : (pos 1000 *ℤ d) ≤ℤ (w +ℤ (pos 500 *ℤ power (pos c) 7))

-- The written position w in micrometres, a numerator over c ^ 7, and the decoded position d in millimetres, a numerator
-- over e ^ 7, differ by at most half a millimetre: |1000 d c ^ 7 - w e ^ 7| is at most 500 (e c) ^ 7.
pub record IsNearOver (w : ℤ) (c : ℕ) (d : ℤ) (e : ℕ) : Type 0 where
  pub below : (w *ℤ power (pos e) 7 -ℤ pos 500 *ℤ power (pos e *ℤ pos c) 7) ≤ℤ (pos 1000 *ℤ (d *ℤ power (pos c) 7))
  pub above : (pos 1000 *ℤ (d *ℤ power (pos c) 7)) ≤ℤ (w *ℤ power (pos e) 7 +ℤ pos 500 *ℤ power (pos e *ℤ pos c) 7)

-- What is near by one segment is near by another that makes the same curve.
abbrev pub NearLaw : Type 0
NearLaw = (w x d : ℤ) (c e : ℕ) → IsNear w x c → (d *ℤ power (pos c) 7) ≡ (x *ℤ power (pos e) 7) → IsNearOver w c d e
