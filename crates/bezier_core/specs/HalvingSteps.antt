-- Words for the proof of `halve` alone: what is known after some rows of the triangle. No public clause cites them.
use Rattle.std.specs.Prelude.{◌≡◌, ◌⊎◌, ℕ, ◌+◌, ◌<◌, ◌≤◌, List, ℤ, pos}
use Rattle.whole_numbers.specs.Bernstein.{at, bernstein}
use Rattle.bezier_core.specs.Part.{part_value}

-- after k rows of de Casteljau's triangle at the middle, row has row k of it, left the first k control values of the
-- left half, and right the last k of the right half
pub record HasRows (k : ℕ) (b row left right : List ℤ) : Type 0 where
  pub rows : (i : ℕ) → i + k ≤ 7 → at row i ≡ bernstein k (λ j. at b (i + j)) (pos 1) (pos 2)
  pub left_half : (j : ℕ) → j < k → at left j ≡ part_value 1 0 (at b) j
  pub right_half : (j : ℕ) → 8 ≤ j + k → j ≤ 7 → at right j ≡ part_value 1 1 (at b) j

-- numbers of 64 bits, or of 128
abbrev pub IsWord : ℕ → Type 0
IsWord bits = (bits ≡ 64) ⊎ (bits ≡ 128)
