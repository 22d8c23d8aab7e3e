-- The words of the argument on one leaf: three curves as functions, and a direction as a record of three whole numbers.
use Rattle.sep_parts.proofs.Prelude.{ℕ, ◌≤◌, ◌*◌, ◌^◌, ℤ, pos, ◌+ℤ◌, ◌*ℤ◌, ◌≤ℤ◌, List, power, at, bernstein, Bez, controls, part_value, Clearance, AreSmall, threshold}

-- a direction of three whole numbers
pub record Direction : Type 0 where
  pub x : ℤ
  pub y : ℤ
  pub z : ℤ

-- a row of the table as a direction
abbrev pub direction : List ℤ → Direction
direction n = record { x = at n 0; y = at n 1; z = at n 2 }

-- the raised curves of the second drone less those of the first, by their control values at 0 to 7
pub record Cue : Type 0 where
  pub x : ℕ → ℤ
  pub y : ℕ → ℤ
  pub z : ℕ → ℤ

-- three curves as functions
abbrev pub cue_of : List (Bez 8) → Cue
cue_of curves = record { x = at (controls curves 0); y = at (controls curves 1); z = at (controls curves 2) }

-- the control value k of the part, along the direction
abbrev pub along_part : Cue → Direction → ℕ → ℕ → ℕ → ℕ → ℕ → ℤ
along_part d n r h depth index k =
    (n.x *ℤ pos h) *ℤ part_value depth index d.x k
    +ℤ (n.y *ℤ pos h) *ℤ part_value depth index d.y k
    +ℤ (n.z *ℤ pos r) *ℤ part_value depth index d.z k

-- along the direction the part is at least the threshold
pub record IsSeparatedBy (d : Cue) (n : Direction) (r h : ℕ) (t : ℤ) (depth index : ℕ) : Type 0 where
  pub values : (k : ℕ) → k ≤ 7 → (t *ℤ pos (5040 * 2 ^ (7 * depth))) ≤ℤ along_part d n r h depth index k

-- Along some direction the raised differences are at least its threshold at a / c.
pub record IsSeenRaised (clear : Clearance) (d : Cue) (a c : ℤ) : Type 0 where
  pub n : List ℤ
  pub small : AreSmall n
  pub along :
      (threshold clear n *ℤ (pos 5040 *ℤ power c 7))
      ≤ℤ ((at n 0 *ℤ pos clear.h) *ℤ bernstein 7 d.x a c +ℤ (at n 1 *ℤ pos clear.h) *ℤ bernstein 7 d.y a c +ℤ (at n 2 *ℤ pos clear.r) *ℤ bernstein 7 d.z a c)
