-- Small points.
use Rattle.std.specs.Prelude.{ℕ, suc, zero, ℤ}
use Rattle.sep_parts.specs.Apart.{Point}

-- the point of these millimetres
abbrev pub place : ℤ → ℤ → ℤ → Point
place x y z = record { on = on x y z; over = 1 } where
  on : ℤ → ℤ → ℤ → ℕ → ℤ
  on x y z zero = x
  on x y z (suc zero) = y
  on x y z (suc (suc k)) = z
