-- Sums and powers of whole numbers.
use Rattle.std.specs.Prelude.{ℕ, zero, suc, ℤ, pos, ◌+ℤ◌, ◌*ℤ◌}

-- f 0 + f 1 + .. + f (n - 1)
abbrev pub sum_below : ℕ → (ℕ → ℤ) → ℤ
sum_below zero f = pos 0
sum_below (suc n) f = sum_below n f +ℤ f n

-- x to the power k
abbrev pub power : ℤ → ℕ → ℤ
power x zero = pos 1
power x (suc k) = x *ℤ power x k
