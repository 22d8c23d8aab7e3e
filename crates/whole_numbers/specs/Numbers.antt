-- Bounds on whole numbers.
use Rattle.std.specs.Prelude.{ℕ, ℤ, pos, neg_ℤ, ◌<ℤ◌, ◌≤ℤ◌}

-- z lies strictly between -n and n
abbrev pub IsBelow : ℕ → ℤ → Type 0
IsBelow n z = (neg_ℤ (pos n) <ℤ z) × (z <ℤ pos n)

-- z lies from low to high, both ends in
abbrev pub IsIn : ℤ → ℤ → ℤ → Type 0
IsIn low high z = (low ≤ℤ z) × (z ≤ℤ high)
