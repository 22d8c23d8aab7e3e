-- Which curves there are.
use Rattle.std.specs.Prelude.{◌≡◌, ◌⊎◌, ℕ}

-- a curve has 1, 2, 4 or 8 control values: its degree is 0, 1, 3 or 7
abbrev pub IsLength : ℕ → Type 0
IsLength n = (n ≡ 1) ⊎ (n ≡ 2) ⊎ (n ≡ 4) ⊎ (n ≡ 8)
