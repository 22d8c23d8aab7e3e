-- Words for the proofs of the loops alone: how much room the single steps of `value` and `to_eight` have. No public
-- clause cites them.
use Rattle.std.specs.Prelude.{ℕ, ◌≤◌, ◌^◌, List, ℤ, pos, neg_ℤ, ◌*ℤ◌, ◌≤ℤ◌, ◌<ℤ◌}
use Rattle.whole_numbers.specs.Bernstein.{at}

-- z lies from -m to m, both ends in
abbrev pub IsWithin : ℤ → ℤ → Type 0
IsWithin m z = (neg_ℤ m ≤ℤ z) × (z ≤ℤ m)

-- the values at 0 to last have a bound whose product with c fits 128 bits
pub record HasRoom (row : List ℤ) (last : ℕ) (c : ℤ) : Type 0 where
  pub bound : ℤ
  pub values : (k : ℕ) → k ≤ last → IsWithin bound (at row k)
  pub fits : (c *ℤ bound) <ℤ pos (2 ^ 127)

-- two values have a bound whose product with c fits 128 bits
pub record FitsTimes (c x y : ℤ) : Type 0 where
  pub bound : ℤ
  pub first : IsWithin bound x
  pub second : IsWithin bound y
  pub fits : (c *ℤ bound) <ℤ pos (2 ^ 127)
