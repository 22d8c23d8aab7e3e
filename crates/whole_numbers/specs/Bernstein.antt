-- Bernstein sums, the textbook's form of a Bézier curve, in whole numbers: the curve's value at the fraction a / c is
-- the sum at a and c divided by c to the power of the degree.
use Rattle.std.specs.Prelude.{ℕ, zero, suc, ◌+◌, ◌-◌, ℤ, pos, ◌-ℤ◌, ◌*ℤ◌, List, length, slice_index_or}
use Rattle.whole_numbers.specs.Sums.{sum_below, power}

-- in how many ways k things are chosen from n: the binomial coefficient C(n, k), by Pascal's rule
abbrev pub choose : ℕ → ℕ → ℕ
choose n zero = 1
choose zero (suc k) = 0
choose (suc n) (suc k) = choose n k + choose n (suc k)

-- the weight of the control value k at degree n: C(n, k) a^k (c - a)^(n - k)
abbrev pub weight : ℕ → ℕ → ℤ → ℤ → ℤ
weight n k a c = pos (choose n k) *ℤ power a k *ℤ power (c -ℤ a) (n - k)

-- the Bernstein sum of degree n at a and c of the control values f 0 to f n
unfoldable pub bernstein : ℕ → (ℕ → ℤ) → ℤ → ℤ → ℤ
bernstein n f a c = sum_below (suc n) (λ k. weight n k a c *ℤ f k)

-- the number at place k of a list, and 0 past its end
abbrev pub at : List ℤ → ℕ → ℤ
at b k = slice_index_or b k (pos 0)

-- the Bernstein sum at a and c of a list of one or more control values, whose degree is one below its length
abbrev pub bern : List ℤ → ℤ → ℤ → ℤ
bern b a c = bernstein (length b - 1) (at b) a c
