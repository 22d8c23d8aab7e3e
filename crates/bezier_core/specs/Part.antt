-- The control values of a dyadic part of a curve of degree seven: of the part between the fractions m / 2^e and
-- (m + 1) / 2^e. They are told by the polar form (the blossom), and not by the halving that reaches them.
use Rattle.std.specs.Prelude.{ℕ, zero, suc, ◌+◌, ◌-◌, ◌/◌, ◌%◌, ◌^◌, ℤ, pos}
use Rattle.whole_numbers.specs.Bernstein.{bernstein}

-- The polar form of degree j + k with j arguments left / scale and k arguments right / scale, times scale^(j + k):
-- the sum over i from 0 to j and l from 0 to k of
-- C(j, i) left^i (scale - left)^(j - i) C(k, l) right^l (scale - right)^(k - l) f (i + l).
-- It is a Bernstein sum of Bernstein sums.
unfoldable pub polar : ℕ → ℕ → (ℕ → ℤ) → ℤ → ℤ → ℤ → ℤ
polar j k f left right scale = bernstein j (λ i. bernstein k (λ l. f (i + l)) right scale) left scale

-- The control value k of the part of depth e and index m, times 2^(7 e): 7 - k arguments are the part's beginning
-- m / 2^e, and k arguments its end (m + 1) / 2^e.
abbrev pub part_value : ℕ → ℕ → (ℕ → ℤ) → ℕ → ℤ
part_value e m f k = polar (7 - k) k f (pos m) (pos (m + 1)) (pos (2 ^ e))

-- Halving along the path to the part of depth e and index m: the part of half the index is halved, and the left half is
-- taken where m is even.
abbrev pub halved_along : ℕ → ℕ → (ℕ → ℤ) → ℕ → ℤ
halved_along zero m f k = f k
halved_along (suc e) m f k = part_value 1 (m % 2) (halved_along e (m / 2) f) k
