-- Raising the degree: the same curve, written with eight control values, times 5,040 so that they stay whole numbers.
use Rattle.std.specs.Prelude.{ℕ, zero, suc, ◌-◌, ◌*◌, ◌/◌, ℤ, pos, ◌*ℤ◌, List, [], ◌∷◌, length}
use Rattle.whole_numbers.specs.Sums.{sum_below}
use Rattle.whole_numbers.specs.Bernstein.{at, choose}

-- the product of 1 to n
abbrev pub fact : ℕ → ℕ
fact zero = 1
fact (suc n) = suc n * fact n

-- The control value k of degree seven of 5,040 times the curve of degree n with control values f 0 to f n, by the
-- textbook's rule: the sum over j of (5040 / C(7, k)) C(n, j) C(7 - n, k - j) f j. C(7, k) divides 5,040, which is 7!.
-- The sum may go to k, and not to n: past n, C(n, j) is 0, and past k the difference k - j would stop at 0, where
-- C(7 - n, 0) is 1 and no longer 0.
unfoldable pub raised_value : ℕ → (ℕ → ℤ) → ℕ → ℤ
raised_value n f k = sum_below (suc k) (λ j. pos (5040 / choose 7 k * choose n j * choose (7 - n) (k - j)) *ℤ f j)

-- the values of f at 0 to 7
abbrev pub eight : (ℕ → ℤ) → List ℤ
eight f = f 0 ∷ f 1 ∷ f 2 ∷ f 3 ∷ f 4 ∷ f 5 ∷ f 6 ∷ f 7 ∷ []

-- the control values of degree seven of 5,040 times the curve
abbrev pub raised : List ℤ → List ℤ
raised b = eight (raised_value (length b - 1) (at b))
