-- Lists of eight control values, entry by entry.
use Rattle.bezier_core.proofs.Prelude.{common_steps, ◌≡◌, ℕ, ◌<◌, ◌≤◌, ◌^◌, ℤ, pos, ◌+ℤ◌, ◌-ℤ◌, ◌*ℤ◌, FitsSigned, to_z, of_z, arith, refl, ◌∙◌, List, [], ◌∷◌, length, All, ints, ◌*◌, unsigned_abs, lit<, unsigned_abs-mul, mul-le, All-get_or, Bez, controls, by_lt, w128, at, IsBelow, eight}
use Rattle.std.proofs.lemmas.List.{get_or_past}

pub same_eight : (f g : ℕ → ℤ) → ((k : ℕ) → k < 8 → f k ≡ g k) → eight f ≡ eight g
same_eight f g same = grind (arith, common_steps)

-- a list of eight is made of its entries
pub list_of_eight : (xs : List ℤ) → length xs ≡ 8 → xs ≡ eight (at xs)
list_of_eight (a ∷ b ∷ c ∷ d ∷ i ∷ j ∷ k ∷ l ∷ []) e = refl
list_of_eight xs e = absurd (omega arith)

-- what the entries are settles the list
pub eight_from_entries : (xs : List ℤ) (f : ℕ → ℤ) → length xs ≡ 8 → ((k : ℕ) → k < 8 → at xs k ≡ f k) → xs ≡ eight f
eight_from_entries xs f len same = list_of_eight xs len ∙ same_eight (at xs) f same

pub below_at : (n : ℕ) (xs : List ℤ) (k : ℕ) → 0 < n → All (IsBelow n) xs → IsBelow n (at xs k)
below_at n xs k some all = grind (arith, common_steps, by_lt, All-get_or, pos, get_or_past)

-- the product of a weight and a value
pub weighted_below : (w x : ℤ) → IsBelow 4001 w → IsBelow (2 ^ 100) x → IsBelow (2 ^ 112) (w *ℤ x)
weighted_below w x small below =
    let m : unsigned_abs (w *ℤ x) ≤ 4000 * (2 ^ 100) = rw (unsigned_abs-mul w x) (mul-le (unsigned_abs w) (unsigned_abs x) 4000 (2 ^ 100) (omega (arith, ints)) (omega (arith, ints))) in
    (omega (arith, ints), omega (arith, ints))

pub weighted_fits : (w x : ℤ) → IsBelow 4001 w → IsBelow (2 ^ 100) x → FitsSigned w128 (w *ℤ x)
weighted_fits w x small below = let b : IsBelow (2 ^ 112) (w *ℤ x) = weighted_below w x small below in omega (arith, ints)

-- a difference of two entries, as the code makes it
pub difference : (xs ys : List ℤ) (k : ℕ) → All (IsBelow (2 ^ 125)) xs → All (IsBelow (2 ^ 125)) ys →
    to_z w128 (of_z w128 (to_z w128 (of_z w128 (at xs k)) -ℤ to_z w128 (of_z w128 (at ys k)))) ≡ at xs k -ℤ at ys k
difference xs ys k first second =
    let x : IsBelow (2 ^ 125) (at xs k) = below_at (2 ^ 125) xs k (lit< tt) first in
    let y : IsBelow (2 ^ 125) (at ys k) = below_at (2 ^ 125) ys k (lit< tt) second in
    omega (arith, ints)

-- what bounds the control values of each curve bounds those of one
pub controls_below : (n : ℕ) (curves : List (Bez 8)) (i k : ℕ) → 0 < n → All (λ curve. All (IsBelow n) curve.b) curves → IsBelow n (at (controls curves i) k)
controls_below n curves i k some all = grind (arith, common_steps, by_lt, below_at, All-get_or, get_or_past, pos)

-- three weighted values and their sum fit
pub sum_fits : (x y z : ℤ) → IsBelow (2 ^ 112) x → IsBelow (2 ^ 112) y → IsBelow (2 ^ 112) z → FitsSigned w128 (x +ℤ y) × FitsSigned w128 (x +ℤ y +ℤ z)
sum_fits x y z first second third = (omega (arith, ints), omega (arith, ints))

-- what fits is read back
pub weight_fits : (x : ℤ) → IsBelow 4001 x → FitsSigned w128 x
weight_fits x below = omega (arith, ints)

pub value_fits : (x : ℤ) → IsBelow (2 ^ 100) x → FitsSigned w128 x
value_fits x below = omega (arith, ints)

pub product_fits : (x : ℤ) → IsBelow (2 ^ 112) x → FitsSigned w128 x
product_fits x below = omega (arith, ints)
