-- How large weighted sums are.
use Rattle.sep_parts.proofs.Prelude.{◌≡◌, ℕ, ◌*◌, ◌^◌, ◌≤◌, ℤ, ◌+ℤ◌, ◌*ℤ◌, unsigned_abs, arith, sym, subst, List, pos, All, lit<, ints, unsigned_abs-mul, mul-le, All-from_get_or, at, IsBelow, Bez, along_value, controls, eight, at-eight, below_at, controls_below}

-- a weight up to 4,000 times a value below 2^86 is below 2^100
pub product_small : (w x : ℤ) → IsBelow 4001 w → IsBelow (2 ^ 86) x → IsBelow (2 ^ 100) (w *ℤ x)
product_small w x small below =
    let m : unsigned_abs (w *ℤ x) ≤ 4000 * (2 ^ 86) = rw (unsigned_abs-mul w x) (mul-le (unsigned_abs w) (unsigned_abs x) 4000 (2 ^ 86) (omega (arith, ints)) (omega (arith, ints))) in
    (omega (arith, ints), omega (arith, ints))

pub sum_small : (x y z : ℤ) → IsBelow (2 ^ 100) x → IsBelow (2 ^ 100) y → IsBelow (2 ^ 100) z → IsBelow (2 ^ 104) (x +ℤ y +ℤ z)
sum_small x y z p q r = (omega (arith, ints), omega (arith, ints))

-- three parts below 2^86 have weighted sums below 2^104
pub along_small : (xyz : List (Bez 8)) (w : List ℤ) (weights : List ℤ) (b : List ℤ) → All (IsBelow 4001) w → w ≡ weights →
    All (λ (curve : Bez 8). All (IsBelow (2 ^ 86)) curve.b) xyz → b ≡ eight (along_value xyz w) → All (IsBelow (2 ^ 104)) b
along_small xyz w weights b small is values b_is =
    subst (λ (xs : List ℤ). All (IsBelow (2 ^ 104)) xs) (sym b_is)
    (All-from_get_or (IsBelow (2 ^ 104)) (eight (along_value xyz w)) (pos 0) (λ k inside. one k (omega arith)))
  where
    term : (axis k : ℕ) → IsBelow (2 ^ 100) (at w axis *ℤ at (controls xyz axis) k)
    term axis k = product_small (at w axis) (at (controls xyz axis) k) (below_at 4001 w axis (lit< tt) small) (controls_below (2 ^ 86) xyz axis k (lit< tt) values)

    one : (k : ℕ) → k ≤ 7 → IsBelow (2 ^ 104) (at (eight (along_value xyz w)) k)
    one k few = rw (at-eight (along_value xyz w) k few) (sum_small (at w 0 *ℤ at (controls xyz 0) k) (at w 1 *ℤ at (controls xyz 1) k) (at w 2 *ℤ at (controls xyz 2) k) (term 0 k) (term 1 k) (term 2 k))
