-- How a bound on control values grows.
use Rattle.bezier_core.proofs.Prelude.{common_steps, ◌≡◌, ℕ, ◌*◌, ◌-◌, ◌≤◌, ℤ, pos, ◌+ℤ◌, ◌-ℤ◌, ◌*ℤ◌, unsigned_abs, ◌+◌, arith, refl, sym, subst, ◌∙◌, ap, List, All, length, lit<, ints, unsigned_abs-mul, mul-le, All-from_get_or, at, IsBelow, linear, mul_assoc_ℤ, Bez, along_value, controls, eight, fact, raised, raised_value, IsWithin}
use Rattle.bezier_core.proofs.BlendLemmas.{within_mul}
use Rattle.bezier_core.proofs.CurveLemmas.{at-eight}
use Rattle.bezier_core.proofs.EightLemmas.{below_at, controls_below}
use Rattle.bezier_core.proofs.RaisedLemmas.{raised_by, raised_by-seven, raised_by-within, rising, rising-fact}

-- what holds of each of eight values
pub eight_below : (n : ℕ) (f : ℕ → ℤ) → ((k : ℕ) → k ≤ 7 → IsBelow n (f k)) → All (IsBelow n) (eight f)
eight_below n f below =
    All-from_get_or (IsBelow n) (eight f) (pos 0) (λ k inside. let few : k ≤ 7 = omega arith in rw (at-eight f k few) (below k few))

-- differences
pub difference_below : (n k : ℕ) (xs ys : List ℤ) → 1 ≤ n → All (IsBelow n) xs → All (IsBelow n) ys → IsBelow (2 * n) (at xs k -ℤ at ys k)
difference_below n k xs ys some first second = grind (arith, common_steps, ints, below_at)

-- weighted sums of three
product_below : (n : ℕ) (w x : ℤ) → 1 ≤ n → IsBelow 4001 w → IsBelow n x → IsBelow (4000 * n) (w *ℤ x)
product_below n w x some small below =
    let m : unsigned_abs (w *ℤ x) ≤ 4000 * (n - 1) = rw (unsigned_abs-mul w x) (mul-le (unsigned_abs w) (unsigned_abs x) 4000 (n - 1) (omega (arith, ints)) (omega (arith, ints))) in
    (omega (arith, ints), omega (arith, ints))

pub along_below : (n k : ℕ) (xyz : List (Bez 8)) (w : List ℤ) → 1 ≤ n → All (IsBelow 4001) w → All (λ (curve : Bez 8). All (IsBelow n) curve.b) xyz →
    IsBelow (12000 * n) (along_value xyz w k)
along_below n k xyz w some weights values = close _ _ _ (term 0) (term 1) (term 2)
  where
    term : (axis : ℕ) → IsBelow (4000 * n) (at w axis *ℤ at (controls xyz axis) k)
    term axis = product_below n (at w axis) (at (controls xyz axis) k) some (below_at 4001 w axis (lit< tt) weights) (controls_below n xyz axis k some values)

    close : (x y z : ℤ) → IsBelow (4000 * n) x → IsBelow (4000 * n) y → IsBelow (4000 * n) z → IsBelow (12000 * n) (x +ℤ y +ℤ z)
    close x y z p q r = (omega (arith, ints), omega (arith, ints))

-- raised control values
raised_below : (n m k : ℕ) (f : ℕ → ℤ) → n ≤ 7 → 1 ≤ m → k ≤ 7 → ((i : ℕ) → i ≤ n → IsBelow m (f i)) → IsBelow (5040 * m) (raised_value n f k)
raised_below n m k f low some small below =
    let e : n + (7 - n) ≡ 7 = omega arith in
    let whole : rising n (7 - n) * fact n ≡ 5040 = rising-fact n (7 - n) ∙ ap fact e in
    let b : IsWithin (pos (rising n (7 - n)) *ℤ (pos (fact n) *ℤ pos (m - 1))) (raised_by (7 - n) n (λ i. pos (fact n) *ℤ f i) k) =
    raised_by-within (7 - n) n k (λ i. pos (fact n) *ℤ f i) (pos (fact n) *ℤ pos (m - 1))
    (λ i near. within_mul (pos (fact n)) (pos (m - 1)) (f i) (omega (arith, linear)) (loose (f i) (below i near))) (omega arith) in
    close (rising n (7 - n)) (fact n) (raised_value n f k) whole (rw (raised_by-seven n k f low small) at b)
  where
    loose : (x : ℤ) → IsBelow m x → IsWithin (pos (m - 1)) x
    loose x near = (omega (arith, ints), omega (arith, ints))

    close : (g h : ℕ) (x : ℤ) → g * h ≡ 5040 → IsWithin (pos g *ℤ (pos h *ℤ pos (m - 1))) x → IsBelow (5040 * m) x
    close g h x whole within =
        let product : pos g *ℤ pos h ≡ pos (g * h) = refl in
        let e : pos g *ℤ (pos h *ℤ pos (m - 1)) ≡ pos 5040 *ℤ pos (m - 1) =
        sym (mul_assoc_ℤ (pos g) (pos h) (pos (m - 1))) ∙ ap (λ (z : ℤ). z *ℤ pos (m - 1)) (product ∙ ap pos whole) in
        let bound : IsWithin (pos 5040 *ℤ pos (m - 1)) x = subst (λ (z : ℤ). IsWithin z x) e within in
        (omega (arith, ints), omega (arith, ints))

pub raised_small : (n : ℕ) (b : List ℤ) → length b ≤ 8 → 1 ≤ n → All (IsBelow n) b → All (IsBelow (5040 * n)) (raised b)
raised_small n b few some below =
    eight_below (5040 * n) (raised_value (length b - 1) (at b))
    (λ k small. raised_below (length b - 1) n k (at b) (omega arith) some small (λ i near. below_at n b i some below))
