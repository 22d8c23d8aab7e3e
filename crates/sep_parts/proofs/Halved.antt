-- Rows of control values: their weighted sums, and their halves.
use Rattle.sep_parts.proofs.Prelude.{common_steps, IsTrue, nat_lt, nat_tests, ◌≡◌, ℕ, zero, suc, ◌<◌, Bool, true, false, length-map, ◌*◌, ◌^◌, ◌≤◌, ℤ, pos, ◌+ℤ◌, ◌*ℤ◌, arith, refl, sym, ◌∙◌, ap, subst, List, [], ◌∷◌, length, get_or, All, lit<, ints, All-from_get_or, All-get_or, at, Bez, IsBelow, along_value, controls, curves_of, below_at, eight, at-eight, part_value, part-within}
use Rattle.bezier_core.specs.Steps.{IsWithin}
use Rattle.std.specs.Prelude.{set}
use Rattle.sep_parts.specs.Kept.{kept_curves}
use Rattle.fleet_curves.proofs.Rows.{controls_row}

below_half : (p : ℕ) (x : ℤ) → p ≤ 2 ^ 7 → IsWithin (pos p *ℤ pos (2 ^ 54)) x → IsBelow (2 ^ 62) x
below_half p x few within = (omega (arith, ints), omega (arith, ints))

within_of : (x : ℤ) → IsBelow (2 ^ 54) x → IsWithin (pos (2 ^ 54)) x
within_of x below = (omega (arith, ints), omega (arith, ints))

-- the control values of half a curve are small where those of the curve are
pub half_small : (r : ℕ) (b : List ℤ) → r ≤ 1 → All (IsBelow (2 ^ 54)) b → All (IsBelow (2 ^ 62)) (eight (part_value 1 r (at b)))
half_small r b small all =
    All-from_get_or (IsBelow (2 ^ 62)) (eight (part_value 1 r (at b))) (pos 0)
    (λ k low. rw (at-eight (part_value 1 r (at b)) k (omega (arith, low))) (one k (omega (arith, low))))
  where
    one : (k : ℕ) → k ≤ 7 → IsBelow (2 ^ 62) (part_value 1 r (at b) k)
    one k few =
        below_half (2 ^ (7 * 1)) (part_value 1 r (at b) k) (omega arith)
        (part-within 1 r k (at b) (pos (2 ^ 54)) (omega arith) few (λ i near. within_of (at b i) (below_at (2 ^ 54) b i (lit< tt) all)))

-- the control values of a row of some that are small
pub row_small : (rows : List (List ℤ)) (axis : ℕ) → axis < length rows → All (λ (curve : Bez 8). All (IsBelow (2 ^ 54)) curve.b) (curves_of rows) → All (IsBelow (2 ^ 54)) (get_or rows axis [])
row_small rows axis inside small =
    let counted : length (curves_of rows) ≡ length rows = length-map rows (λ row. record { b = row }) in
    subst (All (IsBelow (2 ^ 54))) (controls_row rows axis) (All-get_or (λ (curve : Bez 8). All (IsBelow (2 ^ 54)) curve.b) (curves_of rows) axis (record { b = [] }) (omega (arith, counted)) small)

-- three entries that are all set
set_three : (xs : List (List ℤ)) (a b c : List ℤ) → length xs ≡ 3 → set (set (set xs 0 a) 1 b) 2 c ≡ a ∷ b ∷ c ∷ []
set_three (x ∷ y ∷ z ∷ []) a b c e = refl
set_three xs a b c e = absurd (omega arith)

-- the halves of three rows, one set after another
pub halves_set : (r : ℕ) (rows old : List (List ℤ)) (a b c : List ℤ) → length old ≡ 3
    → a ≡ eight (part_value 1 r (at (get_or rows 0 []))) → b ≡ eight (part_value 1 r (at (get_or rows 1 []))) → c ≡ eight (part_value 1 r (at (get_or rows 2 [])))
    → (axis : ℕ) → axis ≤ 2 → controls (curves_of (set (set (set old 0 a) 1 b) 2 c)) axis ≡ eight (part_value 1 r (at (controls (curves_of rows) axis)))
halves_set r rows old a b c three a_is b_is c_is axis low =
    ap (λ (xs : List (List ℤ)). controls (curves_of xs) axis) (set_three old a b c three) ∙ one axis low ∙ ap (λ (row : List ℤ). eight (part_value 1 r (at row))) (sym (controls_row rows axis))
  where
    one : (axis : ℕ) → axis ≤ 2 → controls (curves_of (a ∷ b ∷ c ∷ [])) axis ≡ eight (part_value 1 r (at (get_or rows axis [])))
    one zero low = a_is
    one (suc zero) low = b_is
    one (suc (suc zero)) low = c_is
    one (suc (suc (suc axis))) low = absurd (omega (arith, low))

-- a row that is read after those before it were set
pub second_row : (rows : List (List ℤ)) (a : List ℤ) → length rows ≡ 3 → get_or (set rows 0 a) 1 [] ≡ get_or rows 1 []
second_row (x ∷ y ∷ z ∷ []) a e = refl
second_row rows a e = absurd (omega arith)

pub third_row : (rows : List (List ℤ)) (a b : List ℤ) → length rows ≡ 3 → get_or (set (set rows 0 a) 1 b) 2 [] ≡ get_or rows 2 []
third_row (x ∷ y ∷ z ∷ []) a b e = refl
third_row rows a b e = absurd (omega arith)

-- ---- curves that are kept in one of two ways
pub kept_long : (is_long : Bool) (rows : List (List ℤ)) (curves now : List (Bez 8)) → kept_curves is_long rows curves ≡ now → is_long ≡ true → curves ≡ now
kept_long true rows curves now is long = is
kept_long false rows curves now is long = absurd (cc long)

pub kept_short : (is_long : Bool) (rows : List (List ℤ)) (curves now : List (Bez 8)) → kept_curves is_long rows curves ≡ now → is_long ≡ false → curves_of rows ≡ now
kept_short false rows curves now is short = is
kept_short true rows curves now is short = absurd (cc short)

-- a number that a test found to be less
pub less_told : (a b : ℕ) → IsTrue (nat_lt a b) → a < b
less_told a b tested = grind (arith, common_steps, nat_tests)

-- ---- weighted sums
sums : {x y z u v w : ℤ} → x ≡ u → y ≡ v → z ≡ w → x +ℤ y +ℤ z ≡ u +ℤ v +ℤ w
sums {x} {y} {z} {u} {v} {w} p q r = cc

-- numbers that are those of rows have the weighted sum of the rows' curves
pub rows_along : (rows : List (List ℤ)) (w : List ℤ) (k : ℕ) (x y z : ℤ)
    → x ≡ at (get_or rows 0 []) k → y ≡ at (get_or rows 1 []) k → z ≡ at (get_or rows 2 []) k
    → at w 0 *ℤ x +ℤ at w 1 *ℤ y +ℤ at w 2 *ℤ z ≡ along_value (curves_of rows) w k
rows_along rows w k x y z x_is y_is z_is = sums (one 0 x x_is) (one 1 y y_is) (one 2 z z_is)
  where
    one : (axis : ℕ) (v : ℤ) → v ≡ at (get_or rows axis []) k → at w axis *ℤ v ≡ at w axis *ℤ at (controls (curves_of rows) axis) k
    one axis v is = ap (λ (u : ℤ). at w axis *ℤ u) (is ∙ ap (λ (row : List ℤ). at row k) (sym (controls_row rows axis)))
