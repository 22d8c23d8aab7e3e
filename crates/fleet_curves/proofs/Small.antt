-- Small numbers, and what holds of three of anything.
use Rattle.fleet_curves.proofs.Prelude.{◌≡◌, ℕ, zero, suc, ℤ, ◌-ℤ◌, ◌^◌, List, arith, ◌∙◌, [], ◌∷◌, All, FitsSigned, to_z, of_z, ints, to_z-of_z, w16, w32, w128, IsBelow}

-- what holds of three values
pub three : {X : Type 0} (P : X → Type 0) (x y z : X) → P x → P y → P z → All P (x ∷ y ∷ z ∷ [])
three P x y z px py pz zero d inside = px
three P x y z px py pz (suc zero) d inside = py
three P x y z px py pz (suc (suc zero)) d inside = pz
three P x y z px py pz (suc (suc (suc k))) d inside = absurd (omega arith)

pub kept : (n : ℕ) (x : ℤ) → FitsSigned w128 x → IsBelow n x → IsBelow n (to_z w128 (of_z w128 x))
kept n x fits small = rw (to_z-of_z w128 x fits) small

-- a small number is itself in the program
pub told : (x y : ℤ) → IsBelow 32769 x → x ≡ y → to_z w128 (of_z w128 x) ≡ y
told x y small is = let fits : FitsSigned w128 x = omega (arith, ints) in to_z-of_z w128 x fits ∙ is

pub told_short : (x y : ℤ) → IsBelow 32769 x → FitsSigned w16 y → x ≡ to_z w16 (of_z w16 y) → to_z w128 (of_z w128 x) ≡ y
told_short x y small fits is = told x (to_z w16 (of_z w16 y)) small is ∙ to_z-of_z w16 y fits

-- the difference of two numbers below 2^28
pub told_less : (g x y : ℤ) → IsBelow (2 ^ 28) x → IsBelow (2 ^ 28) y → g ≡ to_z w32 (of_z w32 x) -ℤ to_z w32 (of_z w32 y) → to_z w32 (of_z w32 g) ≡ x -ℤ y
told_less g x y upper lower is =
    let x_fits : FitsSigned w32 x = omega (arith, ints, upper.0, upper.1) in
    let y_fits : FitsSigned w32 y = omega (arith, ints, lower.0, lower.1) in
    let fits : FitsSigned w32 (x -ℤ y) = omega (arith, ints, upper.0, upper.1, lower.0, lower.1) in
    rw (is, to_z-of_z w32 x x_fits, to_z-of_z w32 y y_fits) (to_z-of_z w32 (x -ℤ y) fits)

-- numbers below 2^28 are below 2^30
pub wider : (xs : List ℤ) → All (IsBelow (2 ^ 28)) xs → All (IsBelow (2 ^ 30)) xs
wider xs small k d inside = let here = small k d inside in (omega (arith, ints, here.0), omega (arith, ints, here.1))

-- a number below 2^30 fits 32 bits
pub narrow_fits : (x : ℤ) → IsBelow (2 ^ 30) x → FitsSigned w32 x
narrow_fits x below = omega (arith, ints)
