-- What the program reads of a direction: each entry is itself, and is small.
use Rattle.sep_parts.proofs.Prelude.{common_steps, ◌≡◌, ℕ, ◌≤◌, ◌^◌, ℤ, ◌+ℤ◌, ◌*ℤ◌, ◌≤ℤ◌, pos, neg_ℤ, List, [], ◌∷◌, refl, get_or, arith, FitsSigned, to_z, of_z, ints, to_z-of_z, Width, w128, w8, at, IsBelow, IsSquare, AreSmall, length_squared}

pub entry_fits : (n : List ℤ) (k : ℕ) → AreSmall n → k ≤ 2 → FitsSigned w8 (get_or n k (pos 0))
entry_fits n k small within = grind (arith, common_steps, ints, pos, neg_ℤ)

pub entry_small : (n : List ℤ) (k : ℕ) → AreSmall n → k ≤ 2 → IsBelow 3 (to_z w8 (of_z w8 (get_or n k (pos 0))))
entry_small n k small within = grind (arith, common_steps, ints, to_z-of_z, pos, entry_fits, neg_ℤ)

-- three numbers that the program holds are the three that they stand for
pub told_three : (w : Width) (x y z a b d : ℤ) → FitsSigned w x → FitsSigned w y → FitsSigned w z → x ≡ a → y ≡ b → z ≡ d
    → (to_z w (of_z w x) ∷ to_z w (of_z w y) ∷ to_z w (of_z w z) ∷ []) ≡ (a ∷ b ∷ d ∷ [])
told_three w x y z a b d x_fits y_fits z_fits is_a is_b is_d =
    rw (to_z-of_z w x x_fits, to_z-of_z w y y_fits, to_z-of_z w z z_fits, is_a, is_b, is_d) refl

pub low_kept : (n : List ℤ) (k : ℕ) → AreSmall n → k ≤ 2 → neg_ℤ (pos 2) ≤ℤ to_z w8 (of_z w8 (get_or n k (pos 0)))
low_kept n k small within = rw (to_z-of_z w8 (get_or n k (pos 0)) (entry_fits n k small within)) (small.low k within)

pub high_kept : (n : List ℤ) (k : ℕ) → AreSmall n → k ≤ 2 → to_z w8 (of_z w8 (get_or n k (pos 0))) ≤ℤ pos 2
high_kept n k small within = rw (to_z-of_z w8 (get_or n k (pos 0)) (entry_fits n k small within)) (small.high k within)

pub square_fits : (z : ℤ) → IsSquare z → FitsSigned w128 z
square_fits z small = omega (arith, ints)

pub square_kept : (z : ℤ) → IsSquare z → IsSquare (to_z w128 (of_z w128 z))
square_kept z small = rw (to_z-of_z w128 z (square_fits z small)) small

-- three squares that the program adds, of numbers that are those of a list
pub squares_told : (n : List ℤ) (a b d x y z s : ℤ) → a ≡ at n 0 → b ≡ at n 1 → d ≡ at n 2 → IsSquare x → IsSquare y → IsSquare z
    → x ≡ a *ℤ a → y ≡ b *ℤ b → z ≡ d *ℤ d
    → s ≡ to_z w128 (of_z w128 x) +ℤ to_z w128 (of_z w128 y) +ℤ to_z w128 (of_z w128 z) → pos 0 ≤ℤ s → s ≤ℤ pos (2 ^ 26)
    → to_z w128 (of_z w128 s) ≡ length_squared n
squares_told n a b d x y z s a_is b_is d_is x_small y_small z_small x_is y_is z_is s_is positive small =
    let fits : FitsSigned w128 s = omega (arith, ints) in
    rw (to_z-of_z w128 s fits, s_is, to_z-of_z w128 x (square_fits x x_small), to_z-of_z w128 y (square_fits y y_small), to_z-of_z w128 z (square_fits z z_small), x_is, y_is, z_is, a_is, b_is, d_is) refl
