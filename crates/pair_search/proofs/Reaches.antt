-- The extents of curves.
use Rattle.pair_search.proofs.Prelude.{◌≡◌, ◌⊎◌, inl, inr, ℕ, ◌^◌, ◌≤◌, ℤ, ◌≤ℤ◌, arith, sym, subst, List, [], ◌∷◌, get_or, FitsSigned, to_z, of_z, ints, to_z-of_z, w32, at, IsBelow, Bez, controls, curves_of, controls_row, Extent, IsExtent}
use Rattle.fleet_curves.proofs.Differences.{three_axes}

pub told : (x : ℤ) → IsBelow (2 ^ 28) x → to_z w32 (of_z w32 x) ≡ x
told x small = let fits : FitsSigned w32 x = omega (arith, ints) in to_z-of_z w32 x fits

-- six numbers that are small, as the program has them
module _ (a b c d e f : ℤ) (small_a : IsBelow (2 ^ 28) a) (small_b : IsBelow (2 ^ 28) b) (small_c : IsBelow (2 ^ 28) c) (small_d : IsBelow (2 ^ 28) d) (small_e : IsBelow (2 ^ 28) e) (small_f : IsBelow (2 ^ 28) f) where
  -- curves whose control values lie between them
  made : (curves : List (Bez 8)) →
      ((k : ℕ) → k ≤ 7 → a ≤ℤ at (controls curves 0) k) → ((k : ℕ) → k ≤ 7 → b ≤ℤ at (controls curves 1) k) → ((k : ℕ) → k ≤ 7 → c ≤ℤ at (controls curves 2) k) →
      ((k : ℕ) → k ≤ 7 → at (controls curves 0) k ≤ℤ d) → ((k : ℕ) → k ≤ 7 → at (controls curves 1) k ≤ℤ e) → ((k : ℕ) → k ≤ 7 → at (controls curves 2) k ≤ℤ f) →
      IsExtent curves (record { low = a ∷ b ∷ c ∷ []; high = d ∷ e ∷ f ∷ [] })
  made curves on_a on_b on_c on_d on_e on_f = record {
    low = λ axis k few near. three_axes (λ i. at (a ∷ b ∷ c ∷ []) i ≤ℤ at (controls curves i) k) (on_a k near) (on_b k near) (on_c k near) axis few;
    high = λ axis k few near. three_axes (λ i. at (controls curves i) k ≤ℤ at (d ∷ e ∷ f ∷ []) i) (on_d k near) (on_e k near) (on_f k near) axis few;
    small = λ axis few. three_axes (λ i. IsBelow (2 ^ 28) (at (a ∷ b ∷ c ∷ []) i) × IsBelow (2 ^ 28) (at (d ∷ e ∷ f ∷ []) i)) (small_a, small_d) (small_b, small_e) (small_c, small_f) axis few;
  }

  abbrev kept : Extent
  kept = record {
    low = to_z w32 (of_z w32 a) ∷ to_z w32 (of_z w32 b) ∷ to_z w32 (of_z w32 c) ∷ [];
    high = to_z w32 (of_z w32 d) ∷ to_z w32 (of_z w32 e) ∷ to_z w32 (of_z w32 f) ∷ [];
  }

  -- an extent of three least and three greatest values
  pub extent_made : (rows : List (List ℤ)) →
      ((k : ℕ) → k ≤ 7 → a ≤ℤ at (get_or rows 0 []) k) → ((k : ℕ) → k ≤ 7 → b ≤ℤ at (get_or rows 1 []) k) → ((k : ℕ) → k ≤ 7 → c ≤ℤ at (get_or rows 2 []) k) →
      ((k : ℕ) → k ≤ 7 → at (get_or rows 0 []) k ≤ℤ d) → ((k : ℕ) → k ≤ 7 → at (get_or rows 1 []) k ≤ℤ e) → ((k : ℕ) → k ≤ 7 → at (get_or rows 2 []) k ≤ℤ f) →
      IsExtent (curves_of rows) kept
  extent_made rows on_a on_b on_c on_d on_e on_f =
      rw (told a small_a, told b small_b, told c small_c, told d small_d, told e small_e, told f small_f)
      (made (curves_of rows) (below 0 a on_a) (below 1 b on_b) (below 2 c on_c) (above 0 d on_d) (above 1 e on_e) (above 2 f on_f))
    where
      below : (axis : ℕ) (x : ℤ) → ((k : ℕ) → k ≤ 7 → x ≤ℤ at (get_or rows axis []) k) → (k : ℕ) → k ≤ 7 → x ≤ℤ at (controls (curves_of rows) axis) k
      below axis x on k near = subst (λ (row : List ℤ). x ≤ℤ at row k) (sym (controls_row rows axis)) (on k near)

      above : (axis : ℕ) (x : ℤ) → ((k : ℕ) → k ≤ 7 → at (get_or rows axis []) k ≤ℤ x) → (k : ℕ) → k ≤ 7 → at (controls (curves_of rows) axis) k ≤ℤ x
      above axis x on k near = subst (λ (row : List ℤ). at row k ≤ℤ x) (sym (controls_row rows axis)) (on k near)

  -- an extent in which another one lies
  pub extent_wider : (curves : List (Bez 8)) (within : Extent) → IsExtent curves within → a ≤ℤ at within.low 0 → b ≤ℤ at within.low 1 → c ≤ℤ at within.low 2 →
      at within.high 0 ≤ℤ d → at within.high 1 ≤ℤ e → at within.high 2 ≤ℤ f → IsExtent curves kept
  extent_wider curves within is on_a on_b on_c on_d on_e on_f =
      rw (told a small_a, told b small_b, told c small_c, told d small_d, told e small_e, told f small_f)
      (made curves (λ k near. le_le _ _ _ on_a (is.low 0 k (omega arith) near)) (λ k near. le_le _ _ _ on_b (is.low 1 k (omega arith) near)) (λ k near. le_le _ _ _ on_c (is.low 2 k (omega arith) near))
      (λ k near. le_le _ _ _ (is.high 0 k (omega arith) near) on_d) (λ k near. le_le _ _ _ (is.high 1 k (omega arith) near) on_e) (λ k near. le_le _ _ _ (is.high 2 k (omega arith) near) on_f))
    where
      le_le : (x y z : ℤ) → x ≤ℤ y → y ≤ℤ z → x ≤ℤ z
      le_le x y z p q = omega (arith, ints, p, q)

-- one of two small numbers, as the program has them
pub among : (a b r : ℤ) → IsBelow (2 ^ 28) a → IsBelow (2 ^ 28) b → (r ≡ to_z w32 (of_z w32 a)) ⊎ (r ≡ to_z w32 (of_z w32 b)) → IsBelow (2 ^ 28) r
among a b r small_a small_b (inl is) = rw (is, told a small_a) small_a
among a b r small_a small_b (inr is) = rw (is, told b small_b) small_b
