-- The entries of the tables are small.
use Rattle.sep_parts.proofs.Prelude.{common_steps, ◌≡◌, ℕ, zero, suc, ℤ, pos, negsuc, neg_ℤ, ◌≤ℤ◌, Bool, true, false, ◌&&◌, not, int_lt, cond, arith, refl, List, [], ◌∷◌, All, ints, All-cons, All-head, All-tail, at, AreSmall, direction_of}
use Rattle.sep_parts.specs.Versions.{table_of}

abbrev is_small : ℤ → Bool
is_small z = not (int_lt z (negsuc 1)) && not (int_lt (pos 2) z)

abbrev pub all_small : List (List ℤ) → Bool
all_small [] = true
all_small (n ∷ rest) = (is_small (at n 0) && is_small (at n 1) && is_small (at n 2)) && all_small rest

both : (a b : Bool) → (a && b) ≡ true → (a ≡ true) × (b ≡ true)
both true true e = (refl, refl)
both true false e = cc
both false b e = cc

small_low : (z : ℤ) → is_small z ≡ true → (neg_ℤ (pos 2) ≤ℤ z) × (z ≤ℤ pos 2)
small_low z e = grind (arith, common_steps, ints, int_lt, negsuc, pos, not, neg_ℤ)

small_row : (n : List ℤ) → (is_small (at n 0) && is_small (at n 1) && is_small (at n 2)) ≡ true → AreSmall n
small_row n e = grind (arith, common_steps, both, is_small, small_low, neg_ℤ, pos)

pub small_table : (ns : List (List ℤ)) → all_small ns ≡ true → All AreSmall ns
small_table [] e = λ k d inside. absurd (omega arith)
small_table (n ∷ rest) e =
    let parts = both (is_small (at n 0) && is_small (at n 1) && is_small (at n 2)) (all_small rest) e in
    All-cons AreSmall n rest (small_row n parts.0) (small_table rest parts.1)

-- the table that a certificate's version names
pub table_small : (version : ℕ) → All AreSmall (table_of version)
unfolding table_of
table_small version = grind (arith, common_steps, cond, small_table)

-- a direction that a number names; past the table it has no entries, which are read as 0
pub direction_small : (dirs : List (List ℤ)) (dir : ℕ) → All AreSmall dirs → AreSmall (direction_of dirs dir)
direction_small [] dir small = record { low = λ k near. omega (arith, ints); high = λ k near. omega (arith, ints) }
direction_small (n ∷ rest) zero small = All-head AreSmall n rest small
direction_small (n ∷ rest) (suc dir) small = direction_small rest dir (All-tail AreSmall n rest small)
