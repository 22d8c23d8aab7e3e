-- The first of the greatest numbers.
use Rattle.dynamics_bound.proofs.Prelude.{common_steps, ◌≡◌, ℕ, zero, suc, ◌≤◌, ◌<◌, max, Bool, nat_lt, true, false, cond, pos, arith, refl, sym, ◌∙◌, ap, length, nat_tests, Traj, greatest_below, greatest-at, IsGreatestJump, first_greatest, greatest_jump, jump}

-- the first of the greatest is one of the numbers
first-inside : (n : ℕ) (f : ℕ → ℕ) → first_greatest (suc n) f ≤ n
first-inside zero f = grind (arith, common_steps, nat_lt, cond)
first-inside (suc n) f = go (nat_lt (greatest_below (suc n) f) (f (suc n))) (first-inside n f)
  where
    go : (s : Bool) → first_greatest (suc n) f ≤ n → cond s (suc n) (first_greatest (suc n) f) ≤ suc n
    go true before = omega arith
    go false before = omega (arith, before)

-- it is the greatest
first-is : (n : ℕ) (f : ℕ → ℕ) → f (first_greatest (suc n) f) ≡ greatest_below (suc n) f
first-is zero f = grind (arith, common_steps, nat_lt, cond, max)
first-is (suc n) f = go (nat_lt (greatest_below (suc n) f) (f (suc n))) refl (first-is n f)
  where
    go : (s : Bool) → nat_lt (greatest_below (suc n) f) (f (suc n)) ≡ s → f (first_greatest (suc n) f) ≡ greatest_below (suc n) f →
        f (cond s (suc n) (first_greatest (suc n) f)) ≡ max (greatest_below (suc n) f) (f (suc n))
    go true p before = let more : greatest_below (suc n) f < f (suc n) = grind (arith, nat_tests) in omega (arith, more)
    go false p before = let less : f (suc n) ≤ greatest_below (suc n) f = grind (arith, nat_tests) in before ∙ omega (arith, less)

-- each number before it is less
first-less : (n : ℕ) (f : ℕ → ℕ) (k : ℕ) → k < first_greatest (suc n) f → f k < greatest_below (suc n) f
first-less zero f k before = absurd (omega (arith, before, first-inside zero f))
first-less (suc n) f k before = go (nat_lt (greatest_below (suc n) f) (f (suc n))) refl before (λ less. first-less n f k less)
  where
    go : (s : Bool) → nat_lt (greatest_below (suc n) f) (f (suc n)) ≡ s → k < cond s (suc n) (first_greatest (suc n) f) →
        (k < first_greatest (suc n) f → f k < greatest_below (suc n) f) → f k < max (greatest_below (suc n) f) (f (suc n))
    go true p less rest =
        let more : greatest_below (suc n) f < f (suc n) = grind (arith, nat_tests) in
        omega (arith, more, greatest-at (suc n) f k less)
    go false p less rest = omega (arith, rest less)

-- The greatest jump is one that is greatest, and the first such.
pub is_greatest : (t : Traj) (axis : ℕ) → IsGreatestJump t axis (greatest_jump t axis)
is_greatest t axis = record {
  inside = first-inside (length t.segments) (jump t axis);
  here = ap (λ (n : ℕ). pos n) (sym (first-is (length t.segments) (jump t axis)));
  most = λ edge near. rw (first-is (length t.segments) (jump t axis)) (greatest-at (suc (length t.segments)) (jump t axis) edge (omega (arith, near)));
  first = λ edge before. rw (first-is (length t.segments) (jump t axis)) (first-less (length t.segments) (jump t axis) edge before);
}
