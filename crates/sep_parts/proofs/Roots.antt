-- The least number whose square is above another.
use Rattle.sep_parts.proofs.Prelude.{common_steps, ◌≡◌, ℕ, zero, suc, ◌+◌, ◌*◌, ◌≤◌, ◌<◌, ℤ, pos, negsuc, ◌+ℤ◌, ◌-ℤ◌, ◌*ℤ◌, ◌≤ℤ◌, ◌<ℤ◌, Bool, true, false, cond, int_lt, unsigned_abs, arith, refl, sym, ap, ◌∙◌, List, ints, by_lt, at, zero_mul_ℤ, Clearance, IsLeastReaching, IsLeastRoot, IsStill, ThresholdLaw, for_ellipsoids, length_squared, limit_along, root_from, root_above, root_reaching, stray_limit, threshold, weights}
use Rattle.sep_parts.proofs.Limits.{root_above-least}

square_from : (m : ℕ) → m ≤ m * m
square_from zero = omega arith
square_from (suc m) = omega arith

square_of : (m : ℕ) → pos (m * m) ≡ pos m *ℤ pos m
square_of m = refl

-- from k on, within n numbers, the search finds the least one
root_from-is : (v : ℤ) (n k m : ℕ) → k ≤ m → m ≤ k + n → v <ℤ pos (m * m) → ((s : ℕ) → v <ℤ pos (s * s) → m ≤ s) → root_from v n k ≡ m
root_from-is v zero k m low high above least = omega arith
root_from-is v (suc n) k m low high above least =
    go (int_lt v (pos (k * k))) refl (λ later. root_from-is v n (suc k) m (omega arith) (omega arith) above least)
  where
    go : (b : Bool) → int_lt v (pos (k * k)) ≡ b → (k < m → root_from v n (suc k) ≡ m) → cond b k (root_from v n (suc k)) ≡ m
    go true e rest = let here : m ≤ k = least k (omega (arith, ints, e)) in omega arith
    go false e rest =
        by_lt k m rest
        (λ same. let k_is : k ≡ m = omega arith in absurd (omega (arith, ints, e, above, ap (λ (n : ℕ). n * n) k_is)))

pub root_above-is : (v t : ℤ) → pos 0 ≤ℤ t → v <ℤ (t *ℤ t) → ((s : ℤ) → pos 0 ≤ℤ s → v <ℤ (s *ℤ s) → t ≤ℤ s) → t ≡ pos (root_above v)
unfolding root_above
root_above-is v (negsuc m) positive above least = absurd (omega (arith, ints, positive))
root_above-is v (pos m) positive above least =
    ap pos (sym (root_from-is v (suc (unsigned_abs v)) 0 m (omega arith) (bound v m least) above (λ s more. omega (arith, ints, least (pos s) (omega (arith, ints)) more))))
  where
    bound : (v : ℤ) (m : ℕ) → ((s : ℤ) → pos 0 ≤ℤ s → v <ℤ (s *ℤ s) → pos m ≤ℤ s) → m ≤ 0 + suc (unsigned_abs v)
    bound (pos x) m least = omega (arith, ints, least (pos (suc x)) (omega (arith, ints)) (omega (arith, ints, square_from x)))
    bound (negsuc x) m least = omega (arith, ints, least (pos 0) (omega (arith, ints)) (omega (arith, ints)))

-- the square of the number that the search finds is above
root_from-above : (v : ℤ) (n k : ℕ) → v <ℤ pos ((k + n) * (k + n)) → v <ℤ pos (root_from v n k * root_from v n k)
root_from-above v zero k above = let e : k + 0 ≡ k = omega arith in rw e at above
root_from-above v (suc n) k above =
    go (int_lt v (pos (k * k))) refl (root_from-above v n (suc k) (let same : k + suc n ≡ suc k + n = omega arith in rw same at above))
  where
    go : (b : Bool) → int_lt v (pos (k * k)) ≡ b → v <ℤ pos (root_from v n (suc k) * root_from v n (suc k)) → v <ℤ pos (cond b k (root_from v n (suc k)) * cond b k (root_from v n (suc k)))
    go true e rest = omega (arith, ints, e)
    go false e rest = rest

pub root_above-above : (v : ℤ) → v <ℤ (pos (root_above v) *ℤ pos (root_above v))
unfolding root_above
root_above-above v = grind (arith, common_steps, ints, root_from-above, unsigned_abs, pos, square_from, negsuc)

-- the same for a number that is told otherwise
pub root_of : (v w t : ℤ) → v ≡ w → pos 0 ≤ℤ t → v <ℤ (t *ℤ t) → ((s : ℤ) → pos 0 ≤ℤ s → v <ℤ (s *ℤ s) → t ≤ℤ s) → t ≡ pos (root_above w)
root_of v w t e positive above least = root_above-is v t positive above least ∙ ap (λ (z : ℤ). pos (root_above z)) e

-- the number that the search finds is the least root
pub root_is_least : (v : ℤ) → IsLeastRoot v (pos (root_above v))
root_is_least v = grind (arith, common_steps, ints, root_above-above, pos, root_above-least, negsuc)

-- the least number whose square is at least v is the least one whose square is above v - 1
pub root_is_reaching : (v : ℤ) → IsLeastReaching v (pos (root_reaching v))
root_is_reaching v =
    let root : IsLeastRoot (v -ℤ pos 1) (pos (root_reaching v)) = root_is_least (v -ℤ pos 1) in
    record {
      not_negative = root.not_negative;
      reaches = up v (pos (root_reaching v) *ℤ pos (root_reaching v)) root.above;
      least = λ s positive more. root.least s positive (down v (s *ℤ s) more);
    }
  where
    up : (x y : ℤ) → (x -ℤ pos 1) <ℤ y → x ≤ℤ y
    up x y less = omega (arith, ints)

    down : (x y : ℤ) → x ≤ℤ y → (x -ℤ pos 1) <ℤ y
    down x y low = omega (arith, ints)

-- where there is nothing to reach it is 0
pub reaching_none : root_reaching (pos 0) ≡ 0
unfolding root_above
reaching_none = refl

still : (c : Clearance) (n : List ℤ) → IsStill c → threshold c n ≡ for_ellipsoids c n
still c n is =
    let none : stray_limit c n ≡ pos 0 = rw is.stray (zero_mul_ℤ (length_squared (weights n c.r c.h))) in
    let strays : root_reaching (stray_limit c n) ≡ 0 = ap (λ (v : ℤ). root_reaching v) none ∙ reaching_none in
    rw (strays, is.reach 0, is.reach 1, is.reach 2)
    (alone (root_above (limit_along c.r c.h n)) (unsigned_abs (at n 0 *ℤ pos c.h)) (unsigned_abs (at n 1 *ℤ pos c.h)) (unsigned_abs (at n 2 *ℤ pos c.r)))
  where
    alone : (t a b d : ℕ) → pos t +ℤ pos 0 +ℤ pos (a * 0 + b * 0 + d * 0) ≡ pos t
    alone t a b d = omega (arith, ints)

pub laws : ThresholdLaw
laws = record {
  ellipsoids = λ c n. root_is_least (limit_along c.r c.h n);
  strays = λ c n. root_is_reaching (stray_limit c n);
  still = still;
}
