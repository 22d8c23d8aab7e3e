-- A polynomial in u and w that is not negative where neither of u and w is: all its coefficients are not negative,
-- or that holds
-- of both halves, u at most w and w at most u.
use Rattle.definition_tests.proofs.Prelude.{◌≡◌, ◌⊎◌, inl, inr, ℕ, zero, suc, ℤ, pos, negsuc, ◌+ℤ◌, ◌-ℤ◌, ◌*ℤ◌, ◌≤ℤ◌, ◌<ℤ◌, Bool, true, false, List, [], ◌∷◌, length, arith, refl, sym, ap, subst, ◌∙◌, ints, by_lt_z, power, linear, ring, mul_not_negative}
use Rattle.definition_tests.proofs.RadiusCoefficients.{value, plus, length-plus, value-plus, times, length-times, value-times, times_u, value-times_u, times_w, length-times_w, value-times_w, binomial, length-binomial, value-binomial}

-- ---- the half where u is at most w: w is u and a rest
abbrev pub first_half : List ℤ → List ℤ
first_half [] = []
first_half (x ∷ p) = plus (times x (binomial (length p))) (times_u (first_half p))

pub length-first_half : (p : List ℤ) → length (first_half p) ≡ length p
length-first_half [] = refl
length-first_half (x ∷ p) =
    let front : length (times x (binomial (length p))) ≡ suc (length p) = omega (arith, length-times x (binomial (length p)), length-binomial (length p)) in
    omega (arith, length-first_half p, length-plus (times x (binomial (length p))) (times_u (first_half p)) (omega (arith, front, length-first_half p)))

pub value-first_half : (p : List ℤ) (u w : ℤ) → value (first_half p) u w ≡ value p u (u +ℤ w)
value-first_half [] u w = refl
value-first_half (x ∷ p) u w =
    let front : length (times x (binomial (length p))) ≡ suc (length p) = omega (arith, length-times x (binomial (length p)), length-binomial (length p)) in
    value-plus (times x (binomial (length p))) (times_u (first_half p)) u w (omega (arith, front, length-first_half p))
    ∙ joined _ _ _ _ (value-times x (binomial (length p)) u w ∙ ap (λ (z : ℤ). x *ℤ z) (value-binomial (length p) u w))
    (value-times_u (first_half p) u w ∙ ap (λ (z : ℤ). u *ℤ z) (value-first_half p u w))
  where
    joined : (s t x y : ℤ) → s ≡ x → t ≡ y → s +ℤ t ≡ x +ℤ y
    joined s t x y first second = cc

-- ---- the half where w is at most u: u is w and a rest
abbrev pub second_half : List ℤ → List ℤ
second_half [] = []
second_half (x ∷ p) = plus (x ∷ second_half p) (times_w (second_half p))

pub length-second_half : (p : List ℤ) → length (second_half p) ≡ length p
length-second_half [] = refl
length-second_half (x ∷ p) =
    let same : length (times_w (second_half p)) ≡ suc (length (second_half p)) = length-times_w (second_half p) in
    omega (arith, same, length-second_half p, length-plus (x ∷ second_half p) (times_w (second_half p)) (omega (arith, same)))

pub value-second_half : (p : List ℤ) (u w : ℤ) → value (second_half p) u w ≡ value p (u +ℤ w) w
value-second_half [] u w = refl
value-second_half (x ∷ p) u w =
    value-plus (x ∷ second_half p) (times_w (second_half p)) u w (sym (length-times_w (second_half p)))
    ∙ rw (length-second_half p) (joined (x *ℤ power w (length p)) u w (value (second_half p) u w) (value p (u +ℤ w) w) (value (times_w (second_half p)) u w)
    (value-times_w (second_half p) u w) (value-second_half p u w))
  where
    joined : (x u w f g t : ℤ) → t ≡ w *ℤ f → f ≡ g → (x +ℤ u *ℤ f) +ℤ t ≡ x +ℤ (u +ℤ w) *ℤ g
    joined x u w f g t first second = rw (first, second) (simp ring (omega (arith, linear)))

-- ---- no negative coefficient
abbrev pub is_natural : ℤ → Bool
is_natural (pos n) = true
is_natural (negsuc n) = false

abbrev pub all_natural : List ℤ → Bool
all_natural [] = true
all_natural (x ∷ p) = elim (is_natural x) [ true ↦ all_natural p | false ↦ false ]

-- a power of a number that is not negative
power_not_negative : (w : ℤ) (n : ℕ) → pos 0 ≤ℤ w → pos 0 ≤ℤ power w n
power_not_negative w zero positive = omega (arith, linear)
power_not_negative w (suc n) positive = mul_not_negative w (power w n) positive (power_not_negative w n positive)

pub value-natural : (p : List ℤ) (u w : ℤ) → all_natural p ≡ true → pos 0 ≤ℤ u → pos 0 ≤ℤ w → pos 0 ≤ℤ value p u w
value-natural [] u w all first second = omega (arith, linear)
value-natural (pos n ∷ p) u w all first second =
    let front : pos 0 ≤ℤ (pos n *ℤ power w (length p)) = mul_not_negative (pos n) (power w (length p)) (omega (arith, ints)) (power_not_negative w (length p) second) in
    let rest : pos 0 ≤ℤ (u *ℤ value p u w) = mul_not_negative u (value p u w) first (value-natural p u w all first second) in
    omega (arith, linear, front, rest)
value-natural (negsuc n ∷ p) u w all first second = absurd cc

-- ---- halving as often as this at most finds no negative coefficient in the last parts
abbrev pub is_never_negative : ℕ → List ℤ → Bool
is_never_negative zero p = all_natural p
is_never_negative (suc n) p =
    elim (all_natural p) [ true ↦ true | false ↦ elim (is_never_negative n (first_half p)) [ true ↦ is_never_negative n (second_half p) | false ↦ false ] ]

-- one of two tests holds, or both do
either_holds : (b d : Bool) → elim b [ true ↦ true | false ↦ d ] ≡ true → (b ≡ true) ⊎ (d ≡ true)
either_holds true d holds = inl refl
either_holds false d holds = inr holds

both_hold : (b d : Bool) → elim b [ true ↦ d | false ↦ false ] ≡ true → (b ≡ true) × (d ≡ true)
both_hold true d holds = (refl, holds)
both_hold false d holds = absurd cc

pub value-never_negative : (n : ℕ) (p : List ℤ) (u w : ℤ) → is_never_negative n p ≡ true → pos 0 ≤ℤ u → pos 0 ≤ℤ w → pos 0 ≤ℤ value p u w
value-never_negative zero p u w holds first second = value-natural p u w holds first second
value-never_negative (suc n) p u w holds first second = elim (either_holds _ _ holds) [
  | inl all ↦ value-natural p u w all first second
  | inr halves ↦ let both = both_hold _ _ halves in
      by_lt_z w u
      (λ (less : w <ℤ u). let e : (u -ℤ w) +ℤ w ≡ u = omega (arith, linear) in
      subst (λ (z : ℤ). pos 0 ≤ℤ value p z w) e
      (subst (λ (z : ℤ). pos 0 ≤ℤ z) (value-second_half p (u -ℤ w) w)
      (value-never_negative n (second_half p) (u -ℤ w) w both.1 (omega (arith, linear, less)) second)))
      (λ (more : u ≤ℤ w). let e : u +ℤ (w -ℤ u) ≡ w = omega (arith, linear) in
      subst (λ (z : ℤ). pos 0 ≤ℤ value p u z) e
      (subst (λ (z : ℤ). pos 0 ≤ℤ z) (value-first_half p u (w -ℤ u))
      (value-never_negative n (first_half p) u (w -ℤ u) both.0 first (omega (arith, linear, more)))))
]
