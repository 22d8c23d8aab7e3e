-- Nearness by another cutting into segments.
use Rattle.whole_numbers.proofs.Prelude.{◌≡◌, ℤ, pos, ◌+ℤ◌, ◌-ℤ◌, ◌*ℤ◌, ◌≤ℤ◌, arith, refl, sym, ap, ◌∙◌, power}
use Rattle.whole_numbers.specs.Near.{NearLaw}
use Rattle.whole_numbers.proofs.RingLemmas.{ring, linear, le_mul_ℤ}
use Rattle.whole_numbers.proofs.SumLemmas.{power-mul, power_natural}

-- both sides of the nearness are multiplied by e ^ 7
pub near_lifts : NearLaw
near_lifts w x d c e near same =
    let C : ℤ = power (pos c) 7 in
    let E : ℤ = power (pos e) 7 in
    let whole : power (pos e *ℤ pos c) 7 ≡ E *ℤ C = power-mul (pos e) (pos c) 7 in
    let low = le_mul_ℤ E (w -ℤ pos 500 *ℤ C) (pos 1000 *ℤ x) (power_natural e 7) near.below in
    let high = le_mul_ℤ E (pos 1000 *ℤ x) (w +ℤ pos 500 *ℤ C) (power_natural e 7) near.above in
    record {
      below = chain (sym (lows w (pos 500) C E) ∙ ap (λ (z : ℤ). w *ℤ E -ℤ pos 500 *ℤ z) (sym whole))
          (mids x (pos 1000) E ∙ ap (λ (z : ℤ). pos 1000 *ℤ z) (sym same)) low;
      above = chain (mids x (pos 1000) E ∙ ap (λ (z : ℤ). pos 1000 *ℤ z) (sym same))
          (sym (highs w (pos 500) C E) ∙ ap (λ (z : ℤ). w *ℤ E +ℤ pos 500 *ℤ z) (sym whole)) high;
    }
  where
    lows : (w k C E : ℤ) → w *ℤ E -ℤ k *ℤ (E *ℤ C) ≡ E *ℤ (w -ℤ k *ℤ C)
    lows w k C E = simp ring (omega (arith, linear))

    highs : (w k C E : ℤ) → w *ℤ E +ℤ k *ℤ (E *ℤ C) ≡ E *ℤ (w +ℤ k *ℤ C)
    highs w k C E = simp ring (omega (arith, linear))

    mids : (x k E : ℤ) → E *ℤ (k *ℤ x) ≡ k *ℤ (x *ℤ E)
    mids x k E = simp ring refl

    chain : {x y z t : ℤ} → x ≡ y → z ≡ t → x ≤ℤ z → y ≤ℤ t
    chain {x} {y} {z} {t} p q h = omega (arith, linear)
