-- One less or one more, scaled.
use Rattle.keepout_boxes.proofs.Prelude.{common_steps, ◌≡◌, ℤ, pos, negsuc, neg_ℤ, ◌+ℤ◌, ◌-ℤ◌, ◌*ℤ◌, ◌≤ℤ◌, ◌<ℤ◌, arith, ◌∙◌, ap, mul_comm_ℤ, neg_mul_ℤ, one_mul_ℤ, mul_add_ℤ}

minus_one : (x : ℤ) → negsuc 0 *ℤ x ≡ neg_ℤ x
minus_one x = neg_mul_ℤ (pos 1) x ∙ ap (λ (z : ℤ). neg_ℤ z) (one_mul_ℤ x)

-- one less, scaled, is less
pub less_scaled : (x s y : ℤ) → pos 1 ≤ℤ s → y ≤ℤ ((x -ℤ pos 1) *ℤ s) → y <ℤ (x *ℤ s)
less_scaled x s y positive below = grind (arith, common_steps, pos, mul_comm_ℤ, mul_add_ℤ, neg_ℤ, minus_one)

pub more_scaled : (x s y : ℤ) → pos 1 ≤ℤ s → ((x +ℤ pos 1) *ℤ s) ≤ℤ y → (x *ℤ s) <ℤ y
more_scaled x s y positive above = grind (arith, common_steps, pos, mul_comm_ℤ, mul_add_ℤ, one_mul_ℤ)
