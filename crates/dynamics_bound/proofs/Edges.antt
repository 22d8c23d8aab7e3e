-- The ends of a raised curve: its first and last steps are those of the curve.
use Rattle.dynamics_bound.proofs.Prelude.{◌≡◌, ℕ, suc, ◌-◌, ◌≤◌, ℤ, pos, ◌-ℤ◌, ◌*ℤ◌, arith, linear, raised_value}

-- at the beginning
pub first : (n : ℕ) (f : ℕ → ℤ) → n ≤ 7 → pos 7 *ℤ (raised_value n f 1 -ℤ raised_value n f 0) ≡ pos 5040 *ℤ (pos n *ℤ (f 1 -ℤ f 0))
unfolding raised_value
first (suc (suc (suc (suc (suc (suc (suc (suc n)))))))) f small = absurd (omega arith)
first n f small = omega (arith, linear)

-- at the end
pub last : (n : ℕ) (f : ℕ → ℤ) → n ≤ 7 → pos 7 *ℤ (raised_value n f 7 -ℤ raised_value n f 6) ≡ pos 5040 *ℤ (pos n *ℤ (f n -ℤ f (n - 1)))
unfolding raised_value
last (suc (suc (suc (suc (suc (suc (suc (suc n)))))))) f small = absurd (omega arith)
last n f small = omega (arith, linear)
