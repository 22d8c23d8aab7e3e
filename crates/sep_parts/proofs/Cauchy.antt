-- Cauchy's inequality in three terms, by Lagrange's identity.
use Rattle.sep_parts.proofs.Prelude.{◌≡◌, ℤ, pos, negsuc, ◌+ℤ◌, ◌-ℤ◌, ◌*ℤ◌, ◌≤ℤ◌, arith, ints, ring, linear}

pub square_positive : (x : ℤ) → pos 0 ≤ℤ (x *ℤ x)
square_positive (pos n) = omega (arith, ints)
square_positive (negsuc n) = omega (arith, ints)

lagrange : (a b c x y z : ℤ) → (a *ℤ a +ℤ b *ℤ b +ℤ c *ℤ c) *ℤ (x *ℤ x +ℤ y *ℤ y +ℤ z *ℤ z)
    ≡ (a *ℤ x +ℤ b *ℤ y +ℤ c *ℤ z) *ℤ (a *ℤ x +ℤ b *ℤ y +ℤ c *ℤ z)
    +ℤ ((a *ℤ y -ℤ b *ℤ x) *ℤ (a *ℤ y -ℤ b *ℤ x) +ℤ (a *ℤ z -ℤ c *ℤ x) *ℤ (a *ℤ z -ℤ c *ℤ x) +ℤ (b *ℤ z -ℤ c *ℤ y) *ℤ (b *ℤ z -ℤ c *ℤ y))
lagrange a b c x y z = simp ring (omega (arith, linear))

pub cauchy : (a b c x y z : ℤ) →
    ((a *ℤ x +ℤ b *ℤ y +ℤ c *ℤ z) *ℤ (a *ℤ x +ℤ b *ℤ y +ℤ c *ℤ z)) ≤ℤ ((a *ℤ a +ℤ b *ℤ b +ℤ c *ℤ c) *ℤ (x *ℤ x +ℤ y *ℤ y +ℤ z *ℤ z))
cauchy a b c x y z = omega (arith, linear, lagrange a b c x y z, square_positive (a *ℤ y -ℤ b *ℤ x), square_positive (a *ℤ z -ℤ c *ℤ x), square_positive (b *ℤ z -ℤ c *ℤ y))
