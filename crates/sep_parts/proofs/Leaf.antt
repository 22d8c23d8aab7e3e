-- One leaf: a separated part is apart at each of its instants.
use Rattle.sep_parts.proofs.Prelude.{◌≡◌, ℕ, ◌+◌, ◌*◌, ◌^◌, ℤ, pos, ◌+ℤ◌, ◌-ℤ◌, ◌*ℤ◌, ◌≤ℤ◌, ◌<ℤ◌, arith, refl, sym, ◌∙◌, ap, power, bernstein, ring, linear, le_from_mul_ℤ, add_mul_ℤ, power_positive, bernstein-at_least, pow_pos, linear_sum, part_value, part-instant, power_seven}
use Rattle.sep_parts.proofs.Directed.{Cue, Direction, IsSeparatedBy, along_part}

-- the weighted sums of the three curves are at least t 5040 c^7
pub along_instant : (d : Cue) (n : Direction) (r h : ℕ) (t : ℤ) (e m : ℕ) (a c : ℤ) → pos 1 ≤ℤ c → (pos m *ℤ c) ≤ℤ (pos (2 ^ e) *ℤ a) → (pos (2 ^ e) *ℤ a) ≤ℤ (pos (m + 1) *ℤ c) →
    IsSeparatedBy d n r h t e m →
    (t *ℤ (pos 5040 *ℤ power c 7)) ≤ℤ ((n.x *ℤ pos h) *ℤ bernstein 7 d.x a c +ℤ (n.y *ℤ pos h) *ℤ bernstein 7 d.y a c +ℤ (n.z *ℤ pos r) *ℤ bernstein 7 d.z a c)
along_instant d n r h t e m a c some from to separates =
    let s : ℤ = pos (2 ^ e) in
    let at : ℤ = s *ℤ a -ℤ pos m *ℤ c in
    let wide : pos (m + 1) *ℤ c ≡ pos m *ℤ c +ℤ c = omega (arith, linear, add_mul_ℤ (pos m) (pos 1) c) in
    let hull : ((t *ℤ pos (5040 * 2 ^ (7 * e))) *ℤ power c 7) ≤ℤ bernstein 7 (along_part d n r h e m) at c =
    bernstein-at_least 7 (along_part d n r h e m) (t *ℤ pos (5040 * 2 ^ (7 * e))) at c (omega (arith, linear)) (omega (arith, linear)) separates.values in
    let sum : bernstein 7 (along_part d n r h e m) at c
    ≡ (n.x *ℤ pos h) *ℤ (power s 7 *ℤ bernstein 7 d.x a c) +ℤ (n.y *ℤ pos h) *ℤ (power s 7 *ℤ bernstein 7 d.y a c) +ℤ (n.z *ℤ pos r) *ℤ (power s 7 *ℤ bernstein 7 d.z a c) =
    linear_sum (part_value e m d.x) (part_value e m d.y) (part_value e m d.z) (n.x *ℤ pos h) (n.y *ℤ pos h) (n.z *ℤ pos r) at c
    ∙ rw (part-instant e m d.x a c, part-instant e m d.y a c, part-instant e m d.z a c) refl in
    let whole : ℤ = (n.x *ℤ pos h) *ℤ bernstein 7 d.x a c +ℤ (n.y *ℤ pos h) *ℤ bernstein 7 d.y a c +ℤ (n.z *ℤ pos r) *ℤ bernstein 7 d.z a c in
    let low : (t *ℤ pos (5040 * 2 ^ (7 * e))) *ℤ power c 7 ≡ (t *ℤ (pos 5040 *ℤ power c 7)) *ℤ power s 7 =
    ap (λ (z : ℤ). (t *ℤ (pos 5040 *ℤ z)) *ℤ power c 7) (sym (power_seven e)) ∙ lows t (pos 5040) (power s 7) (power c 7) in
    let high : (n.x *ℤ pos h) *ℤ (power s 7 *ℤ bernstein 7 d.x a c) +ℤ (n.y *ℤ pos h) *ℤ (power s 7 *ℤ bernstein 7 d.y a c) +ℤ (n.z *ℤ pos r) *ℤ (power s 7 *ℤ bernstein 7 d.z a c) ≡ whole *ℤ power s 7 =
    highs (n.x *ℤ pos h) (n.y *ℤ pos h) (n.z *ℤ pos r) (power s 7) (bernstein 7 d.x a c) (bernstein 7 d.y a c) (bernstein 7 d.z a c) in
    le_from_mul_ℤ (t *ℤ (pos 5040 *ℤ power c 7)) whole (power s 7) (power_positive s 7 (two_positive e))
    (chain_le hull low (sum ∙ high))
  where
    lows : (t k p c : ℤ) → (t *ℤ (k *ℤ p)) *ℤ c ≡ (t *ℤ (k *ℤ c)) *ℤ p
    lows t k p c = simp ring refl

    highs : (u v w p x y z : ℤ) → u *ℤ (p *ℤ x) +ℤ v *ℤ (p *ℤ y) +ℤ w *ℤ (p *ℤ z) ≡ (u *ℤ x +ℤ v *ℤ y +ℤ w *ℤ z) *ℤ p
    highs u v w p x y z = simp ring (omega (arith, linear))

    chain_le : {x y z w : ℤ} → x ≤ℤ y → x ≡ z → y ≡ w → z ≤ℤ w
    chain_le {x} {y} {z} {w} h p q = omega (arith, linear)

    two_positive : (e : ℕ) → pos 0 <ℤ pos (2 ^ e)
    two_positive e = omega (arith, linear, pow_pos e)
