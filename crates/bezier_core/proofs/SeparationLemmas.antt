-- The halves of a part keep a lower bound, scaled: the halves of a separated place are separated.
use Rattle.bezier_core.proofs.Prelude.{common_steps, ℕ, suc, ◌≤◌, ◌+◌, ◌-◌, ◌*◌, ℤ, pos, ◌*ℤ◌, ◌≤ℤ◌, arith, ints, power, bernstein-at_least, polar, part_value}
use Rattle.bezier_core.proofs.PolarLemmas.{part-part}

-- where each control value is at least low, so is the polar form, scaled: the hull property of parts
pub polar-at_least : (j k : ℕ) (f : ℕ → ℤ) (low b d s : ℤ) → pos 0 ≤ℤ b → b ≤ℤ s → pos 0 ≤ℤ d → d ≤ℤ s → ((i : ℕ) → i ≤ j + k → low ≤ℤ f i) →
    ((low *ℤ power s k) *ℤ power s j) ≤ℤ polar j k f b d s
unfolding polar
polar-at_least j k f low b d s b_pos b_in d_pos d_in above = grind (arith, common_steps, bernstein-at_least)

-- where the values of a part are at least low, those of its halves are at least low times 2^7
pub half-at_least : (e m r k : ℕ) (f : ℕ → ℤ) (low : ℤ) → r ≤ 1 → k ≤ 7 → ((i : ℕ) → i ≤ 7 → low ≤ℤ part_value e m f i) →
    ((low *ℤ power (pos 2) k) *ℤ power (pos 2) (7 - k)) ≤ℤ part_value (suc e) (2 * m + r) f k
half-at_least e m r k f low small within above =
    rw (← part-part e m r k f small within)
    (polar-at_least (7 - k) k (part_value e m f) low (pos r) (pos (r + 1)) (pos 2) (omega (arith, ints)) (omega (arith, ints)) (omega (arith, ints)) (omega (arith, ints)) (λ i near. above i (omega arith)))
