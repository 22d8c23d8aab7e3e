-- What holds of each number up to a small one.
use Rattle.definition_tests.proofs.Prelude.{◌≤◌, ℕ, zero, suc, arith}

-- what holds of each number up to seven
pub to_seven : (P : ℕ → Type 0) → P 0 → P 1 → P 2 → P 3 → P 4 → P 5 → P 6 → P 7 → (k : ℕ) → k ≤ 7 → P k
to_seven P a b c d e f g h zero small = a
to_seven P a b c d e f g h (suc zero) small = b
to_seven P a b c d e f g h (suc (suc zero)) small = c
to_seven P a b c d e f g h (suc (suc (suc zero))) small = d
to_seven P a b c d e f g h (suc (suc (suc (suc zero)))) small = e
to_seven P a b c d e f g h (suc (suc (suc (suc (suc zero))))) small = f
to_seven P a b c d e f g h (suc (suc (suc (suc (suc (suc zero)))))) small = g
to_seven P a b c d e f g h (suc (suc (suc (suc (suc (suc (suc zero))))))) small = h
to_seven P a b c d e f g h (suc (suc (suc (suc (suc (suc (suc (suc k)))))))) small = absurd (omega (arith, small))

pub to_two : (P : ℕ → Type 0) → P 0 → P 1 → P 2 → (k : ℕ) → k ≤ 2 → P k
to_two P a b c zero small = a
to_two P a b c (suc zero) small = b
to_two P a b c (suc (suc zero)) small = c
to_two P a b c (suc (suc (suc k))) small = absurd (omega (arith, small))
