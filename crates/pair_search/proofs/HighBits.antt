-- The highest bit of a number.
use Rattle.pair_search.proofs.Prelude.{◌≡◌, ℕ, suc, ◌-◌, ◌^◌, ◌≤◌, ◌<◌, arith, ap, subst, pow-suc, pow_pos, bit_at, ◌/◌, ◌%◌, div_below, le-div, leading_top, bit_at_above}
use lib.Count.{count_leading_zeros}

-- a number between two powers of 2 has the bit of the lower one
top_set : (n j : ℕ) → 2 ^ j ≤ n → n < 2 ^ suc j → bit_at n j ≡ 1
top_set n j low high =
    let some : 1 ≤ n / 2 ^ j = le-div 1 n (2 ^ j) (pow_pos j) (omega (arith, low)) in
    let few : n / 2 ^ j < 2 = div_below n (2 ^ j) 2 (pow_pos j) (omega (arith, high, pow-suc 2 j)) in
    let one : n / 2 ^ j ≡ 1 = omega (arith, some, few) in
    ap (λ (x : ℕ). x % 2) one

-- the bit behind the leading zeros is set, and none above it
pub highest_set : (n : ℕ) → 0 < n → n < 2 ^ 64 → (count_leading_zeros 64 n ≤ 63) × (bit_at n (63 - count_leading_zeros 64 n) ≡ 1) × ((k : ℕ) → 63 - count_leading_zeros 64 n < k → bit_at n k ≡ 0)
highest_set n some fits =
    let top = leading_top 64 n some fits in
    let here : top.0 ≡ 63 - count_leading_zeros 64 n = omega (arith, top.1) in (
      omega (arith, top.1),
      subst (λ (j : ℕ). bit_at n j ≡ 1) here (top_set n top.0 top.2 top.3),
      λ k above. bit_at_above n (suc top.0) k top.3 (omega (arith, above, here)),
    )
