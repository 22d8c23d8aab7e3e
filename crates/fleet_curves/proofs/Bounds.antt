-- How large raised control values are: their weights add up to 5,040.
use Rattle.fleet_curves.proofs.Prelude.{◌≡◌, inl, inr, ℕ, zero, suc, ◌-◌, ◌*◌, ◌/◌, ◌^◌, ◌≤◌, ◌<◌, ℤ, pos, neg_ℤ, ◌*ℤ◌, ◌≤ℤ◌, arith, refl, List, length, All, lit<, ints, All-from_get_or, at, choose, IsBelow, raised, raised_value, at-eight, below_at}
use Rattle.whole_numbers.specs.Sums.{sum_below}
use Rattle.whole_numbers.proofs.RingLemmas.{linear, le_mul_pos, add_mul_ℤ, mul_neg_ℤ, zero_mul_ℤ}
use Rattle.bezier_core.specs.Curves.{IsLength}
use Rattle.bezier_core.specs.Steps.{IsWithin}

sum_within : (n : ℕ) (w : ℕ → ℕ) (f : ℕ → ℤ) (m : ℤ) → ((k : ℕ) → k < n → IsWithin m (f k)) → IsWithin (sum_below n (λ j. pos (w j)) *ℤ m) (sum_below n (λ j. pos (w j) *ℤ f j))
sum_within zero w f m within = (omega (arith, linear, zero_mul_ℤ m), omega (arith, linear, zero_mul_ℤ m))
sum_within (suc n) w f m within =
    let before : IsWithin (sum_below n (λ j. pos (w j)) *ℤ m) (sum_below n (λ j. pos (w j) *ℤ f j)) = sum_within n w f m (λ k small. within k (omega arith)) in
    let here : IsWithin m (f n) = within n (omega arith) in
    let high : (pos (w n) *ℤ f n) ≤ℤ (pos (w n) *ℤ m) = le_mul_pos (w n) (f n) m here.1 in
    let low : (pos (w n) *ℤ neg_ℤ m) ≤ℤ (pos (w n) *ℤ f n) = le_mul_pos (w n) (neg_ℤ m) (f n) here.0 in (
      omega (arith, linear, before.0, low, mul_neg_ℤ (pos (w n)) m, add_mul_ℤ (sum_below n (λ j. pos (w j))) (pos (w n)) m),
      omega (arith, linear, before.1, high, add_mul_ℤ (sum_below n (λ j. pos (w j))) (pos (w n)) m),
    )

abbrev part_of : ℕ → ℕ → ℕ → ℕ
part_of n k j = 5040 / choose 7 k * choose n j * choose (7 - n) (k - j)

total_0 : (k : ℕ) → k ≤ 7 → sum_below (suc k) (λ j. pos (part_of 0 k j)) ≡ pos 5040
total_0 zero small = refl
total_0 (suc zero) small = refl
total_0 (suc (suc zero)) small = refl
total_0 (suc (suc (suc zero))) small = refl
total_0 (suc (suc (suc (suc zero)))) small = refl
total_0 (suc (suc (suc (suc (suc zero))))) small = refl
total_0 (suc (suc (suc (suc (suc (suc zero)))))) small = refl
total_0 (suc (suc (suc (suc (suc (suc (suc zero))))))) small = refl
total_0 (suc (suc (suc (suc (suc (suc (suc (suc k)))))))) small = absurd (omega arith)

total_1 : (k : ℕ) → k ≤ 7 → sum_below (suc k) (λ j. pos (part_of 1 k j)) ≡ pos 5040
total_1 zero small = refl
total_1 (suc zero) small = refl
total_1 (suc (suc zero)) small = refl
total_1 (suc (suc (suc zero))) small = refl
total_1 (suc (suc (suc (suc zero)))) small = refl
total_1 (suc (suc (suc (suc (suc zero))))) small = refl
total_1 (suc (suc (suc (suc (suc (suc zero)))))) small = refl
total_1 (suc (suc (suc (suc (suc (suc (suc zero))))))) small = refl
total_1 (suc (suc (suc (suc (suc (suc (suc (suc k)))))))) small = absurd (omega arith)

total_3 : (k : ℕ) → k ≤ 7 → sum_below (suc k) (λ j. pos (part_of 3 k j)) ≡ pos 5040
total_3 zero small = refl
total_3 (suc zero) small = refl
total_3 (suc (suc zero)) small = refl
total_3 (suc (suc (suc zero))) small = refl
total_3 (suc (suc (suc (suc zero)))) small = refl
total_3 (suc (suc (suc (suc (suc zero))))) small = refl
total_3 (suc (suc (suc (suc (suc (suc zero)))))) small = refl
total_3 (suc (suc (suc (suc (suc (suc (suc zero))))))) small = refl
total_3 (suc (suc (suc (suc (suc (suc (suc (suc k)))))))) small = absurd (omega arith)

total_7 : (k : ℕ) → k ≤ 7 → sum_below (suc k) (λ j. pos (part_of 7 k j)) ≡ pos 5040
total_7 zero small = refl
total_7 (suc zero) small = refl
total_7 (suc (suc zero)) small = refl
total_7 (suc (suc (suc zero))) small = refl
total_7 (suc (suc (suc (suc zero)))) small = refl
total_7 (suc (suc (suc (suc (suc zero))))) small = refl
total_7 (suc (suc (suc (suc (suc (suc zero)))))) small = refl
total_7 (suc (suc (suc (suc (suc (suc (suc zero))))))) small = refl
total_7 (suc (suc (suc (suc (suc (suc (suc (suc k)))))))) small = absurd (omega arith)

total : (n k : ℕ) → IsLength n → k ≤ 7 → sum_below (suc k) (λ j. pos (part_of (n - 1) k j)) ≡ pos 5040
total n k (inl e) small = rw e (total_0 k small)
total n k (inr (inl e)) small = rw e (total_1 k small)
total n k (inr (inr (inl e))) small = rw e (total_3 k small)
total n k (inr (inr (inr e))) small = rw e (total_7 k small)

below_raised : (x : ℤ) → IsWithin (pos 5040 *ℤ pos 32768) x → IsBelow (2 ^ 28) x
below_raised x within = (omega (arith, ints), omega (arith, ints))

within_short : (x : ℤ) → IsBelow 32769 x → IsWithin (pos 32768) x
within_short x below = (omega (arith, ints), omega (arith, ints))

pub raised_small : (b : List ℤ) → IsLength (length b) → All (IsBelow 32769) b → All (IsBelow (2 ^ 28)) (raised b)
unfolding raised_value
raised_small b lengths small =
    All-from_get_or (IsBelow (2 ^ 28)) (raised b) (pos 0) (λ k inside. one k (omega arith))
  where
    one : (k : ℕ) → k ≤ 7 → IsBelow (2 ^ 28) (at (raised b) k)
    one k few =
        rw (at-eight (raised_value (length b - 1) (at b)) k few)
        (below_raised (raised_value (length b - 1) (at b) k)
        (rw (total (length b) k lengths few) at (sum_within (suc k) (part_of (length b - 1) k) (at b) (pos 32768) (λ j near. within_short (at b j) (below_at 32769 b j (lit< tt) small)))))
