-- Directions with their opposites, and what their lanes tell.
use Rattle.pair_search.proofs.Prelude.{◌≡◌, ℕ, zero, suc, ℤ, pos, negsuc, neg_ℤ, ◌+ℤ◌, ◌*ℤ◌, ◌<ℤ◌, FitsSigned, arith, replicate, ints, w32, at, IsBelow, linear, neg_mul_ℤ, Lanes, IsSmallLane, lane_value, CancelAt, IsHigh, IsSmallHigh}
use Rattle.pair_search.proofs.LaneLemmas.{lane_product, lane_sum}

-- ---- above what a point is too low
turned : (a b c x y z : ℤ) → neg_ℤ a *ℤ x +ℤ neg_ℤ b *ℤ y +ℤ neg_ℤ c *ℤ z ≡ neg_ℤ (a *ℤ x +ℤ b *ℤ y +ℤ c *ℤ z)
turned a b c x y z = omega (arith, linear, neg_mul_ℤ a x, neg_mul_ℤ b y, neg_mul_ℤ c z)

other_is : (a b : ℤ) → a +ℤ b ≡ pos 0 → b ≡ neg_ℤ a
other_is a b none = omega (arith, linear, none)

turned_low : (u v low : ℤ) → v ≡ neg_ℤ u → neg_ℤ low <ℤ u → v <ℤ low
turned_low u v low is less = omega (arith, linear, is, less)

-- in the lane of the opposite direction a point has the opposite value
pub high_opposite : (l : Lanes) (i j : ℕ) → CancelAt l i j → IsHigh l i j (neg_ℤ (at l.low j))
high_opposite l i j are p small less =
    let sum : lane_value l p j ≡ neg_ℤ (lane_value l p i) =
    rw (other_is (at l.x i) (at l.x j) are.x, other_is (at l.y i) (at l.y j) are.y, other_is (at l.z i) (at l.z j) are.z)
    (turned (at l.x i) (at l.y i) (at l.z i) p.x p.y p.z) in
    turned_low (lane_value l p i) (lane_value l p j) (at l.low j) sum less

-- no point is as high as this
pub high_never : (l : Lanes) (i j : ℕ) → IsSmallLane l i → IsHigh l i j (pos 1000000000)
high_never l i j lane p small less =
    let told : IsBelow 800000000 (lane_value l p i) =
    (lane_sum (at l.x i *ℤ p.x) (at l.y i *ℤ p.y) (at l.z i *ℤ p.z) (lane_product (at l.x i) p.x lane.x small.x) (lane_product (at l.y i) p.y lane.y small.y) (lane_product (at l.z i) p.z lane.z small.z)).2 in
    absurd (far (lane_value l p i) told less)
  where
    far : (v : ℤ) → IsBelow 800000000 v → pos 1000000000 <ℤ v → ⊥
    far v small less = omega (arith, ints)

-- a table before it is filled
pub minus_small : (n j : ℕ) → IsSmallHigh (at (replicate n (negsuc 999999999)) j)
minus_small zero j = (omega (arith, ints), omega (arith, ints))
minus_small (suc n) zero = (omega (arith, ints), omega (arith, ints))
minus_small (suc n) (suc j) = minus_small n j

-- ---- numbers
pub high_fits : (x : ℤ) → IsSmallHigh x → FitsSigned w32 x
high_fits x small = omega (arith, ints)
