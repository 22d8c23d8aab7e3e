-- The least of pairs and of listed instants, one more at a time.
use Rattle.touch_witness.proofs.Prelude.{common_steps, ◌≡◌, ℕ, ◌+◌, ◌^◌, ◌≤◌, ◌<◌, inl, inr, ℤ, pos, ◌*ℤ◌, ◌≤ℤ◌, ◌<ℤ◌, arith, refl, sym, subst, ◌∙◌, List, [], ◌∷◌, length, get_or, FitsSigned, true, false, ints, w128, ◌⊎◌, IsIn, linear, by_lt, Traj, Point, Touch, Pair, Best, cues_in, IsBefore, IsListed, LeftAbove, LeftFrom, left_of, listed, ArePlaces, IsBest, IsLeastPair, IsNearestAt, PairBefore, left_at, most_ratio, point_at, right_side}
use lib.Signed.{lt_z}
use Rattle.touch_witness.proofs.Pairs.{sides}

pub lt_le : (x y z : ℤ) → x <ℤ y → y ≤ℤ z → x <ℤ z
lt_le x y z first second = omega (arith, linear)

pub le_le : (x y z : ℤ) → x ≤ℤ y → y ≤ℤ z → x ≤ℤ z
le_le x y z first second = omega (arith, linear)

pub lt_to_le : (x y : ℤ) → x <ℤ y → x ≤ℤ y
lt_to_le x y less = omega (arith, linear)

pub same_le : (x y : ℤ) → x ≡ y → x ≤ℤ y
same_le x y same = omega (arith, linear)

-- before the next pair stand those before this one, and this one
before_next : (i j c d : ℕ) → PairBefore i j c (d + 1) → PairBefore i j c d ⊎ ((i ≡ c) × (j ≡ d))
before_next i j c d (inl less) = inl (inl less)
before_next i j c d (inr same) = by_lt j d (λ (l : j < d). inl (inr (same.0, l))) (λ (m : d ≤ j). inr (same.0, omega (arith, same.1)))

pub least_open : (points : List Point) (r h n a : ℕ) (p : Pair) → IsLeastPair points r h n a 0 p → IsLeastPair points r h n a (a + 1) p
least_open points r h n a p so_far = grind (arith, common_steps)

pub least_keep : (points : List Point) (r h n a b : ℕ) (p : Pair) → IsLeastPair points r h n a b p → p.left ≤ℤ left_at points r h a b → IsLeastPair points r h n a (b + 1) p
least_keep points r h n a b p so_far less = grind (arith, common_steps, before_next)

pub least_take : (points : List Point) (r h n a b : ℕ) (p : Pair) (x : ℤ) → IsLeastPair points r h n a b p → a < b → b < n → IsIn (pos 0) (pos (2 ^ 126)) x → x ≡ left_at points r h a b → x <ℤ p.left →
    IsLeastPair points r h n a (b + 1) (record { a = a; b = b; left = x })
least_take points r h n a b p x so_far ordered within small is less = grind (arith, common_steps, before_next, lt_le, le_le, lt_to_le, same_le)

pub least_row : (points : List Point) (r h n a b : ℕ) (p : Pair) → IsLeastPair points r h n a b p → n ≤ b → IsLeastPair points r h n (a + 1) 0 p
least_row points r h n a b p so_far past = grind (arith, common_steps, by_lt)

-- the least pair of points is that of the drones there
pub nearest_told : (trajs : List Traj) (r h fine cue at : ℕ) (points : List Point) (p : Pair) → IsLeastPair points r h (length trajs) (length trajs) 0 p → ArePlaces trajs fine cue at points →
    p.left ≤ℤ (pos most_ratio *ℤ right_side r h fine) → IsNearestAt trajs r h fine cue at (record { site = record { cue = cue; at = at; a = p.a; b = p.b }; left = p.left })
nearest_told trajs r h fine cue at points p found places near = record {
  in_cue = refl;
  fraction = refl;
  order = found.order;
  inside = found.inside;
  small = found.small;
  near = near;
  is = λ t u t_is u_is. found.is ∙ sides t u r h fine cue at (point_at points p.a) (point_at points p.b) (places p.a t t_is) (places p.b u u_is);
  least = λ i j order inside t u t_is u_is. subst (λ (z : ℤ). p.left ≤ℤ z) (sides t u r h fine cue at (point_at points i) (point_at points j) (places i t t_is) (places j u u_is)) (found.least i j order inside (inl (omega (arith, order, inside))));
  first = λ i j order inside before t u t_is u_is. subst (λ (z : ℤ). p.left <ℤ z) (sides t u r h fine cue at (point_at points i) (point_at points j) (places i t t_is) (places j u u_is)) (found.first i j order inside before);
}

-- ---- listed instants
from_at : (trajs : List Traj) (r h fine cue at : ℕ) (u : Touch) (x y : ℤ) → u.cue ≡ cue → u.at ≡ at → y ≤ℤ x → LeftFrom trajs r h fine (record { cue = cue; at = at; a = u.a; b = u.b }) x → LeftFrom trajs r h fine u y
from_at trajs r h fine cue at u x y cue_is at_is less from t v t_is v_is =
    subst (λ (k : ℕ). y ≤ℤ left_of t v r h (listed fine k u.at)) (sym cue_is) (subst (λ (k : ℕ). y ≤ℤ left_of t v r h (listed fine cue k)) (sym at_is) (le_le y x _ less (from t v t_is v_is)))

above_at : (trajs : List Traj) (r h fine cue at : ℕ) (u : Touch) (x : ℤ) → u.cue ≡ cue → u.at ≡ at → LeftAbove trajs r h fine (record { cue = cue; at = at; a = u.a; b = u.b }) x → LeftAbove trajs r h fine u x
above_at trajs r h fine cue at u x cue_is at_is above t v t_is v_is =
    subst (λ (k : ℕ). x <ℤ left_of t v r h (listed fine k u.at)) (sym cue_is) (subst (λ (k : ℕ). x <ℤ left_of t v r h (listed fine cue k)) (sym at_is) (above t v t_is v_is))

pub best_keep : (trajs : List Traj) (r h fine cue at : ℕ) (s p : Best) → IsBest trajs r h fine cue at s → IsNearestAt trajs r h fine cue at p → s.left ≤ℤ p.left → IsBest trajs r h fine cue (at + 1) s
best_keep trajs r h fine cue at s p so_far here less = record {
  among = so_far.among;
  small = so_far.small;
  near = so_far.near;
  is = so_far.is;
  least = λ u among before. step u among (before_next u.cue u.at cue at before);
  first = so_far.first;
}
  where
    step : (u : Touch) → IsListed trajs fine u → PairBefore u.cue u.at cue at ⊎ ((u.cue ≡ cue) × (u.at ≡ at)) → LeftFrom trajs r h fine u s.left
    step u among (inl earlier) = so_far.least u among earlier
    step u among (inr same) = from_at trajs r h fine cue at u p.left s.left same.0 same.1 less (here.least u.a u.b among.pair among.drone)

pub best_take : (trajs : List Traj) (r h fine cue at : ℕ) (s p : Best) → IsBest trajs r h fine cue at s → IsNearestAt trajs r h fine cue at p → p.left <ℤ s.left → cue < cues_in trajs → at ≤ 2 ^ fine →
    IsBest trajs r h fine cue (at + 1) p
best_take trajs r h fine cue at s p so_far here less inside fraction = record {
  among = record { cue = rw here.in_cue inside; at = rw here.fraction fraction; pair = here.order; drone = here.inside };
  small = here.small;
  near = here.near;
  is = here.is;
  least = λ u among before. step u among (before_next u.cue u.at cue at before);
  first = λ u among before. strict u among before;
}
  where
    step : (u : Touch) → IsListed trajs fine u → PairBefore u.cue u.at cue at ⊎ ((u.cue ≡ cue) × (u.at ≡ at)) → LeftFrom trajs r h fine u p.left
    step u among (inl earlier) = λ t v t_is v_is. le_le p.left s.left _ (lt_to_le p.left s.left less) (so_far.least u among earlier t v t_is v_is)
    step u among (inr same) = from_at trajs r h fine cue at u p.left p.left same.0 same.1 (same_le p.left p.left refl) (here.least u.a u.b among.pair among.drone)

    earlier_one : (u : Touch) → IsListed trajs fine u → PairBefore u.cue u.at cue at → LeftAbove trajs r h fine u p.left
    earlier_one u among before t v t_is v_is = lt_le p.left s.left _ less (so_far.least u among before t v t_is v_is)

    in_one : (u : Touch) → IsListed trajs fine u → u.cue ≡ p.site.cue → (u.at < p.site.at) ⊎ ((u.at ≡ p.site.at) × PairBefore u.a u.b p.site.a p.site.b) → LeftAbove trajs r h fine u p.left
    in_one u among same (inl earlier) = earlier_one u among (inr (same ∙ here.in_cue, omega (arith, earlier, here.fraction)))
    in_one u among same (inr both) = above_at trajs r h fine cue at u p.left (same ∙ here.in_cue) (both.0 ∙ here.fraction) (here.first u.a u.b among.pair among.drone both.1)

    strict : (u : Touch) → IsListed trajs fine u → IsBefore u p.site → LeftAbove trajs r h fine u p.left
    strict u among (inl earlier) = earlier_one u among (inl (omega (arith, earlier, here.in_cue)))
    strict u among (inr both) = in_one u among both.0 both.1

-- a show has as many cues as its first trajectory segments
pub cues_are : (trajs : List Traj) (t : Traj) → t ≡ get_or trajs 0 t → 1 ≤ length trajs → cues_in trajs ≡ length t.segments
cues_are [] t is some = absurd (omega arith)
cues_are (u ∷ rest) t is some = subst (λ (z : Traj). length u.segments ≡ length z.segments) (sym is) refl

-- after the last row
pub least_more : (points : List Point) (r h n a m : ℕ) (p : Pair) → IsLeastPair points r h n a 0 p → m ≤ a → IsLeastPair points r h n m 0 p
least_more points r h n a m p so_far past = grind (arith, common_steps)

pub fits_126 : (x : ℤ) → IsIn (pos 0) (pos (2 ^ 126)) x → FitsSigned w128 x
fits_126 x inside = omega (arith, ints)

-- what the program's test says
pub told_below : (x y : ℤ) → lt_z x y ≡ true → x <ℤ y
told_below x y e = omega (arith, ints)

pub told_from : (x y : ℤ) → lt_z x y ≡ false → y ≤ℤ x
told_from x y e = omega (arith, ints)
