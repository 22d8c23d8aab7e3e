-- The closest of one pair in one cue, one fraction more at a time.
use Rattle.touch_witness.proofs.Prelude.{◌≡◌, ℕ, ◌+◌, ◌*◌, ◌^◌, ◌≤◌, ◌<◌, ◌⊎◌, inl, inr, ℤ, pos, ◌*ℤ◌, ◌≤ℤ◌, ◌<ℤ◌, arith, refl, ap, sym, subst, ◌∙◌, List, length, Some, slice_get, unsigned_abs, by_lt, IsIn, Traj, Touch, Point, cues_in, ArePlaces, IsBefore, IsClosestIn, IsLeastOf, IsLeftAt, IsListed, IsOf, LeftAbove, LeftFrom, LeftIs, left_of, left_side, listed, most_ratio, point_at, right_side}
use Rattle.sep_parts.specs.Slots.{IsSlot}
use Rattle.sep_parts.specs.declared.slot.Slot.{Slot}
use Rattle.touch_witness.proofs.Least.{le_le, lt_le, lt_to_le, same_le}
use Rattle.touch_witness.proofs.Levels.{level_high, level_low, some_told}
use Rattle.touch_witness.proofs.Pairs.{sides}

-- the left side of two points is that of the drones there
pub left_told : (trajs : List Traj) (r h fine : ℕ) (slot : Slot) (at : ℕ) (points : List Point) (left : ℤ) → ArePlaces trajs fine slot.cue at points → IsIn (pos 0) (pos (2 ^ 126)) left →
    left ≤ℤ (pos most_ratio *ℤ right_side r h fine) → left ≡ left_side r h (point_at points slot.a) (point_at points slot.b) → IsLeftAt trajs r h fine slot at left
left_told trajs r h fine slot at points left places small near is = record {
  small = small;
  near = near;
  is = λ u of_slot at_is t v t_is v_is.
      is
      ∙ sides t v r h fine slot.cue at (point_at points slot.a) (point_at points slot.b)
      (places slot.a t (subst (λ (k : ℕ). slice_get trajs k ≡ Some t) of_slot.a t_is)) (places slot.b v (subst (λ (k : ℕ). slice_get trajs k ≡ Some v) of_slot.b v_is))
      ∙ ap (λ (k : ℕ). left_of t v r h (listed fine k at)) (sym of_slot.cue)
      ∙ ap (λ (k : ℕ). left_of t v r h (listed fine u.cue k)) (sym at_is);
}

-- what is the left side is not above it, and with a lower number neither
from_is : (trajs : List Traj) (r h fine : ℕ) (u : Touch) (x y : ℤ) → x ≤ℤ y → LeftIs trajs r h fine u y → LeftFrom trajs r h fine u x
from_is trajs r h fine u x y less is t v t_is v_is = le_le x y _ less (same_le y _ (is t v t_is v_is))

pub least_first : (trajs : List Traj) (r h fine : ℕ) (slot : Slot) (left : ℤ) → IsLeftAt trajs r h fine slot 0 left → IsLeastOf trajs r h fine slot 1 0 left
least_first trajs r h fine slot left here = record {
  fraction = omega arith;
  here = here;
  least = λ u of_slot before. from_is trajs r h fine u left left (same_le left left refl) (here.is u of_slot (omega (arith, before)));
  first = λ u of_slot before. absurd (omega (arith, before));
}

pub least_kept : (trajs : List Traj) (r h fine : ℕ) (slot : Slot) (m at : ℕ) (left x : ℤ) → IsLeastOf trajs r h fine slot m at left → IsLeftAt trajs r h fine slot m x → left ≤ℤ x →
    IsLeastOf trajs r h fine slot (m + 1) at left
least_kept trajs r h fine slot m at left x so_far here less = record {
  fraction = so_far.fraction;
  here = so_far.here;
  least = λ u of_slot before. by_lt u.at m (λ (earlier : u.at < m). so_far.least u of_slot earlier)
      (λ (not_earlier : m ≤ u.at). from_is trajs r h fine u left x less (here.is u of_slot (omega (arith, before, not_earlier))));
  first = so_far.first;
}

pub least_taken : (trajs : List Traj) (r h fine : ℕ) (slot : Slot) (m at : ℕ) (left x : ℤ) → IsLeastOf trajs r h fine slot m at left → IsLeftAt trajs r h fine slot m x → m ≤ 2 ^ fine → x <ℤ left →
    IsLeastOf trajs r h fine slot (m + 1) m x
least_taken trajs r h fine slot m at left x so_far here fraction less = record {
  fraction = fraction;
  here = here;
  least = λ u of_slot before. by_lt u.at m (λ (earlier : u.at < m). below u of_slot earlier)
      (λ (not_earlier : m ≤ u.at). from_is trajs r h fine u x x (same_le x x refl) (here.is u of_slot (omega (arith, before, not_earlier))));
  first = λ u of_slot before t v t_is v_is. lt_le x left _ less (so_far.least u of_slot before t v t_is v_is);
}
  where
    below : (u : Touch) → IsOf slot u → u.at < m → LeftFrom trajs r h fine u x
    below u of_slot earlier t v t_is v_is = le_le x left _ (lt_to_le x left less) (so_far.least u of_slot earlier t v t_is v_is)

-- of fewer fractions
pub least_fewer : (trajs : List Traj) (r h fine : ℕ) (slot : Slot) (m n at : ℕ) (left : ℤ) → IsLeastOf trajs r h fine slot m at left → n ≤ m → IsLeastOf trajs r h fine slot n at left
least_fewer trajs r h fine slot m n at left so_far fewer = record {
  fraction = so_far.fraction;
  here = so_far.here;
  least = λ u of_slot before. so_far.least u of_slot (omega (arith, before, fewer));
  first = so_far.first;
}

-- instants of one pair and one cue are in order by their fractions
before_at : (slot : Slot) (u s : Touch) → IsOf slot u → IsOf slot s → IsBefore u s → u.at < s.at
before_at slot u s first second (inl less) = absurd (omega (arith, less, first.cue, second.cue))
before_at slot u s first second (inr (same, inl less)) = less
before_at slot u s first second (inr (same, inr (same_at, inl less))) = absurd (omega (arith, less, first.a, second.a))
before_at slot u s first second (inr (same, inr (same_at, inr (same_a, less)))) = absurd (omega (arith, less, first.b, second.b))

abbrev site : Slot → ℕ → Touch
site slot at = record { cue = slot.cue; at = at; a = slot.a; b = slot.b }

site_is : (slot : Slot) (at : ℕ) → IsOf slot (site slot at)
site_is slot at = record { a = refl; b = refl; cue = refl }

-- the least of all fractions is the closest
pub closest_in_told : (trajs : List Traj) (r h fine : ℕ) (slot : Slot) (at level : ℕ) (left right : ℤ) → IsSlot (length trajs) (cues_in trajs) slot → IsLeastOf trajs r h fine slot (2 ^ fine + 1) at left →
    right ≡ right_side r h fine → IsIn (pos 1) (pos (2 ^ 116)) right → level * unsigned_abs right ≤ 1000 * unsigned_abs left → 1000 * unsigned_abs left < (level + 1) * unsigned_abs right →
    IsClosestIn trajs r h fine slot (record { cue = slot.cue; at = at; a = slot.a; b = slot.b; level = level })
unfolding right_side
closest_in_told trajs r h fine slot at level left right is_slot best right_is right_some low high = record {
  left = left;
  among = record { cue = is_slot.cue; at = best.fraction; pair = is_slot.first; drone = is_slot.second };
  of_slot = site_is slot at;
  is = best.here.is (site slot at) (site_is slot at) refl;
  least = λ u among of_slot. best.least u of_slot (let fraction = among.at in omega (arith, fraction));
  first = λ u among of_slot before. best.first u of_slot (before_at slot u (site slot at) of_slot (site_is slot at) before);
  level = subst (λ (z : ℤ). (pos level *ℤ z) ≤ℤ (pos 1000 *ℤ left)) right_is (level_low level left right best.here.small.0 (some_told right right_some) low);
  next_level = subst (λ (z : ℤ). (pos 1000 *ℤ left) <ℤ (pos (level + 1) *ℤ z)) right_is (level_high (level + 1) left right best.here.small.0 (some_told right right_some) high);
}
