-- Regions, computed.
use Rattle.definition_tests.proofs.Prelude.{◌≡◌, ℕ, zero, suc, ◌<◌, pos, negsuc, [], ◌∷◌, All, Some, inl, inr, arith, refl, subst, slice_get, All-head, All-tail, bernstein, decoded, moment, raised_value, polar, Traj, own, curves_at, raised_of, behind, flight}
use Rattle.keepout_boxes.specs.declared.region.Region.{Region}
use Rattle.keepout_boxes.specs.Kept.{IsKept, KeepClear, KeepsTo, part_of}
use Rattle.keepout_boxes.proofs.Instants.{stays_clear}
use Rattle.definition_tests.specs.Regions.{RegionRows, box, layer, volume}
use Rattle.definition_tests.proofs.Counting.{to_seven, to_two}
use Rattle.definition_tests.proofs.KeptRows.{stand}

-- each drone's only part
abbrev KeptBy : Region → ℕ → Type 0
KeptBy region drone = IsKept 1 2 region (part_of (curves_at (raised_of behind) drone 0) 0 0) (pos 5040)

-- there is one region, one cue and one part
at_spot : (region x : Region) (n drone cue index : ℕ) → n < 1 → drone < 2 → cue < 1 → index < 1 → slice_get (region ∷ []) n ≡ Some x →
    ((drone : ℕ) → drone < 2 → KeptBy region drone) → IsKept 1 2 x (part_of (curves_at (raised_of behind) drone cue) 0 index) (pos 5040)
at_spot region x zero drone zero zero a b c d is kept =
    let same : region ≡ x = (let some : Some region ≡ Some x = is in cc) in
    subst (λ (r : Region). KeptBy r drone) same (kept drone b)
at_spot region x (suc n) drone cue index a b c d is kept = absurd (omega (arith, a))
at_spot region x zero drone (suc cue) index a b c d is kept = absurd (omega (arith, c))
at_spot region x zero drone zero (suc index) a b c d is kept = absurd (omega (arith, d))

clear_of : (region : Region) → ((drone : ℕ) → drone < 2 → KeptBy region drone) → KeepClear 1 2 (region ∷ []) behind
unfolding raised_of
clear_of region kept =
    stays_clear (raised_of behind) 1 2 0 (region ∷ [])
    (λ s spot x is. at_spot region x s.region s.drone s.cue s.index spot.has_region spot.has_drone spot.has_cue spot.has_part is kept)
    behind (stand 0 10 7 17 (omega arith) (omega arith) (omega arith) (omega arith))

-- what holds of both drones
both : (P : ℕ → Type 0) → P 0 → P 1 → (drone : ℕ) → drone < 2 → P drone
both P first second zero few = first
both P first second (suc zero) few = second
both P first second (suc (suc drone)) few = absurd (omega (arith, few))

in_volume : (drone : ℕ) → drone < 2 → KeptBy (volume (negsuc 0) (negsuc 1) (pos 18) (pos 2)) drone
unfolding raised_of polar bernstein raised_value
in_volume = both (KeptBy (volume (negsuc 0) (negsuc 1) (pos 18) (pos 2)))
    (to_two _
    (to_seven _ (omega arith, omega arith) (omega arith, omega arith) (omega arith, omega arith) (omega arith, omega arith) (omega arith, omega arith) (omega arith, omega arith) (omega arith, omega arith) (omega arith, omega arith))
    (to_seven _ (omega arith, omega arith) (omega arith, omega arith) (omega arith, omega arith) (omega arith, omega arith) (omega arith, omega arith) (omega arith, omega arith) (omega arith, omega arith) (omega arith, omega arith))
    (to_seven _ (omega arith, omega arith) (omega arith, omega arith) (omega arith, omega arith) (omega arith, omega arith) (omega arith, omega arith) (omega arith, omega arith) (omega arith, omega arith) (omega arith, omega arith)))
    (to_two _
    (to_seven _ (omega arith, omega arith) (omega arith, omega arith) (omega arith, omega arith) (omega arith, omega arith) (omega arith, omega arith) (omega arith, omega arith) (omega arith, omega arith) (omega arith, omega arith))
    (to_seven _ (omega arith, omega arith) (omega arith, omega arith) (omega arith, omega arith) (omega arith, omega arith) (omega arith, omega arith) (omega arith, omega arith) (omega arith, omega arith) (omega arith, omega arith))
    (to_seven _ (omega arith, omega arith) (omega arith, omega arith) (omega arith, omega arith) (omega arith, omega arith) (omega arith, omega arith) (omega arith, omega arith) (omega arith, omega arith) (omega arith, omega arith)))

before_box : (drone : ℕ) → drone < 2 → KeptBy (box (pos 19) (pos 29)) drone
unfolding raised_of polar bernstein raised_value
before_box = both (KeptBy (box (pos 19) (pos 29)))
    (0, omega arith, inl (to_seven _ (omega arith) (omega arith) (omega arith) (omega arith) (omega arith) (omega arith) (omega arith) (omega arith)))
    (0, omega arith, inl (to_seven _ (omega arith) (omega arith) (omega arith) (omega arith) (omega arith) (omega arith) (omega arith) (omega arith)))

after_box : (drone : ℕ) → drone < 2 → KeptBy (box (negsuc 9) (negsuc 1)) drone
unfolding raised_of polar bernstein raised_value
after_box = both (KeptBy (box (negsuc 9) (negsuc 1)))
    (0, omega arith, inr (to_seven _ (omega arith) (omega arith) (omega arith) (omega arith) (omega arith) (omega arith) (omega arith) (omega arith)))
    (0, omega arith, inr (to_seven _ (omega arith) (omega arith) (omega arith) (omega arith) (omega arith) (omega arith) (omega arith) (omega arith)))

under_layer : (drone : ℕ) → drone < 2 → KeptBy (layer (pos 3) (pos 9)) drone
unfolding raised_of polar bernstein raised_value
under_layer = both (KeptBy (layer (pos 3) (pos 9)))
    (2, omega arith, inl (to_seven _ (omega arith) (omega arith) (omega arith) (omega arith) (omega arith) (omega arith) (omega arith) (omega arith)))
    (2, omega arith, inl (to_seven _ (omega arith) (omega arith) (omega arith) (omega arith) (omega arith) (omega arith) (omega arith) (omega arith)))

-- ---- what is not kept, at one instant
-- the end of the second flight is in this box, and the beginning of the first in this one
in_touched : KeepsTo 1 2 (box (pos 18) (pos 28)) (flight (pos 7) (pos 17)) (own (flight (pos 7) (pos 17)) 10 1) → ⊥
unfolding bernstein decoded moment
in_touched (zero, small, inl low) = omega (arith, low)
in_touched (zero, small, inr high) = omega (arith, high)
in_touched (suc zero, small, inl low) = omega (arith, low)
in_touched (suc zero, small, inr high) = omega (arith, high)
in_touched (suc (suc zero), small, inl low) = omega (arith, low)
in_touched (suc (suc zero), small, inr high) = omega (arith, high)
in_touched (suc (suc (suc axis)), small, kept) = omega (arith, small)

in_behind : KeepsTo 1 2 (box (negsuc 9) (negsuc 0)) (flight (pos 0) (pos 10)) (own (flight (pos 0) (pos 10)) 0 1) → ⊥
unfolding bernstein decoded moment
in_behind (zero, small, inl low) = omega (arith, low)
in_behind (zero, small, inr high) = omega (arith, high)
in_behind (suc zero, small, inl low) = omega (arith, low)
in_behind (suc zero, small, inr high) = omega (arith, high)
in_behind (suc (suc zero), small, inl low) = omega (arith, low)
in_behind (suc (suc zero), small, inr high) = omega (arith, high)
in_behind (suc (suc (suc axis)), small, kept) = omega (arith, small)

in_layer : KeepsTo 1 2 (layer (pos 2) (pos 9)) (flight (pos 0) (pos 10)) (own (flight (pos 0) (pos 10)) 5 1) → ⊥
unfolding bernstein decoded moment
in_layer (zero, small, inl low) = omega (arith, low)
in_layer (zero, small, inr high) = omega (arith, high)
in_layer (suc zero, small, inl low) = omega (arith, low)
in_layer (suc zero, small, inr high) = omega (arith, high)
in_layer (suc (suc zero), small, inl low) = omega (arith, low)
in_layer (suc (suc zero), small, inr high) = omega (arith, high)
in_layer (suc (suc (suc axis)), small, kept) = omega (arith, small)

-- a small box in the middle of a fast flight, which no whole millisecond enters
in_middle : KeepsTo 1 2 (box (pos 500) (pos 502)) (flight (pos 0) (pos 1000)) (own (flight (pos 0) (pos 1000)) 501 100) → ⊥
unfolding bernstein decoded moment
in_middle (zero, small, inl low) = omega (arith, low)
in_middle (zero, small, inr high) = omega (arith, high)
in_middle (suc zero, small, inl low) = omega (arith, low)
in_middle (suc zero, small, inr high) = omega (arith, high)
in_middle (suc (suc zero), small, inl low) = omega (arith, low)
in_middle (suc (suc zero), small, inr high) = omega (arith, high)
in_middle (suc (suc (suc axis)), small, kept) = omega (arith, small)

-- what holds at an instant of one region, and of the second of two
of_one : (region : Region) (t : Traj) (p q : ℕ) → All (λ region. KeepsTo 1 2 region t (own t p q)) (region ∷ []) → KeepsTo 1 2 region t (own t p q)
of_one region t p q all = All-head (λ (region : Region). KeepsTo 1 2 region t (own t p q)) region [] all

of_next : (region other : Region) (t : Traj) (p q : ℕ) → All (λ region. KeepsTo 1 2 region t (own t p q)) (region ∷ other ∷ []) → KeepsTo 1 2 other t (own t p q)
of_next region other t p q all = of_one other t p q (All-tail (λ (region : Region). KeepsTo 1 2 region t (own t p q)) region (other ∷ []) all)

pub regions : RegionRows
unfolding bernstein decoded moment
regions = record {
  inside = clear_of (volume (negsuc 0) (negsuc 1) (pos 18) (pos 2)) in_volume;
  too_low_x = λ kept. let low = ((of_one (volume (pos 0) (negsuc 1) (pos 18) (pos 2)) (flight (pos 0) (pos 10)) 0 1 (kept 0 (flight (pos 0) (pos 10)) refl 0 1 (omega arith) (omega arith))) 0 (omega arith)).0 in absurd (omega (arith, low));
  too_high_x = λ kept. let high = ((of_one (volume (negsuc 0) (negsuc 1) (pos 17) (pos 2)) (flight (pos 7) (pos 17)) 10 1 (kept 1 (flight (pos 7) (pos 17)) refl 10 1 (omega arith) (omega arith))) 0 (omega arith)).1 in absurd (omega (arith, high));
  too_low_z = λ kept. let low = ((of_one (volume (negsuc 0) (negsuc 0) (pos 18) (pos 2)) (flight (pos 7) (pos 17)) 10 1 (kept 1 (flight (pos 7) (pos 17)) refl 10 1 (omega arith) (omega arith))) 2 (omega arith)).0 in absurd (omega (arith, low));
  too_high_z = λ kept. let high = ((of_one (volume (negsuc 0) (negsuc 1) (pos 18) (pos 1)) (flight (pos 0) (pos 10)) 0 1 (kept 0 (flight (pos 0) (pos 10)) refl 0 1 (omega arith) (omega arith))) 2 (omega arith)).1 in absurd (omega (arith, high));
  before = clear_of (box (pos 19) (pos 29)) before_box;
  touched = λ kept. in_touched (of_one (box (pos 18) (pos 28)) (flight (pos 7) (pos 17)) 10 1 (kept 1 (flight (pos 7) (pos 17)) refl 10 1 (omega arith) (omega arith)));
  after = clear_of (box (negsuc 9) (negsuc 1)) after_box;
  touched_behind = λ kept. in_behind (of_one (box (negsuc 9) (negsuc 0)) (flight (pos 0) (pos 10)) 0 1 (kept 0 (flight (pos 0) (pos 10)) refl 0 1 (omega arith) (omega arith)));
  above = clear_of (layer (pos 3) (pos 9)) under_layer;
  touched_above = λ kept. in_layer (of_one (layer (pos 2) (pos 9)) (flight (pos 0) (pos 10)) 5 1 (kept 0 (flight (pos 0) (pos 10)) refl 5 1 (omega arith) (omega arith)));
  second_region = λ kept. in_touched (of_next (box (pos 19) (pos 29)) (box (pos 18) (pos 28)) (flight (pos 7) (pos 17)) 10 1 (kept 1 (flight (pos 7) (pos 17)) refl 10 1 (omega arith) (omega arith)));
  between = λ kept. in_middle (of_one (box (pos 500) (pos 502)) (flight (pos 0) (pos 1000)) 501 100 (kept 0 (flight (pos 0) (pos 1000)) refl 501 100 (omega arith) (omega arith)));
}
