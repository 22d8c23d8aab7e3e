-- Drones are judged for any regions in some way: each part is kept, or there is a first one that isn't.
use Rattle.show_studies.proofs.Prelude.{common_steps, ◌≡◌, ◌⊎◌, inl, inr, ℕ, zero, suc, ◌*◌, ◌^◌, ◌<◌, ◌≤◌, ℤ, pos, ◌+ℤ◌, ◌-ℤ◌, ◌*ℤ◌, ◌≤ℤ◌, ◌<ℤ◌, List, length, Option, Some, None, refl, subst, arith, slice_get, by_lt_z, ints, Raised, curves_at, Judged, Kept, Enters, Region, AllAbove, AllBelow, AllBetween, IsKept, JudgeGives, KeptAt, Spot, extent, part_of}
use Rattle.whole_numbers.specs.Bernstein.{at}
use Rattle.whole_numbers.specs.Numbers.{IsIn}
use Rattle.keepout_boxes.specs.declared.region.Region.TheVariants.{Keepout, Volume}
use Rattle.show_studies.proofs.StudyLemmas.{compared}

-- ---- what can be decided

-- it holds, or it doesn't
abbrev Is : Type 0 → Type 0
Is P = P ⊎ (P → ⊥)

-- the first number below n of which it doesn't hold
record First (n : ℕ) (P : ℕ → Type 0) : Type 0 where
  where_is : ℕ
  below : where_is < n
  fails : P where_is → ⊥
  before : (k : ℕ) → k < where_is → P k

below_or_last : (n : ℕ) (P : ℕ → Type 0) (k : ℕ) → k < suc n → ((j : ℕ) → j < n → P j) → P n → P k
below_or_last n P k below all last = grind (arith, common_steps, compared)

-- it holds of all numbers below n, or there is a first one of which it doesn't
all_or_first : (n : ℕ) (P : ℕ → Type 0) → ((k : ℕ) → Is (P k)) → ((k : ℕ) → k < n → P k) ⊎ First n P
all_or_first zero P test = inl (λ k below. absurd (omega (arith, below)))
all_or_first (suc n) P test = by_last (all_or_first n P test) (test n)
  where
    by_last : ((k : ℕ) → k < n → P k) ⊎ First n P → Is (P n) → ((k : ℕ) → k < suc n → P k) ⊎ First (suc n) P
    by_last (inr first) last = inr (record { where_is = first.where_is; below = omega (arith, first.below); fails = first.fails; before = first.before })
    by_last (inl all) (inl holds) = inl (λ k below. below_or_last n P k below all holds)
    by_last (inl all) (inr fails) = inr (record { where_is = n; below = omega arith; fails = fails; before = all })

all_decided : (n : ℕ) (P : ℕ → Type 0) → ((k : ℕ) → Is (P k)) → Is ((k : ℕ) → k < n → P k)
all_decided n P test = by_first (all_or_first n P test)
  where
    by_first : ((k : ℕ) → k < n → P k) ⊎ First n P → Is ((k : ℕ) → k < n → P k)
    by_first (inl all) = inl all
    by_first (inr first) = inr (λ all. first.fails (all first.where_is first.below))

-- up to a number is below the next
up_to : (n : ℕ) (P : ℕ → Type 0) → Is ((k : ℕ) → k < suc n → P k) → Is ((k : ℕ) → k ≤ n → P k)
up_to n P (inl all) = inl (λ k most. all k (omega (arith, most)))
up_to n P (inr fails) = inr (λ all. fails (λ k below. all k (omega (arith, below))))

-- none up to n, and not the next one
none_to : (n : ℕ) (P : ℕ → Type 0) → ((k : ℕ) × (k ≤ n) × P k → ⊥) → (P (suc n) → ⊥) → (k : ℕ) → k ≤ suc n → P k → (k < suc n) ⊎ ((k ≡ suc n) ⊎ (suc n < k)) → ⊥
none_to n P none fails k most holds (inl less) = none (k, omega (arith, less), holds)
none_to n P none fails k most holds (inr (inl same)) = fails (subst P same holds)
none_to n P none fails k most holds (inr (inr above)) = omega (arith, most, above)

-- some number up to n, or none
some_or_none : (n : ℕ) (P : ℕ → Type 0) → ((k : ℕ) → Is (P k)) → Is ((k : ℕ) × (k ≤ n) × P k)
some_or_none zero P test = by_zero (test 0)
  where
    by_zero : Is (P 0) → Is ((k : ℕ) × (k ≤ 0) × P k)
    by_zero (inl holds) = inl (0, omega arith, holds)
    by_zero (inr fails) = inr (λ it. fails (subst P (omega (arith, it.1)) it.2))
some_or_none (suc n) P test = by_both (some_or_none n P test) (test (suc n))
  where
    by_both : Is ((k : ℕ) × (k ≤ n) × P k) → Is (P (suc n)) → Is ((k : ℕ) × (k ≤ suc n) × P k)
    by_both (inl (k, most, holds)) last = inl (k, omega (arith, most), holds)
    by_both (inr none) (inl holds) = inl (suc n, omega arith, holds)
    by_both (inr none) (inr fails) = inr (λ it. none_to n P none fails it.0 it.1 it.2 (compared it.0 (suc n)))

either_decided : (P Q : Type 0) → Is P → Is Q → Is (P ⊎ Q)
either_decided P Q (inl holds) second = inl (inl holds)
either_decided P Q (inr fails) (inl holds) = inl (inr holds)
either_decided P Q (inr fails) (inr also) = inr (λ it. elim it [ inl p ↦ fails p | inr q ↦ also q ])

both_decided : (P Q : Type 0) → Is P → Is Q → Is (P × Q)
both_decided P Q (inl holds) (inl also) = inl (holds, also)
both_decided P Q (inl holds) (inr fails) = inr (λ it. fails it.1)
both_decided P Q (inr fails) second = inr (λ it. fails it.0)

below_decided : (x y : ℤ) → Is (x <ℤ y)
below_decided x y = by_lt_z x y (λ less. inl less) (λ most. inr (λ less. omega (arith, ints, less, most)))

most_decided : (x y : ℤ) → Is (x ≤ℤ y)
most_decided x y = by_lt_z y x (λ less. inr (λ most. omega (arith, ints, less, most))) (λ most. inl most)

-- ---- one part

kept_decided : (r h : ℕ) (region : Region) (g : ℕ → ℕ → ℤ) (scale : ℤ) → Is (IsKept r h region g scale)
kept_decided r h (Keepout low high) g scale =
    some_or_none 2 (λ axis. AllBelow (g axis) ((at low axis -ℤ extent r h axis) *ℤ scale) ⊎ AllAbove (g axis) ((at high axis +ℤ extent r h axis) *ℤ scale))
    (λ axis. either_decided _ _
    (up_to 7 _ (all_decided 8 (λ k. g axis k <ℤ ((at low axis -ℤ extent r h axis) *ℤ scale)) (λ k. below_decided (g axis k) _)))
    (up_to 7 _ (all_decided 8 (λ k. ((at high axis +ℤ extent r h axis) *ℤ scale) <ℤ g axis k) (λ k. below_decided _ (g axis k)))))
kept_decided r h (Volume low high) g scale =
    up_to 2 _ (all_decided 3 (λ axis. AllBetween (g axis) ((at low axis +ℤ extent r h axis) *ℤ scale) ((at high axis -ℤ extent r h axis) *ℤ scale))
    (λ axis. up_to 7 _ (all_decided 8 (λ k. IsIn ((at low axis +ℤ extent r h axis) *ℤ scale) ((at high axis -ℤ extent r h axis) *ℤ scale) (g axis k))
    (λ k. both_decided _ _ (most_decided _ (g axis k)) (most_decided (g axis k) _)))))

-- a region that is there
same_region : (region other : Region) → Some region ≡ Some other → region ≡ other
same_region region other is = cc

there_decided : (r h : ℕ) (g : ℕ → ℕ → ℤ) (scale : ℤ) (region : Region) → Is (IsKept r h region g scale) → Is ((other : Region) → Some region ≡ Some other → IsKept r h other g scale)
there_decided r h g scale region (inl kept) = inl (λ other is. subst (λ (it : Region). IsKept r h it g scale) (same_region region other is) kept)
there_decided r h g scale region (inr fails) = inr (λ all. fails (all region refl))

in_decided : (r h : ℕ) (g : ℕ → ℕ → ℤ) (scale : ℤ) (o : Option Region) → Is ((region : Region) → o ≡ Some region → IsKept r h region g scale)
in_decided r h g scale None = inl (λ region is. absurd (cc))
in_decided r h g scale (Some region) = there_decided r h g scale region (kept_decided r h region g scale)

part_decided : (c : Raised) (r h depth : ℕ) (regions : List Region) (s : Spot) → Is (KeptAt c r h depth regions s)
part_decided c r h depth regions s = in_decided r h (part_of (curves_at c s.drone s.cue) depth s.index) (pos (5040 * 2 ^ (7 * depth))) (slice_get regions s.region)

-- ---- all parts

abbrev spot : ℕ → ℕ → ℕ → ℕ → Spot
spot region drone cue index = record { region = region; drone = drone; cue = cue; index = index }

abbrev PartKept : Raised → ℕ → ℕ → ℕ → List Region → ℕ → ℕ → ℕ → ℕ → Type 0
PartKept c r h depth regions region drone cue index = KeptAt c r h depth regions (spot region drone cue index)

abbrev CueKept : Raised → ℕ → ℕ → ℕ → List Region → ℕ → ℕ → ℕ → Type 0
CueKept c r h depth regions region drone cue = (index : ℕ) → index < 2 ^ depth → PartKept c r h depth regions region drone cue index

abbrev DroneKept : Raised → ℕ → ℕ → ℕ → List Region → ℕ → ℕ → Type 0
DroneKept c r h depth regions region drone = (cue : ℕ) → cue < c.cues → CueKept c r h depth regions region drone cue

abbrev RegionKept : Raised → ℕ → ℕ → ℕ → List Region → ℕ → Type 0
RegionKept c r h depth regions region = (drone : ℕ) → drone < c.drones → DroneKept c r h depth regions region drone

cue_decided : (c : Raised) (r h depth : ℕ) (regions : List Region) (region drone cue : ℕ) → Is (CueKept c r h depth regions region drone cue)
cue_decided c r h depth regions region drone cue =
    all_decided (2 ^ depth) (PartKept c r h depth regions region drone cue) (λ index. part_decided c r h depth regions (spot region drone cue index))

drone_decided : (c : Raised) (r h depth : ℕ) (regions : List Region) (region drone : ℕ) → Is (DroneKept c r h depth regions region drone)
drone_decided c r h depth regions region drone =
    all_decided c.cues (CueKept c r h depth regions region drone) (λ cue. cue_decided c r h depth regions region drone cue)

region_decided : (c : Raised) (r h depth : ℕ) (regions : List Region) (region : ℕ) → Is (RegionKept c r h depth regions region)
region_decided c r h depth regions region =
    all_decided c.drones (DroneKept c r h depth regions region) (λ drone. drone_decided c r h depth regions region drone)

-- a part of a region, a drone, a cue, where those before it are kept
entered : (c : Raised) (r h depth : ℕ) (regions : List Region) (a : First (length regions) (RegionKept c r h depth regions)) (b : First c.drones (DroneKept c r h depth regions a.where_is))
    (u : First c.cues (CueKept c r h depth regions a.where_is b.where_is)) (i : First (2 ^ depth) (PartKept c r h depth regions a.where_is b.where_is u.where_is)) →
    JudgeGives c r h depth regions (Enters a.where_is b.where_is u.where_is i.where_is)
entered c r h depth regions a b u i = grind (arith, common_steps, spot)

-- drones are judged in some way
pub judge_some : (c : Raised) (r h depth : ℕ) (regions : List Region) → (j : Judged) × JudgeGives c r h depth regions j
judge_some c r h depth regions = by_region (all_or_first (length regions) (RegionKept c r h depth regions) (λ region. region_decided c r h depth regions region))
  where
    by_part : (a : First (length regions) (RegionKept c r h depth regions)) (b : First c.drones (DroneKept c r h depth regions a.where_is))
        (u : First c.cues (CueKept c r h depth regions a.where_is b.where_is)) →
        ((index : ℕ) → index < 2 ^ depth → PartKept c r h depth regions a.where_is b.where_is u.where_is index) ⊎ First (2 ^ depth) (PartKept c r h depth regions a.where_is b.where_is u.where_is) →
        (j : Judged) × JudgeGives c r h depth regions j
    by_part a b u (inl all) = absurd (u.fails all)
    by_part a b u (inr i) = (Enters a.where_is b.where_is u.where_is i.where_is, entered c r h depth regions a b u i)

    by_cue : (a : First (length regions) (RegionKept c r h depth regions)) (b : First c.drones (DroneKept c r h depth regions a.where_is)) →
        ((cue : ℕ) → cue < c.cues → CueKept c r h depth regions a.where_is b.where_is cue) ⊎ First c.cues (CueKept c r h depth regions a.where_is b.where_is) →
        (j : Judged) × JudgeGives c r h depth regions j
    by_cue a b (inl all) = absurd (b.fails all)
    by_cue a b (inr u) =
        by_part a b u (all_or_first (2 ^ depth) (PartKept c r h depth regions a.where_is b.where_is u.where_is)
        (λ index. part_decided c r h depth regions (spot a.where_is b.where_is u.where_is index)))

    by_drone : (a : First (length regions) (RegionKept c r h depth regions)) →
        ((drone : ℕ) → drone < c.drones → DroneKept c r h depth regions a.where_is drone) ⊎ First c.drones (DroneKept c r h depth regions a.where_is) →
        (j : Judged) × JudgeGives c r h depth regions j
    by_drone a (inl all) = absurd (a.fails all)
    by_drone a (inr b) =
        by_cue a b (all_or_first c.cues (CueKept c r h depth regions a.where_is b.where_is) (λ cue. cue_decided c r h depth regions a.where_is b.where_is cue))

    by_region : ((region : ℕ) → region < length regions → RegionKept c r h depth regions region) ⊎ First (length regions) (RegionKept c r h depth regions) → (j : Judged) × JudgeGives c r h depth regions j
    by_region (inl all) = (Kept, λ s is. all s.region is.has_region s.drone is.has_drone s.cue is.has_cue s.index is.has_part)
    by_region (inr a) =
        by_drone a (all_or_first c.drones (DroneKept c r h depth regions a.where_is) (λ drone. drone_decided c r h depth regions a.where_is drone))
