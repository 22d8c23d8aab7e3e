-- What `boxes` and `explain` say of a show is one thing alone.
use Rattle.show_studies.proofs.Prelude.{common_steps, ◌≡◌, ◌⊎◌, inl, inr, ℕ, zero, suc, ◌+◌, ◌<◌, ◌≤◌, ℤ, pos, ◌*ℤ◌, ◌≤ℤ◌, ◌<ℤ◌, List, [], length, get_or, Option, Some, None, Result, Ok, refl, sym, ap, subst, ◌∙◌, arith, MatchOption, slice_get, ints, PlainShow, Judged, Kept, Enters, Region, IsFirstEntry, JudgeGives, Spot, Refusal, Raised, DisjointAt, IsBefore, IsClosest, IsFirstTouch, IsListed, LeftAbove, LeftFrom, LeftIs, NoTouch, TouchAt, left_of, listed, right_of, site_of, Traj, Outcome, RegionsGive, Cut, Closest, Touch}
use Rattle.std.proofs.lemmas.Option.{slice_get-get_or}
use Rattle.whole_numbers.proofs.RingLemmas.{le_mul_ℤ, mul_comm_ℤ}
use Rattle.keepout_boxes.specs.Kept.{IsBefore as Precedes}

-- ---- orders

-- one number is below another, equal to it or above it
pub compared : (m n : ℕ) → (m < n) ⊎ ((m ≡ n) ⊎ (n < m))
compared zero zero = inr (inl refl)
compared zero (suc n) = inl (omega arith)
compared (suc m) zero = inr (inr (omega arith))
compared (suc m) (suc n) = both (compared m n)
  where
    both : (m < n) ⊎ ((m ≡ n) ⊎ (n < m)) → (suc m < suc n) ⊎ ((suc m ≡ suc n) ⊎ (suc n < suc m))
    both (inl below) = inl (omega (arith, below))
    both (inr (inl same)) = inr (inl (ap suc same))
    both (inr (inr above)) = inr (inr (omega (arith, above)))

-- the order of two numbers and then of what follows them
then_compared : {B E A : Type 0} (m n : ℕ) → (m < n) ⊎ ((m ≡ n) ⊎ (n < m)) → B ⊎ (E ⊎ A) →
    ((m < n) ⊎ ((m ≡ n) × B)) ⊎ (((m ≡ n) × E) ⊎ ((n < m) ⊎ ((n ≡ m) × A)))
then_compared m n (inl below) rest = inl (inl below)
then_compared m n (inr (inl same)) (inl before) = inl (inr (same, before))
then_compared m n (inr (inl same)) (inr (inl equal)) = inr (inl (same, equal))
then_compared m n (inr (inl same)) (inr (inr after)) = inr (inr (inr (sym same, after)))
then_compared m n (inr (inr above)) rest = inr (inr (inl above))

-- ---- regions

spots_compared : (s t : Spot) → Precedes s t ⊎ (((s.region ≡ t.region) × ((s.drone ≡ t.drone) × ((s.cue ≡ t.cue) × (s.index ≡ t.index)))) ⊎ Precedes t s)
spots_compared s t = grind (arith, common_steps, then_compared, compared)

-- there is one first part that isn't kept
entry_one : (c : Raised) (r h depth : ℕ) (regions : List Region) (s t : Spot) → IsFirstEntry c r h depth regions s → IsFirstEntry c r h depth regions t →
    (s.region ≡ t.region) × ((s.drone ≡ t.drone) × ((s.cue ≡ t.cue) × (s.index ≡ t.index)))
entry_one c r h depth regions s t first second = by_order (spots_compared s t)
  where
    by_order : Precedes s t ⊎ (((s.region ≡ t.region) × ((s.drone ≡ t.drone) × ((s.cue ≡ t.cue) × (s.index ≡ t.index)))) ⊎ Precedes t s) →
        (s.region ≡ t.region) × ((s.drone ≡ t.drone) × ((s.cue ≡ t.cue) × (s.index ≡ t.index)))
    by_order (inl before) = absurd (first.enters (second.kept_before s first.spot before))
    by_order (inr (inl same)) = same
    by_order (inr (inr before)) = absurd (second.enters (first.kept_before t second.spot before))

same_enters : (r d c i r2 d2 c2 i2 : ℕ) → (r ≡ r2) × ((d ≡ d2) × ((c ≡ c2) × (i ≡ i2))) → Enters r d c i ≡ Enters r2 d2 c2 i2
same_enters r d c i r2 d2 c2 i2 (one, (two, (three, four))) = cc

-- drones are judged in one way
pub judge_one : (c : Raised) (r h depth : ℕ) (regions : List Region) (j k : Judged) → JudgeGives c r h depth regions j → JudgeGives c r h depth regions k → j ≡ k
judge_one c r h depth regions Kept Kept first second = refl
judge_one c r h depth regions Kept (Enters region drone cue index) first second = absurd (second.enters (first _ second.spot))
judge_one c r h depth regions (Enters region drone cue index) Kept first second = absurd (first.enters (second _ first.spot))
judge_one c r h depth regions (Enters region drone cue index) (Enters region2 drone2 cue2 index2) first second =
    same_enters region drone cue index region2 drone2 cue2 index2
    (entry_one c r h depth regions (record { region = region; drone = drone; cue = cue; index = index }) (record { region = region2; drone = drone2; cue = cue2; index = index2 }) first second)

-- a text says one list of regions
pub regions_given_one : (given : Result (List Region) ℕ) (regions others : List Region) → given ≡ Ok regions → given ≡ Ok others → regions ≡ others
regions_given_one given regions others first second = cc

-- a text of regions gives one outcome
pub regions_one : (refused : Option Refusal) (s : PlainShow) (depth : ℕ) (cut : Cut) (o p : Outcome) → RegionsGive refused s depth cut o → RegionsGive refused s depth cut p → o ≡ p
regions_one (Some r) s depth cut o p first second = first ∙ sym second
regions_one None s depth cut o p (regions, j, reads, judges, ends) (others, k, reads_others, judges_others, ends_others) =
    grind (arith, common_steps, regions_given_one, judge_one)

-- ---- the first touch

pub sites_compared : (s t : Touch) → IsBefore s t ⊎ (((s.cue ≡ t.cue) × ((s.at ≡ t.at) × ((s.a ≡ t.a) × (s.b ≡ t.b)))) ⊎ IsBefore t s)
sites_compared s t = grind (arith, common_steps, then_compared, compared)

abbrev site : ℕ → ℕ → ℕ → ℕ → Touch
site cue at a b = record { cue = cue; at = at; a = a; b = b }

pub same_site : (s t : Touch) → (s.cue ≡ t.cue) × ((s.at ≡ t.at) × ((s.a ≡ t.a) × (s.b ≡ t.b))) → s ≡ t
same_site s t (cue, (at, (a, b))) =
    ap (λ (n : ℕ). site n s.at s.a s.b) cue ∙ ap (λ (n : ℕ). site t.cue n s.a s.b) at ∙ ap (λ (n : ℕ). site t.cue t.at n s.b) a ∙ ap (site t.cue t.at t.a) b

no_traj : Traj
no_traj = record { start = []; segments = [] }

-- the two drones of a listed pair
first_of : (trajs : List Traj) (fine : ℕ) (s : Touch) → IsListed trajs fine s → slice_get trajs s.a ≡ Some (get_or trajs s.a no_traj)
first_of trajs fine s is = slice_get-get_or trajs s.a no_traj (omega (arith, is.pair, is.drone))

second_of : (trajs : List Traj) (fine : ℕ) (s : Touch) → IsListed trajs fine s → slice_get trajs s.b ≡ Some (get_or trajs s.b no_traj)
second_of trajs fine s is = slice_get-get_or trajs s.b no_traj is.drone

-- no two drones both touch and are disjoint
never_both : (trajs : List Traj) (r h fine : ℕ) (s : Touch) → IsListed trajs fine s → TouchAt trajs r h fine s → DisjointAt trajs r h fine s → ⊥
never_both trajs r h fine s is touches disjoint =
    (touches _ _ (first_of trajs fine s is) (second_of trajs fine s is)).0 (disjoint _ _ (first_of trajs fine s is) (second_of trajs fine s is))

touch_one : (trajs : List Traj) (r h fine : ℕ) (s t : Touch) → IsFirstTouch trajs r h fine s → IsFirstTouch trajs r h fine t → s ≡ t
touch_one trajs r h fine s t first second = by_order (sites_compared s t)
  where
    by_order : IsBefore s t ⊎ (((s.cue ≡ t.cue) × ((s.at ≡ t.at) × ((s.a ≡ t.a) × (s.b ≡ t.b)))) ⊎ IsBefore t s) → s ≡ t
    by_order (inl before) = absurd (never_both trajs r h fine s first.listed first.touches (second.none_before s first.listed before))
    by_order (inr (inl same)) = same_site s t same
    by_order (inr (inr before)) = absurd (never_both trajs r h fine t second.listed second.touches (first.none_before t second.listed before))

pub touches_one : (trajs : List Traj) (r h fine : ℕ) (a b : Option Touch) → MatchOption a (NoTouch trajs r h fine) (IsFirstTouch trajs r h fine) →
    MatchOption b (NoTouch trajs r h fine) (IsFirstTouch trajs r h fine) → a ≡ b
touches_one trajs r h fine None None first second = refl
touches_one trajs r h fine None (Some t) first second = absurd (never_both trajs r h fine t second.listed second.touches (first t second.listed))
touches_one trajs r h fine (Some s) None first second = absurd (never_both trajs r h fine s first.listed first.touches (second s first.listed))
touches_one trajs r h fine (Some s) (Some t) first second = ap Some (touch_one trajs r h fine s t first second)

-- ---- the closest

-- a number of wholes is at most another, where it is so of what they hold
not_above : (c d : ℕ) (x right : ℤ) → pos 0 ≤ℤ right → (pos c *ℤ right) ≤ℤ x → x <ℤ (pos (d + 1) *ℤ right) → c ≤ d
not_above c d x right positive low high = grind (arith, common_steps, ints, compared, pos, le_mul_ℤ, mul_comm_ℤ)

positive_by : (c : ℕ) (x right : ℤ) → (pos c *ℤ right) ≤ℤ x → x <ℤ (pos (c + 1) *ℤ right) → pos 0 ≤ℤ right
positive_by c x right low high = omega (arith, ints, low, high)

pub level_one : (c d : ℕ) (x right : ℤ) → (pos c *ℤ right) ≤ℤ x → x <ℤ (pos (c + 1) *ℤ right) → (pos d *ℤ right) ≤ℤ x → x <ℤ (pos (d + 1) *ℤ right) → c ≡ d
level_one c d x right c_low c_high d_low d_high = grind (arith, common_steps, pos, positive_by, not_above)

-- of two that are closest, neither left side is below the other
left_at : (trajs : List Traj) (r h fine : ℕ) (s : Touch) (x : ℤ) → IsListed trajs fine s → LeftIs trajs r h fine s x →
    x ≡ left_of (get_or trajs s.a no_traj) (get_or trajs s.b no_traj) r h (listed fine s.cue s.at)
left_at trajs r h fine s x is left = left _ _ (first_of trajs fine s is) (second_of trajs fine s is)

pub left_least : (trajs : List Traj) (r h fine : ℕ) (s : Touch) (x y : ℤ) → IsListed trajs fine s → LeftIs trajs r h fine s x → LeftFrom trajs r h fine s y → y ≤ℤ x
left_least trajs r h fine s x y is left least =
    subst (λ (z : ℤ). y ≤ℤ z) (sym (left_at trajs r h fine s x is left)) (least _ _ (first_of trajs fine s is) (second_of trajs fine s is))

pub left_above : (trajs : List Traj) (r h fine : ℕ) (s : Touch) (x y : ℤ) → IsListed trajs fine s → LeftIs trajs r h fine s x → LeftAbove trajs r h fine s y → y <ℤ x
left_above trajs r h fine s x y is left above =
    subst (λ (z : ℤ). y <ℤ z) (sym (left_at trajs r h fine s x is left)) (above _ _ (first_of trajs fine s is) (second_of trajs fine s is))

closest_site : (trajs : List Traj) (r h fine : ℕ) (c d : Closest) → IsClosest trajs r h fine c → IsClosest trajs r h fine d → site_of c ≡ site_of d
closest_site trajs r h fine c d first second = by_order (sites_compared (site_of c) (site_of d))
  where
    low : first.left ≤ℤ second.left
    low = left_least trajs r h fine (site_of d) second.left first.left second.among second.is (first.least (site_of d) second.among)

    high : second.left ≤ℤ first.left
    high = left_least trajs r h fine (site_of c) first.left second.left first.among first.is (second.least (site_of c) first.among)

    never : (x y : ℤ) → x <ℤ y → y ≤ℤ x → ⊥
    never x y less most = omega (arith, ints, less, most)

    by_order : IsBefore (site_of c) (site_of d) ⊎ (((c.cue ≡ d.cue) × ((c.at ≡ d.at) × ((c.a ≡ d.a) × (c.b ≡ d.b)))) ⊎ IsBefore (site_of d) (site_of c)) → site_of c ≡ site_of d
    by_order (inl before) = absurd (never second.left first.left (left_above trajs r h fine (site_of c) first.left second.left first.among first.is (second.first (site_of c) first.among before)) low)
    by_order (inr (inl same)) = same_site (site_of c) (site_of d) same
    by_order (inr (inr before)) = absurd (never first.left second.left (left_above trajs r h fine (site_of d) second.left first.left second.among second.is (first.first (site_of d) second.among before)) high)

pub same_ints : (x y : ℤ) → x ≤ℤ y → y ≤ℤ x → x ≡ y
same_ints x y low high = omega (arith, ints, low, high)

abbrev closest_at : Touch → ℕ → Closest
closest_at s level = record { cue = s.cue; at = s.at; a = s.a; b = s.b; level = level }

pub same_closest : (c d : Closest) → site_of c ≡ site_of d → c.level ≡ d.level → c ≡ d
same_closest c d sites level = ap (λ (s : Touch). closest_at s c.level) sites ∙ ap (closest_at (site_of d)) level

closest_one : (trajs : List Traj) (r h fine : ℕ) (c d : Closest) → IsClosest trajs r h fine c → IsClosest trajs r h fine d → c ≡ d
closest_one trajs r h fine c d first second =
    let sites : site_of c ≡ site_of d = closest_site trajs r h fine c d first second in
    let left : first.left ≡ second.left =
    same_ints first.left second.left (left_least trajs r h fine (site_of d) second.left first.left second.among second.is (first.least (site_of d) second.among))
    (left_least trajs r h fine (site_of c) first.left second.left first.among first.is (second.least (site_of c) first.among)) in
    let right : ℤ = right_of r h (listed fine d.cue d.at) in
    let low : (pos c.level *ℤ right) ≤ℤ (pos 1000 *ℤ second.left) =
    subst (λ (x : ℤ). (pos c.level *ℤ right) ≤ℤ (pos 1000 *ℤ x)) left
    (subst (λ (s : Touch). (pos c.level *ℤ right_of r h (listed fine s.cue s.at)) ≤ℤ (pos 1000 *ℤ first.left)) sites first.level) in
    let high : (pos 1000 *ℤ second.left) <ℤ (pos (c.level + 1) *ℤ right) =
    subst (λ (x : ℤ). (pos 1000 *ℤ x) <ℤ (pos (c.level + 1) *ℤ right)) left
    (subst (λ (s : Touch). (pos 1000 *ℤ first.left) <ℤ (pos (c.level + 1) *ℤ right_of r h (listed fine s.cue s.at))) sites first.next_level) in
    same_closest c d sites (level_one c.level d.level (pos 1000 *ℤ second.left) right low high second.level second.next_level)

-- one drone alone is closest to none
alone : (trajs : List Traj) (r h fine : ℕ) (c : Closest) → length trajs ≡ 1 → IsClosest trajs r h fine c → ⊥
alone trajs r h fine c one is = omega (arith, one, is.among.pair, is.among.drone)

pub nearest_one : (trajs : List Traj) (r h fine : ℕ) (a b : Option Closest) → MatchOption a (length trajs ≡ 1) (IsClosest trajs r h fine) →
    MatchOption b (length trajs ≡ 1) (IsClosest trajs r h fine) → a ≡ b
nearest_one trajs r h fine None None first second = refl
nearest_one trajs r h fine None (Some d) first second = absurd (alone trajs r h fine d first second)
nearest_one trajs r h fine (Some c) None first second = absurd (alone trajs r h fine c second first)
nearest_one trajs r h fine (Some c) (Some d) first second = ap Some (closest_one trajs r h fine c d first second)
