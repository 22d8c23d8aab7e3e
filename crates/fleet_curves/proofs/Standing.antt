-- The curves that are made of trajectories stand for them: each is the raised curve of its control points.
use Rattle.fleet_curves.proofs.Prelude.{common_steps, ◌≡◌, ℕ, zero, suc, ◌+◌, ◌*◌, ◌≤◌, ◌<◌, ℤ, arith, refl, sym, ◌∙◌, ap, subst, List, [], ◌∷◌, length, get_or, map, All, Some, slice_get, flat_map, get_or-append-add, All-head, All-tail, at, Bez, controls, raised, Segment, Traj, stored, durations, element_on, piece_on, points, value_after, Raised, AreOneShow, CurvesStandFor, curves_at, raised_in, raised_from, raised_traj, IsFormed}
use Rattle.whole_numbers.specs.Decoded.{points_from}
use Rattle.std.proofs.Math.ListN.{get_or-append}

-- there are as many durations as segments
pub length-durations : (segments : List Segment) → length (durations segments) ≡ length segments
length-durations [] = refl
length-durations (s ∷ rest) = ap suc (length-durations rest)

-- one of three values, by the axis
abbrev pick : ℤ → ℤ → ℤ → ℕ → ℤ
pick x y z zero = x
pick x y z (suc zero) = y
pick x y z (suc (suc k)) = z

-- the raised curves of a trajectory are those of its points
raised_from-points : (segments : List Segment) (x y z : ℤ) (cue axis : ℕ) → cue < length segments → axis ≤ 2 →
    controls (get_or (raised_from x y z segments) cue []) axis ≡ raised (get_or (points_from (pick x y z axis) (map (piece_on axis) segments)) cue [])
raised_from-points [] x y z cue axis inside near = absurd (omega arith)
raised_from-points (s ∷ rest) x y z zero zero inside near = refl
raised_from-points (s ∷ rest) x y z zero (suc zero) inside near = refl
raised_from-points (s ∷ rest) x y z zero (suc (suc zero)) inside near = refl
raised_from-points (s ∷ rest) x y z zero (suc (suc (suc k))) inside near = absurd (omega arith)
raised_from-points (s ∷ rest) x y z (suc cue) zero inside near =
    raised_from-points rest (value_after x (element_on s 0)) (value_after y (element_on s 1)) (value_after z (element_on s 2)) cue 0 (omega arith) (omega arith)
raised_from-points (s ∷ rest) x y z (suc cue) (suc zero) inside near =
    raised_from-points rest (value_after x (element_on s 0)) (value_after y (element_on s 1)) (value_after z (element_on s 2)) cue 1 (omega arith) (omega arith)
raised_from-points (s ∷ rest) x y z (suc cue) (suc (suc zero)) inside near =
    raised_from-points rest (value_after x (element_on s 0)) (value_after y (element_on s 1)) (value_after z (element_on s 2)) cue 2 (omega arith) (omega arith)
raised_from-points (s ∷ rest) x y z (suc cue) (suc (suc (suc k))) inside near = absurd (omega arith)

-- three curves with the control values of a cue are its raised curves
raised_from-three : (segments : List Segment) (x y z : ℤ) (cue : ℕ) → cue < length segments →
    get_or (raised_from x y z segments) cue []
    ≡ record { b = controls (get_or (raised_from x y z segments) cue []) 0 } ∷ record { b = controls (get_or (raised_from x y z segments) cue []) 1 }
    ∷ record { b = controls (get_or (raised_from x y z segments) cue []) 2 } ∷ []
raised_from-three [] x y z cue inside = absurd (omega arith)
raised_from-three (s ∷ rest) x y z zero inside = refl
raised_from-three (s ∷ rest) x y z (suc cue) inside =
    raised_from-three rest (value_after x (element_on s 0)) (value_after y (element_on s 1)) (value_after z (element_on s 2)) cue (omega arith)

same_three : {x y z u v w : List ℤ} → x ≡ u → y ≡ v → z ≡ w →
    ◌≡◌ {A = List (Bez 8)} (record { b = x } ∷ record { b = y } ∷ record { b = z } ∷ []) (record { b = u } ∷ record { b = v } ∷ record { b = w } ∷ [])
same_three {x} {y} {z} {u} {v} {w} p q r =
    ap (λ (b : List ℤ). record { b = b } ∷ record { b = y } ∷ record { b = z } ∷ []) p ∙ ap (λ (b : List ℤ). record { b = u } ∷ record { b = b } ∷ record { b = z } ∷ []) q
    ∙ ap (λ (b : List ℤ). record { b = u } ∷ record { b = v } ∷ record { b = b } ∷ []) r

-- the curves of a trajectory in a cue
raised_cue : (t : Traj) (cue : ℕ) → cue < length t.segments → get_or (raised_traj t) cue [] ≡ raised_in t cue
raised_cue t cue inside = grind (arith, common_steps, raised_from-three, same_three, raised_from-points)

pub length-raised_from : (segments : List Segment) (x y z : ℤ) → length (raised_from x y z segments) ≡ length segments
length-raised_from [] x y z = refl
length-raised_from (s ∷ rest) x y z = ap suc (length-raised_from rest (value_after x (element_on s 0)) (value_after y (element_on s 1)) (value_after z (element_on s 2)))

-- a curve has at most eight points, and at least one
few_points : (segments : List Segment) (first : ℤ) (axis cue : ℕ) → cue < length segments → axis ≤ 2 → All IsFormed segments →
    length (get_or (points_from first (map (piece_on axis) segments)) cue []) ≤ 8
few_points [] first axis cue inside near formed = absurd (omega arith)
few_points (s ∷ rest) first axis zero inside near formed = let few : length (stored (element_on s axis)) ≤ 7 = All-head IsFormed s rest formed axis near in omega arith
few_points (s ∷ rest) first axis (suc cue) inside near formed = few_points rest (value_after first (element_on s axis)) axis cue (omega arith) near (All-tail IsFormed s rest formed)

some_points : (segments : List Segment) (first : ℤ) (axis cue : ℕ) → cue < length segments → 1 ≤ length (get_or (points_from first (map (piece_on axis) segments)) cue [])
some_points [] first axis cue inside = absurd (omega arith)
some_points (s ∷ rest) first axis zero inside = omega arith
some_points (s ∷ rest) first axis (suc cue) inside = some_points rest (value_after first (element_on s axis)) axis cue (omega arith)

-- a trajectory has some control points in each of its cues
pub has_points : (t : Traj) (cue axis : ℕ) → cue < length t.segments → 1 ≤ length (points t cue axis)
has_points t cue axis inside = some_points t.segments (at t.start axis) axis cue inside

-- ---- the curves of a drone stand in their place
flat_at : {A B : Type 0} (f : A → List B) (xs : List A) (n i k : ℕ) (x : A) (d : B) → All (λ y. length (f y) ≡ n) xs → slice_get xs i ≡ Some x → k < n →
    get_or (flat_map f xs) (i * n + k) d ≡ get_or (f x) k d
flat_at f [] n i k x d lengths is small = absurd (cc)
flat_at {A} {B} f (y ∷ xs) n zero k x d lengths is small =
    let e : 0 * n + k ≡ k = omega arith in
    let len : length (f y) ≡ n = All-head (λ (y : A). length (f y) ≡ n) y xs lengths in
    let y_is : y ≡ x = cc in
    let inside : k < length (f y) = omega arith in
    rw e (get_or-append (f y) (flat_map f xs) d k inside ∙ ap (λ (z : A). get_or (f z) k d) y_is)
flat_at {A} {B} f (y ∷ xs) n (suc i) k x d lengths is small =
    let len : length (f y) ≡ n = All-head (λ (y : A). length (f y) ≡ n) y xs lengths in
    let e : suc i * n + k ≡ length (f y) + (i * n + k) = omega arith in
    rw e (get_or-append-add (f y) (flat_map f xs) (i * n + k) d ∙ flat_at f xs n i k x d (All-tail (λ (y : A). length (f y) ≡ n) y xs lengths) is small)

-- what holds of all holds of the one at a place
pub at_place : {A : Type 0} (P : A → Type 0) (xs : List A) (i : ℕ) (x : A) → All P xs → slice_get xs i ≡ Some x → P x
at_place P [] i x all is = absurd (cc)
at_place {A} P (y ∷ xs) zero x all is = let y_is : y ≡ x = cc in subst P y_is (All-head P y xs all)
at_place P (y ∷ xs) (suc i) x all is = at_place P xs i x (All-tail P y xs all) is

-- what stands at a place is found there, and nothing else
pub item_there : {A : Type 0} (xs : List A) (k : ℕ) (x : A) → x ≡ get_or xs k x → k < length xs → slice_get xs k ≡ Some x
item_there [] k x told inside = absurd (omega arith)
item_there (y ∷ xs) zero x told inside = ap (λ z. Some z) (sym told)
item_there (y ∷ xs) (suc k) x told inside = item_there xs k x told (omega arith)

pub same_item : {A : Type 0} (xs : List A) (k : ℕ) (t x : A) → slice_get xs k ≡ Some t → x ≡ get_or xs k x → t ≡ x
same_item [] k t x is told = absurd (cc)
same_item (y ∷ xs) zero t x is told = cc
same_item (y ∷ xs) (suc k) t x is told = same_item xs k t x is told

pub fleet_lengths : (trajs : List Traj) (times : List ℕ) → All (λ (t : Traj). durations t.segments ≡ times) trajs → All (λ (t : Traj). length (raised_traj t) ≡ length times) trajs
fleet_lengths trajs times same = grind (arith, common_steps, length-raised_from, length-durations)

-- a trajectory of the show has as many segments as the show has cues
pub segments_of : (t : Traj) (times : List ℕ) → durations t.segments ≡ times → length t.segments ≡ length times
segments_of t times is = sym (length-durations t.segments) ∙ ap (λ (ns : List ℕ). length ns) is

-- The curves that are made trajectory by trajectory stand for the trajectories.
pub stands : (c : Raised) (trajs : List Traj) (times : List ℕ) → AreOneShow times trajs → All (λ (t : Traj). All IsFormed t.segments) trajs →
    c.drones ≡ length trajs → c.cues ≡ length times → c.curves ≡ flat_map raised_traj trajs → CurvesStandFor c trajs
stands c trajs times show formed drones cues curves = record {
  times = times;
  one_show = show;
  few_points = λ i d inside cue axis small near.
      few_points (get_or trajs i d).segments (at (get_or trajs i d).start axis) axis cue (omega (arith, segments_of (get_or trajs i d) times (show.same_times i d inside), small)) near (formed i d inside);
  drones = drones;
  cues = cues;
  curves = λ drone cue t is inside. one drone cue t is inside;
}
  where
    one : (drone cue : ℕ) (t : Traj) → slice_get trajs drone ≡ Some t → cue < length times → curves_at c drone cue ≡ raised_in t cue
    one drone cue t is inside =
        rw (curves, cues) (flat_at raised_traj trajs (length times) drone cue t [] (fleet_lengths trajs times show.same_times) is inside)
        ∙ raised_cue t cue (omega (arith, segments_of t times (at_place (λ (t : Traj). durations t.segments ≡ times) trajs drone t show.same_times is), inside))
