-- The raised curves of a list of trajectories, one after the other.
use Rattle.fleet_curves.proofs.Prelude.{◌≡◌, ℕ, suc, ◌+◌, ◌*◌, ◌<◌, ◌≤◌, ℤ, arith, sym, subst, ◌∙◌, ap, List, [], ◌∷◌, ◌++◌, append_assoc, append-nil, length, length-append, drop, take, get_or, All, flat_map, take_more, All-head, All-tail, All-append, All-cons, Bez, Segment, element_on, value_after, flat_map-append, common_steps, Traj, AreOneShow, raised_element, raised_from, raised_traj, cues_in, AreHeld, AreSmallCurves}
use Rattle.std.proofs.Math.Seq.{drop-cons}
use Rattle.fleet_curves.proofs.Standing.{length-durations, fleet_lengths}

all_one : {X : Type 0} (P : X → Type 0) (x : X) → P x → All P (x ∷ [])
all_one P x p = All-cons P x [] p (λ k d inside. absurd (omega arith))

-- what holds of a front and of the next element holds of the longer front
pub all_more : {X : Type 0} (P : X → Type 0) (xs : List X) (i : ℕ) (d : X) → i < length xs → All P (take i xs) → P (get_or xs i d) → All P (take (i + 1) xs)
all_more {X} P xs i d inside front here =
    subst (λ (ys : List X). All P ys) (sym (take_more xs i d inside)) (All-append P (take i xs) (get_or xs i d ∷ []) front (all_one P (get_or xs i d) here))

pub all_push : {X : Type 0} (P : X → Type 0) (xs ys : List X) (x : X) → ys ≡ xs ++ x ∷ [] → All P xs → P x → All P ys
all_push {X} P xs ys x is all here = subst (λ (zs : List X). All P zs) (sym is) (All-append P xs (x ∷ []) all (all_one P x here))

-- one segment more
pub next_curves : (old new : List (List (Bez 8))) (value : List (Bez 8)) (segments : List Segment) (i : ℕ) (d : Segment) (x y z x' y' z' : ℤ) (whole : List (List (Bez 8))) →
    i < length segments → new ≡ old ++ value ∷ [] →
    value ≡ (raised_element x (element_on (get_or segments i d) 0) ∷ raised_element y (element_on (get_or segments i d) 1) ∷ raised_element z (element_on (get_or segments i d) 2) ∷ []) →
    x' ≡ value_after x (element_on (get_or segments i d) 0) → y' ≡ value_after y (element_on (get_or segments i d) 1) → z' ≡ value_after z (element_on (get_or segments i d) 2) →
    old ++ raised_from x y z (drop i segments) ≡ whole → new ++ raised_from x' y' z' (drop (i + 1) segments) ≡ whole
next_curves old new value segments i d x y z x' y' z' whole inside new_is value_is x_is y_is z_is same =
    let up : i + 1 ≡ suc i = omega arith in
    rw (up, new_is, x_is, y_is, z_is)
    (append_assoc old (value ∷ []) (raised_from (value_after x (element_on (get_or segments i d) 0)) (value_after y (element_on (get_or segments i d) 1)) (value_after z (element_on (get_or segments i d) 2)) (drop (suc i) segments))
    ∙ ap (λ (v : List (Bez 8)). old ++ (v ∷ raised_from (value_after x (element_on (get_or segments i d) 0)) (value_after y (element_on (get_or segments i d) 1)) (value_after z (element_on (get_or segments i d) 2)) (drop (suc i) segments))) value_is
    ∙ ap (λ (ss : List Segment). old ++ raised_from x y z ss) (sym (drop-cons segments i d inside)) ∙ same)

pub length-fleet : {A B : Type 0} (f : A → List B) (xs : List A) (n : ℕ) → All (λ y. length (f y) ≡ n) xs → length (flat_map f xs) ≡ length xs * n
length-fleet f [] n lengths = omega arith
length-fleet {A} f (x ∷ xs) n lengths =
    let rest : length (flat_map f xs) ≡ length xs * n = length-fleet f xs n (All-tail (λ (y : A). length (f y) ≡ n) x xs lengths) in
    let here : length (f x) ≡ n = All-head (λ (y : A). length (f y) ≡ n) x xs lengths in
    omega (arith, length-append (f x) (flat_map f xs))

-- one trajectory more
pub fleet_more : {A B : Type 0} (f : A → List B) (xs : List A) (i : ℕ) (x : A) (old new : List B) → i < length xs → x ≡ get_or xs i x → old ≡ flat_map f (take i xs) → new ≡ old ++ f x → new ≡ flat_map f (take (i + 1) xs)
fleet_more {A} {B} f xs i x old new inside x_is old_is new_is = grind (arith, common_steps, take_more, flat_map-append, take, append-nil)

pub fleet_held : (trajs : List Traj) (times : List ℕ) (drones cues : ℕ) (curves : List (List (Bez 8))) → AreOneShow times trajs → drones ≡ length trajs → cues ≡ length times →
    curves ≡ flat_map raised_traj trajs → All AreSmallCurves curves → AreHeld (record { drones = drones; cues = cues; curves = curves })
fleet_held trajs times drones cues curves show drones_is cues_is curves_is small = grind (arith, common_steps, length-fleet, fleet_lengths)

-- the first trajectory has as many segments as each
pub first_cues : (trajs : List Traj) (times : List ℕ) (t : Traj) (segments : List Segment) → AreOneShow times trajs → t ≡ get_or trajs 0 t → segments ≡ t.segments → length segments ≡ length times
first_cues trajs times t segments show t_is segments_is = grind (arith, common_steps, length-durations)

-- the first trajectory has as many segments as a fleet has cues
pub first_cues_in : (trajs : List Traj) (t : Traj) (segments : List Segment) → 1 ≤ length trajs → t ≡ get_or trajs 0 t → segments ≡ t.segments → length segments ≡ cues_in trajs
first_cues_in [] t segments some t_is segments_is = absurd (omega (arith, some))
first_cues_in (u ∷ us) t segments some t_is segments_is = ap (λ (ss : List Segment). length ss) (segments_is ∙ ap (λ (v : Traj). v.segments) t_is)
