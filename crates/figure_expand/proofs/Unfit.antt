-- The first value that does not fit, step by step.
use Rattle.figure_expand.proofs.Prelude.{common_steps, ◌≡◌, ℕ, zero, suc, ◌+◌, ◌<◌, ◌≤◌, Bool, true, false, cond, Some, None, List, [], ◌∷◌, ◌++◌, length, get_or, set, drop, arith, refl, sym, ap, ◌∙◌, Point, Job, AxisValue, Grid, act_of, end_of, DroneLine, Cue, controls, Axis, axes_of, fits, values_on, values_of, point_values, start_values, cue_values, values_from, start_points, first_unfit, points_after, range_fault, drop_more}

-- values that fit are passed over
pub none_before : (xs ys : List AxisValue) → first_unfit xs ≡ None → first_unfit (xs ++ ys) ≡ first_unfit ys
none_before [] ys none = refl
none_before (v ∷ xs) ys none = by_fit (fits v) none (λ rest. none_before xs ys rest)
  where
    by_fit : (b : Bool) → cond b (first_unfit xs) (Some v) ≡ None → (first_unfit xs ≡ None → first_unfit (xs ++ ys) ≡ first_unfit ys) →
        cond b (first_unfit (xs ++ ys)) (Some v) ≡ first_unfit ys
    by_fit true none later = later none
    by_fit false none later = absurd (cc)

-- the first value that does not fit stays the first
pub some_before : (xs ys : List AxisValue) (f : AxisValue) → first_unfit xs ≡ Some f → first_unfit (xs ++ ys) ≡ Some f
some_before [] ys f some = absurd (cc)
some_before (v ∷ xs) ys f some = by_fit (fits v) some (λ rest. some_before xs ys f rest)
  where
    by_fit : (b : Bool) → cond b (first_unfit xs) (Some v) ≡ Some f → (first_unfit xs ≡ Some f → first_unfit (xs ++ ys) ≡ Some f) →
        cond b (first_unfit (xs ++ ys)) (Some v) ≡ Some f
    by_fit true some later = later some
    by_fit false some later = some

-- ---- parts of the values

-- the next axis
pub axes_here : (line axis : ℕ) (curves : List Axis) (other : Axis) (f : AxisValue) → axis < length curves →
    first_unfit (values_on line axis (controls (get_or curves axis other))) ≡ Some f → first_unfit (values_of line axis (drop axis curves)) ≡ Some f
axes_here line axis curves other f within some =
    ap (λ (axes : List Axis). first_unfit (values_of line axis axes)) (drop_more curves axis other within)
    ∙ some_before (values_on line axis (controls (get_or curves axis other))) (values_of line (axis + 1) (drop (axis + 1) curves)) f some

pub axes_later : (line axis : ℕ) (curves : List Axis) (other : Axis) → axis < length curves →
    first_unfit (values_on line axis (controls (get_or curves axis other))) ≡ None → first_unfit (values_of line axis (drop axis curves)) ≡ first_unfit (values_of line (axis + 1) (drop (axis + 1) curves))
axes_later line axis curves other within none =
    ap (λ (axes : List Axis). first_unfit (values_of line axis axes)) (drop_more curves axis other within)
    ∙ none_before (values_on line axis (controls (get_or curves axis other))) (values_of line (axis + 1) (drop (axis + 1) curves)) none

-- the next start
pub start_here : (starts : List DroneLine) (k : ℕ) (s : DroneLine) (f : AxisValue) → k < length starts → s ≡ get_or starts k s →
    first_unfit (point_values s.line s.at) ≡ Some f → first_unfit (start_values (drop k starts)) ≡ Some f
start_here starts k s f within is some =
    ap (λ (rest : List DroneLine). first_unfit (start_values rest)) (drop_more starts k s within ∙ ap (λ (here : DroneLine). here ∷ drop (k + 1) starts) (sym is))
    ∙ some_before (point_values s.line s.at) (start_values (drop (k + 1) starts)) f some

-- the values of the drones from the next one on
next_drone : (points : List Point) (jobs : List Job) (d : ℕ) (p : Point) (j : Job) → d < length points → d < length jobs →
    cue_values (drop d points) (drop d jobs)
    ≡ values_of (get_or jobs d j).line 0 (axes_of (get_or points d p) (act_of (get_or jobs d j))) ++ cue_values (drop (d + 1) points) (drop (d + 1) jobs)
next_drone points jobs d p j within also =
    ap (λ (rest : List Point). cue_values rest (drop d jobs)) (drop_more points d p within)
    ∙ ap (λ (rest : List Job). cue_values (get_or points d p ∷ drop (d + 1) points) rest) (drop_more jobs d j also)

pub drone_here : (points : List Point) (jobs : List Job) (d : ℕ) (p : Point) (j : Job) (f : AxisValue) → d < length points → d < length jobs →
    first_unfit (values_of (get_or jobs d j).line 0 (axes_of (get_or points d p) (act_of (get_or jobs d j)))) ≡ Some f → first_unfit (cue_values (drop d points) (drop d jobs)) ≡ Some f
drone_here points jobs d p j f within also some =
    ap first_unfit (next_drone points jobs d p j within also)
    ∙ some_before (values_of (get_or jobs d j).line 0 (axes_of (get_or points d p) (act_of (get_or jobs d j)))) (cue_values (drop (d + 1) points) (drop (d + 1) jobs)) f some

pub drone_later : (points : List Point) (jobs : List Job) (d : ℕ) (p : Point) (j : Job) → d < length points → d < length jobs →
    first_unfit (values_of (get_or jobs d j).line 0 (axes_of (get_or points d p) (act_of (get_or jobs d j)))) ≡ None →
    first_unfit (cue_values (drop d points) (drop d jobs)) ≡ first_unfit (cue_values (drop (d + 1) points) (drop (d + 1) jobs))
drone_later points jobs d p j within also none =
    ap first_unfit (next_drone points jobs d p j within also)
    ∙ none_before (values_of (get_or jobs d j).line 0 (axes_of (get_or points d p) (act_of (get_or jobs d j)))) (cue_values (drop (d + 1) points) (drop (d + 1) jobs)) none

-- the values of the cues from the next one on
next_cue : (points : List Point) (cues : List Cue) (k : ℕ) (cue : Cue) → k < length cues → cue ≡ get_or cues k cue →
    values_from points (drop k cues) ≡ cue_values points cue.jobs ++ values_from (points_after points cue.jobs) (drop (k + 1) cues)
next_cue points cues k cue within is =
    ap (values_from points) (drop_more cues k cue within ∙ ap (λ (here : Cue). here ∷ drop (k + 1) cues) (sym is))

pub cue_here : (points : List Point) (cues : List Cue) (k : ℕ) (cue : Cue) (f : AxisValue) → k < length cues → cue ≡ get_or cues k cue →
    first_unfit (cue_values points cue.jobs) ≡ Some f → first_unfit (values_from points (drop k cues)) ≡ Some f
cue_here points cues k cue f within is some =
    ap first_unfit (next_cue points cues k cue within is) ∙ some_before (cue_values points cue.jobs) (values_from (points_after points cue.jobs) (drop (k + 1) cues)) f some

pub cue_later : (points : List Point) (cues : List Cue) (k : ℕ) (cue : Cue) → k < length cues → cue ≡ get_or cues k cue →
    first_unfit (cue_values points cue.jobs) ≡ None → first_unfit (values_from points (drop k cues)) ≡ first_unfit (values_from (points_after points cue.jobs) (drop (k + 1) cues))
cue_later points cues k cue within is none =
    ap first_unfit (next_cue points cues k cue within is) ∙ none_before (cue_values points cue.jobs) (values_from (points_after points cue.jobs) (drop (k + 1) cues)) none

-- ---- points moved one by one

-- the first n points are moved
abbrev pub moved : ℕ → List Point → List Job → List Point
moved zero points jobs = points
moved (suc n) [] jobs = []
moved (suc n) (p ∷ points) [] = p ∷ points
moved (suc n) (p ∷ points) (j ∷ jobs) = end_of p (act_of j) ∷ moved n points jobs

-- the next point is still where it was
pub not_moved : (n : ℕ) (points : List Point) (jobs : List Job) (other : Point) → get_or (moved n points jobs) n other ≡ get_or points n other
not_moved zero points jobs other = refl
not_moved (suc n) [] jobs other = refl
not_moved (suc n) (p ∷ points) [] other = refl
not_moved (suc n) (p ∷ points) (j ∷ jobs) other = not_moved n points jobs other

-- one point more
pub moved_more : (n : ℕ) (points : List Point) (jobs : List Job) (other : Point) (idle : Job) → n < length points → n < length jobs →
    set (moved n points jobs) n (end_of (get_or points n other) (act_of (get_or jobs n idle))) ≡ moved (n + 1) points jobs
moved_more zero [] jobs other idle within also = absurd (omega arith)
moved_more zero (p ∷ points) [] other idle within also = absurd (omega arith)
moved_more zero (p ∷ points) (j ∷ jobs) other idle within also = refl
moved_more (suc n) [] jobs other idle within also = absurd (omega arith)
moved_more (suc n) (p ∷ points) [] other idle within also = absurd (omega arith)
moved_more (suc n) (p ∷ points) (j ∷ jobs) other idle within also =
    let e : suc n + 1 ≡ suc (n + 1) = omega arith in
    rw e (ap (λ (rest : List Point). end_of p (act_of j) ∷ rest) (moved_more n points jobs other idle (omega arith) (omega arith)))

-- all points
pub moved_all : (n : ℕ) (points : List Point) (jobs : List Job) → length points ≡ length jobs → length points ≤ n → moved n points jobs ≡ points_after points jobs
moved_all zero [] jobs many all = refl
moved_all zero (p ∷ points) jobs many all = absurd (omega arith)
moved_all (suc n) [] jobs many all = refl
moved_all (suc n) (p ∷ points) [] many all = absurd (omega arith)
moved_all (suc n) (p ∷ points) (j ∷ jobs) many all = ap (λ (rest : List Point). end_of p (act_of j) ∷ rest) (moved_all n points jobs (omega arith) (omega arith))

-- ---- the first of a grid

-- a start that does not fit is the grid's first fault
pub starts_unfit : (g : Grid) (starts : List DroneLine) (f : AxisValue) → starts ≡ g.starts → Some f ≡ first_unfit (start_values starts) → Some f ≡ range_fault g
unfolding range_fault
starts_unfit g starts f is some =
    sym (some_before (start_values g.starts) (values_from (start_points g.starts) g.cues) f (ap (λ (xs : List DroneLine). first_unfit (start_values xs)) (sym is) ∙ sym some))

-- where the starts fit, the cues have the grid's first fault
pub cues_unfit : (g : Grid) (starts : List DroneLine) (points : List Point) (cues : List Cue) → starts ≡ g.starts → first_unfit (start_values starts) ≡ None →
    points ≡ start_points g.starts → cues ≡ g.cues → first_unfit (values_from points cues) ≡ range_fault g
unfolding range_fault
cues_unfit g starts points cues is none points_are cues_are = grind (arith, common_steps, none_before)
