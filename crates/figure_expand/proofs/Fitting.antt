-- Where no value of a grid is out of range, each of its starts and pieces fits a trajectory.
use Rattle.figure_expand.proofs.Prelude.{common_steps, ◌≡◌, ℕ, zero, suc, ◌+◌, ◌<◌, ◌≤◌, Bool, true, false, cond, ◌&&◌, nat_le, Some, None, ℤ, pos, List, [], ◌∷◌, ◌++◌, map, length, get_or, arith, refl, sym, ap, ◌∙◌, subst, list_all, All, All-head, All-tail, All-get_or, Point, DroneLine, Job, Cue, Grid, FitCues, IsGrid, millimetres, is_short, short, controls, rounded, axis_on, counted, segment_of, Axis, One, Two, Four, Eight, MicroPiece, act_of, end_of, axes_of, piece_of, fits_axis, values_on, values_of, point_values, start_values, start_points, cue_values, points_after, values_from, first_unfit, range_fault, job_in, no_job, pieces_from, expanded_from, expanded, AxisValue, RoundsWell, StartsWell, FitsWell}
use Rattle.std.proofs.lemmas.Bool.{and_parts}
use Rattle.std.proofs.lemmas.Bool.Decides.{nat_tests}
use Rattle.traj_codec.specs.declared.traj.Segment.{Segment}
use Rattle.mm_rounding.specs.Rounding.{fits}
use Rattle.figure_expand.specs.Expanded as expanding
use Rattle.figure_expand.proofs.Reach.{length-points_after, length-start_points}
use Rattle.figure_expand.proofs.Pieces.{row_is}
use Rattle.figure_expand.proofs.Unfit.{none_before}

-- ---- no value is out of range

-- a value that fits, and the rest
first_fits : (v : AxisValue) (vs : List AxisValue) → first_unfit (v ∷ vs) ≡ None → (expanding.fits v ≡ true) × (first_unfit vs ≡ None)
first_fits v vs none = grind (arith, common_steps, cond)

-- both of two lists
both_fit : (xs ys : List AxisValue) → first_unfit (xs ++ ys) ≡ None → (first_unfit xs ≡ None) × (first_unfit ys ≡ None)
both_fit [] ys none = (refl, none)
both_fit (v ∷ xs) ys none =
    let here = first_fits v (xs ++ ys) none in
    let later = both_fit xs ys here.1 in
    (ap (λ (b : Bool). cond b (first_unfit xs) (Some v)) here.0 ∙ later.0, later.1)

-- the control values of an axis
each_fits : (line axis : ℕ) (vs : List ℤ) → first_unfit (values_on line axis vs) ≡ None → list_all (fits_axis axis) vs ≡ true
each_fits line axis [] none = refl
each_fits line axis (v ∷ vs) none =
    let here = first_fits (record { line = line; axis = axis; value = v }) (values_on line axis vs) none in
    ap (λ (b : Bool). b && list_all (fits_axis axis) vs) here.0 ∙ each_fits line axis vs here.1

-- numbers that fit in millimetres
rounded_fit : (vs : List ℤ) → list_all (λ v. is_short (millimetres v)) vs ≡ list_all is_short (map millimetres vs)
rounded_fit [] = refl
rounded_fit (v ∷ vs) = ap (λ (b : Bool). is_short (millimetres v) && b) (rounded_fit vs)

place_fits : (axis : Axis) → list_all (λ v. is_short (millimetres v)) (controls axis) ≡ true → fits (rounded axis) ≡ true
place_fits (One v) all = sym (rounded_fit (v ∷ [])) ∙ all
place_fits (Two v) all = sym (rounded_fit v) ∙ all
place_fits (Four v) all = sym (rounded_fit v) ∙ all
place_fits (Eight v) all = sym (rounded_fit v) ∙ all

-- four axes
axes_fit : (line : ℕ) (x y z w : Axis) → first_unfit (values_of line 0 (x ∷ y ∷ z ∷ w ∷ [])) ≡ None → list_all fits (rounded x ∷ rounded y ∷ rounded z ∷ w ∷ []) ≡ true
axes_fit line x y z w none = grind (arith, common_steps, both_fit, place_fits, each_fits)

some_time : (ms : ℕ) → 1 ≤ ms → nat_le 1 ms ≡ true
some_time ms some = grind (arith, nat_tests)

-- a piece
piece_rounds : (line : ℕ) (p : Point) (ms : ℕ) (j : Job) → 1 ≤ ms → first_unfit (values_of line 0 (axes_of p (act_of j))) ≡ None → RoundsWell (piece_of p ms j)
piece_rounds line p ms j some none = grind (arith, common_steps, nat_le, some_time, axes_fit, cond)

-- ---- each drone and cue

drone_fits : (points : List Point) (jobs : List Job) (d : ℕ) (o : Point) → d < length points → length points ≡ length jobs → first_unfit (cue_values points jobs) ≡ None →
    first_unfit (values_of (get_or jobs d no_job).line 0 (axes_of (get_or points d o) (act_of (get_or jobs d no_job)))) ≡ None
drone_fits [] jobs d o within many none = absurd (omega arith)
drone_fits (p ∷ points) [] d o within many none = absurd (omega arith)
drone_fits (p ∷ points) (j ∷ jobs) zero o within many none = (both_fit (values_of j.line 0 (axes_of p (act_of j))) (cue_values points jobs) none).0
drone_fits (p ∷ points) (j ∷ jobs) (suc d) o within many none =
    drone_fits points jobs d o (omega arith) (omega arith) (both_fit (values_of j.line 0 (axes_of p (act_of j))) (cue_values points jobs) none).1

moves : (points : List Point) (jobs : List Job) (d : ℕ) (o : Point) → d < length points → length points ≡ length jobs →
    get_or (points_after points jobs) d o ≡ end_of (get_or points d o) (act_of (get_or jobs d no_job))
moves [] jobs d o within many = absurd (omega arith)
moves (p ∷ points) [] d o within many = absurd (omega arith)
moves (p ∷ points) (j ∷ jobs) zero o within many = refl
moves (p ∷ points) (j ∷ jobs) (suc d) o within many = moves points jobs d o (omega arith) (omega arith)

-- the pieces of a drone
pieces_round : (points : List Point) (p o : Point) (d n : ℕ) (cues : List Cue) (k : ℕ) (other : MicroPiece) → length points ≡ n → d < n → FitCues n cues → get_or points d o ≡ p →
    first_unfit (values_from points cues) ≡ None → k < length (pieces_from p d cues) → RoundsWell (get_or (pieces_from p d cues) k other)
pieces_round points p o d n [] k other many within fit is none small = absurd (omega arith)
pieces_round points p o d n (cue ∷ cues) zero other many within fit is none small =
    let parts = both_fit (cue_values points cue.jobs) (values_from (points_after points cue.jobs) cues) none in
    let here = drone_fits points cue.jobs d o (omega arith) (many ∙ sym fit.0.count) parts.0 in
    piece_rounds (job_in cue d).line p cue.ms (job_in cue d) fit.0.lasts
    (subst (λ (q : Point). first_unfit (values_of (job_in cue d).line 0 (axes_of q (act_of (job_in cue d)))) ≡ None) is here)
pieces_round points p o d n (cue ∷ cues) (suc k) other many within fit is none small =
    let parts = both_fit (cue_values points cue.jobs) (values_from (points_after points cue.jobs) cues) none in
    let count : length points ≡ length cue.jobs = many ∙ sym fit.0.count in
    pieces_round (points_after points cue.jobs) (end_of p (act_of (job_in cue d))) o d n cues k other (length-points_after points cue.jobs count ∙ many) within fit.1
    (moves points cue.jobs d o (omega arith) count ∙ ap (λ (q : Point). end_of q (act_of (job_in cue d))) is) parts.1 (omega arith)

start_at : (starts : List DroneLine) (d : ℕ) (o : Point) → get_or (start_points starts) d o ≡ get_or (map (λ (s : DroneLine). s.at) starts) d o
start_at [] d o = refl
start_at (s ∷ starts) zero o = refl
start_at (s ∷ starts) (suc d) o = start_at starts d o

length-rows : (first : ℕ) (starts : List DroneLine) (cues : List Cue) → length (expanded_from first starts cues) ≡ length starts
length-rows first [] cues = refl
length-rows first (s ∷ starts) cues = ap suc (length-rows (first + 1) starts cues)

-- ---- starts

short_is : (z : ℤ) → is_short z ≡ true → short z ≡ Some z
short_is z is = ap (λ (b : Bool). cond b (Some z) None) is

start_fits : (line : ℕ) (p : Point) → first_unfit (point_values line p) ≡ None → StartsWell p
start_fits line p none = grind (arith, common_steps, first_fits, short_is)

starts_fit : (starts : List DroneLine) → first_unfit (start_values starts) ≡ None → (k : ℕ) (other : DroneLine) → k < length starts → StartsWell (get_or starts k other).at
starts_fit [] none k other within = absurd (omega arith)
starts_fit (s ∷ starts) none zero other within = start_fits s.line s.at (both_fit (point_values s.line s.at) (start_values starts) none).0
starts_fit (s ∷ starts) none (suc k) other within = starts_fit starts (both_fit (point_values s.line s.at) (start_values starts) none).1 k other (omega arith)

-- Each start and each piece of a grid without a value out of range fits a trajectory.
pub fits_well : (g : Grid) → IsGrid g → range_fault g ≡ None → FitsWell g
unfolding range_fault expanded
fits_well g is none =
    let parts = both_fit (start_values g.starts) (values_from (start_points g.starts) g.cues) none in
    record {
      starts = starts_fit g.starts parts.0;
      pieces = λ d rest within k other small.
          let o : Point = record { x = pos 0; y = pos 0; z = pos 0; yaw = pos 0 } in
          let drone : d < length g.starts = omega (arith, length-rows 0 g.starts g.cues) in
          let e : 0 + d ≡ d = omega arith in
          let row : get_or (expanded_from 0 g.starts g.cues) d rest ≡ pieces_from (get_or (map (λ (s : DroneLine). s.at) g.starts) d o) d g.cues =
          row_is 0 g.starts g.cues d o rest drone ∙ ap (λ (n : ℕ). pieces_from (get_or (map (λ (s : DroneLine). s.at) g.starts) d o) n g.cues) e in
          subst (λ (pieces : List MicroPiece). RoundsWell (get_or pieces k other)) (sym row)
          (pieces_round (start_points g.starts) (get_or (map (λ (s : DroneLine). s.at) g.starts) d o) o d (length g.starts) g.cues k other (length-start_points g.starts) drone is.cues (start_at g.starts d o) parts.1
          (subst (λ (pieces : List MicroPiece). k < length pieces) row small));
    }

-- ---- the other way round

-- the control values of an axis
each_back : (line axis : ℕ) (vs : List ℤ) → list_all (fits_axis axis) vs ≡ true → first_unfit (values_on line axis vs) ≡ None
each_back line axis [] all = refl
each_back line axis (v ∷ vs) all =
    let parts = and_parts (fits_axis axis v) (list_all (fits_axis axis) vs) all in
    ap (λ (b : Bool). cond b (first_unfit (values_on line axis vs)) (Some (record { line = line; axis = axis; value = v }))) parts.0 ∙ each_back line axis vs parts.1

place_back : (axis : Axis) → fits (rounded axis) ≡ true → list_all (λ v. is_short (millimetres v)) (controls axis) ≡ true
place_back (One v) all = rounded_fit (v ∷ []) ∙ all
place_back (Two v) all = rounded_fit v ∙ all
place_back (Four v) all = rounded_fit v ∙ all
place_back (Eight v) all = rounded_fit v ∙ all

-- four axes
axes_back : (line : ℕ) (x y z w : Axis) → list_all fits (rounded x ∷ rounded y ∷ rounded z ∷ w ∷ []) ≡ true → first_unfit (values_of line 0 (x ∷ y ∷ z ∷ w ∷ [])) ≡ None
axes_back line x y z w all =
    let at_x = and_parts (fits (rounded x)) (list_all fits (rounded y ∷ rounded z ∷ w ∷ [])) all in
    let at_y = and_parts (fits (rounded y)) (list_all fits (rounded z ∷ w ∷ [])) at_x.1 in
    let at_z = and_parts (fits (rounded z)) (list_all fits (w ∷ [])) at_y.1 in
    none_before (values_on line 0 (controls x)) (values_of line 1 (y ∷ z ∷ w ∷ [])) (each_back line 0 (controls x) (place_back x at_x.0))
    ∙ none_before (values_on line 1 (controls y)) (values_of line 2 (z ∷ w ∷ [])) (each_back line 1 (controls y) (place_back y at_y.0))
    ∙ none_before (values_on line 2 (controls z)) (values_of line 3 (w ∷ [])) (each_back line 2 (controls z) (place_back z at_z.0))
    ∙ none_before (values_on line 3 (controls w)) [] (each_back line 3 (controls w) (and_parts (fits w) true at_z.1).0)

-- a piece
piece_back : (line : ℕ) (p : Point) (ms : ℕ) (j : Job) → RoundsWell (piece_of p ms j) → first_unfit (values_of line 0 (axes_of p (act_of j))) ≡ None
piece_back line p ms j well =
    let piece : MicroPiece = piece_of p ms j in
    axes_back line (axis_on piece 0) (axis_on piece 1) (axis_on piece 2) (axis_on piece 3)
    (and_parts (nat_le 1 ms) (list_all fits (counted piece)) (passed (nat_le 1 ms && list_all fits (counted piece)) (segment_of piece) well)).1
  where
    passed : (b : Bool) (s : Segment) → cond b (Some s) None ≡ Some s → b ≡ true
    passed true s is = refl
    passed false s is = absurd (cc)

cue_back : (points : List Point) (jobs : List Job) (o : Point) → length points ≡ length jobs →
    ((d : ℕ) → d < length points → first_unfit (values_of (get_or jobs d no_job).line 0 (axes_of (get_or points d o) (act_of (get_or jobs d no_job)))) ≡ None) →
    first_unfit (cue_values points jobs) ≡ None
cue_back [] jobs o many each = refl
cue_back (p ∷ points) [] o many each = refl
cue_back (p ∷ points) (j ∷ jobs) o many each =
    none_before (values_of j.line 0 (axes_of p (act_of j))) (cue_values points jobs) (each 0 (omega arith))
    ∙ cue_back points jobs o (omega arith) (λ d within. each (suc d) (omega arith))

cues_back : (points : List Point) (o : Point) (n : ℕ) (cues : List Cue) → length points ≡ n → FitCues n cues →
    ((d : ℕ) → d < n → All RoundsWell (pieces_from (get_or points d o) d cues)) → first_unfit (values_from points cues) ≡ None
cues_back points o n [] many fit each = refl
cues_back points o n (cue ∷ cues) many fit each =
    let count : length points ≡ length cue.jobs = many ∙ sym fit.0.count in
    none_before (cue_values points cue.jobs) (values_from (points_after points cue.jobs) cues)
    (cue_back points cue.jobs o count (λ d within.
    piece_back (job_in cue d).line (get_or points d o) cue.ms (job_in cue d)
    (All-head RoundsWell (piece_of (get_or points d o) cue.ms (job_in cue d)) (pieces_from (end_of (get_or points d o) (act_of (job_in cue d))) d cues) (each d (omega arith)))))
    ∙ cues_back (points_after points cue.jobs) o n cues (length-points_after points cue.jobs count ∙ many) fit.1 (λ d within.
    subst (λ (q : Point). All RoundsWell (pieces_from q d cues)) (sym (moves points cue.jobs d o (omega arith) count))
    (All-tail RoundsWell (piece_of (get_or points d o) cue.ms (job_in cue d)) (pieces_from (end_of (get_or points d o) (act_of (job_in cue d))) d cues) (each d within)))

short_back : (z : ℤ) → short z ≡ Some z → is_short z ≡ true
short_back z is = grind (arith, common_steps)

start_back : (line : ℕ) (p : Point) → StartsWell p → first_unfit (point_values line p) ≡ None
start_back line p well = grind (arith, common_steps, short_back)

starts_back : (starts : List DroneLine) → All (λ (s : DroneLine). StartsWell s.at) starts → first_unfit (start_values starts) ≡ None
starts_back [] all = refl
starts_back (s ∷ starts) all =
    none_before (point_values s.line s.at) (start_values starts) (start_back s.line s.at (All-head (λ (s : DroneLine). StartsWell s.at) s starts all))
    ∙ starts_back starts (All-tail (λ (s : DroneLine). StartsWell s.at) s starts all)

-- No value is out of range of a grid of which each start and each piece fits a trajectory.
pub fits_back : (g : Grid) → IsGrid g → FitsWell g → range_fault g ≡ None
unfolding range_fault expanded
fits_back g is well =
    let o : Point = record { x = pos 0; y = pos 0; z = pos 0; yaw = pos 0 } in
    none_before (start_values g.starts) (values_from (start_points g.starts) g.cues) (starts_back g.starts well.starts)
    ∙ cues_back (start_points g.starts) o (length g.starts) g.cues (length-start_points g.starts) is.cues (λ d within.
    let e : 0 + d ≡ d = omega arith in
    subst (All RoundsWell)
    (row_is 0 g.starts g.cues d o [] within ∙ ap (λ (n : ℕ). pieces_from (get_or (map (λ (s : DroneLine). s.at) g.starts) d o) n g.cues) e ∙ ap (λ (p : Point). pieces_from p d g.cues) (sym (start_at g.starts d o)))
    (All-get_or (All RoundsWell) (expanded g) d [] (omega (arith, length-rows 0 g.starts g.cues)) well.pieces))
