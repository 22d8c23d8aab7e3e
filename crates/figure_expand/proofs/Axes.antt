-- The value of a refusal is on one of four axes.
use Rattle.figure_expand.proofs.Prelude.{◌≡◌, ℕ, ◌+◌, ◌≤◌, ℤ, Bool, true, false, cond, All, List, [], ◌∷◌, length, Option, Some, None, sym, subst, arith, All-nil, All-cons, All-head, All-tail, All-append, All-from_recursion, Point, DroneLine, Cue, Grid, Job, controls, Axis, AxisValue, act_of, axes_of, cue_values, first_unfit, fits, point_values, points_after, range_fault, start_points, start_values, values, values_from, values_of, values_on, IfSome}

-- the value stands on x, y, z or yaw
abbrev IsOnAxis : AxisValue → Type 0
IsOnAxis v = v.axis ≤ 3

on_axis : (line axis : ℕ) (vs : List ℤ) → axis ≤ 3 → All IsOnAxis (values_on line axis vs)
on_axis line axis [] small = All-nil IsOnAxis
on_axis line axis (v ∷ vs) small = All-cons IsOnAxis (record { line = line; axis = axis; value = v }) (values_on line axis vs) small (on_axis line axis vs small)

on_axes : (line axis : ℕ) (axes : List Axis) → axis + length axes ≤ 4 → All IsOnAxis (values_of line axis axes)
on_axes line axis [] few = All-nil IsOnAxis
on_axes line axis (a ∷ axes) few =
    All-append IsOnAxis (values_on line axis (controls a)) (values_of line (axis + 1) axes) (on_axis line axis (controls a) (omega arith)) (on_axes line (axis + 1) axes (omega arith))

in_cue : (ps : List Point) (jobs : List Job) → All IsOnAxis (cue_values ps jobs)
in_cue [] jobs = All-nil IsOnAxis
in_cue (p ∷ ps) [] = All-nil IsOnAxis
in_cue (p ∷ ps) (j ∷ jobs) =
    All-append IsOnAxis (values_of j.line 0 (axes_of p (act_of j))) (cue_values ps jobs) (on_axes j.line 0 (axes_of p (act_of j)) (omega arith)) (in_cue ps jobs)

in_cues : (ps : List Point) (cues : List Cue) → All IsOnAxis (values_from ps cues)
in_cues ps [] = All-nil IsOnAxis
in_cues ps (cue ∷ rest) =
    All-append IsOnAxis (cue_values ps cue.jobs) (values_from (points_after ps cue.jobs) rest) (in_cue ps cue.jobs) (in_cues (points_after ps cue.jobs) rest)

of_point : (line : ℕ) (p : Point) → All IsOnAxis (point_values line p)
of_point line p = All-from_recursion IsOnAxis (point_values line p) (omega arith, (omega arith, (omega arith, (omega arith, tt))))

of_starts : (starts : List DroneLine) → All IsOnAxis (start_values starts)
of_starts [] = All-nil IsOnAxis
of_starts (s ∷ starts) = All-append IsOnAxis (point_values s.line s.at) (start_values starts) (of_point s.line s.at) (of_starts starts)

-- the first unfit of such values stands on one of the axes
unfit_axis : (vs : List AxisValue) (v : AxisValue) → All IsOnAxis vs → first_unfit vs ≡ Some v → v.axis ≤ 3
unfit_axis [] v all is = absurd (cc)
unfit_axis (x ∷ vs) v all is = by_test (fits x) is (unfit_axis vs v (All-tail IsOnAxis x vs all))
  where
    by_test : (b : Bool) → cond b (first_unfit vs) (Some x) ≡ Some v → (first_unfit vs ≡ Some v → v.axis ≤ 3) → v.axis ≤ 3
    by_test true is later = later is
    by_test false is later =
        let e : x ≡ v = cc in
        subst IsOnAxis e (All-head IsOnAxis x vs all)

-- so does the value that a grid is refused for
pub range_axis : (g : Grid) (v : AxisValue) → range_fault g ≡ Some v → v.axis ≤ 3
unfolding range_fault
range_axis g v is =
    unfit_axis (values g) v (All-append IsOnAxis (start_values g.starts) (values_from (start_points g.starts) g.cues) (of_starts g.starts) (in_cues (start_points g.starts) g.cues)) is

pub fault_axis : (g : Grid) (fault : Option AxisValue) → fault ≡ range_fault g → IfSome fault (λ v. v.axis ≤ 3)
fault_axis g None is = tt
fault_axis g (Some v) is = range_axis g v (sym is)
