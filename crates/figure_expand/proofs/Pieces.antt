-- The pieces of a grid are where the text says.
use Rattle.figure_expand.proofs.Prelude.{common_steps, ◌≡◌, ℕ, zero, suc, ◌+◌, ◌<◌, ℤ, pos, ◌+ℤ◌, ◌-ℤ◌, ◌*ℤ◌, List, [], ◌∷◌, map, take, length, get_or, Bool, ints, arith, refl, sym, ap, ◌∙◌, All, All-from_recursion, power, at, mul_comm_ℤ, one_mul_ℤ, bernstein-zero, bernstein-suc, cong_add, Point, Act, DroneLine, Job, Cue, Grid, controls, axis_on, first_control, Axis, One, MicroPiece, act_of, on_axis, from_rest, written_points, ClosedForms, end_of, point_after, axes_of, piece_of, job_in, no_job, pieces_from, expanded_from, expanded, start_of, jobs_in, job_at, point_before, FliesAsWritten, Ease, eased_points, axis_with, eased_yaw}
use Rattle.choreo_show.specs.declared.parts.Act.TheVariants as act
use Rattle.mm_rounding.specs.Near.{position, IsAxis, IsPiece, last_control}
use Rattle.choreo_show.specs.declared.parts.Ease.TheVariants as ease
use Rattle.figure_expand.proofs.Eased.{controls_with, first_point, first_yaw}
use Rattle.figure_expand.proofs.Curves.{closed_rest, bern-steps, from_rest-share}

-- ---- the polynomial of each kind of control points

-- one value stays
one : (v : ℤ) (a c : ℕ) → position (v ∷ []) a c ≡ v *ℤ power (pos c) 7
one v a c = ap (λ (z : ℤ). power (pos c) 7 *ℤ z) (bernstein-zero (at (v ∷ [])) (pos a) (pos c)) ∙ mul_comm_ℤ (power (pos c) 7) v

-- two values are a straight way
two : (A B : ℤ) (a c : ℕ) → position (A ∷ B ∷ []) a c ≡ (A *ℤ (pos c -ℤ pos a) +ℤ B *ℤ pos a) *ℤ power (pos c) 6
two A B a c = grind (arith, common_steps, pos, bernstein-suc, cong_add, bernstein-zero)

-- eight values, four times the first and four times the last, are the way from rest to rest
eight : (A B : ℤ) (a c : ℕ) → position (from_rest A B) a c ≡ closed_rest A B (pos a) (pos c)
eight A B a c = one_mul_ℤ _ ∙ bern-steps A B (pos a) (pos c) ∙ sym (from_rest-share A B (pos a) (pos c))

pub closed_forms : ClosedForms
closed_forms = record { stays = one; even = two; rest = eight }

-- ---- each act on each axis

abbrev curve_of : Point → Act → ℕ → Axis
curve_of p x axis = get_or (axes_of p x) axis (One (pos 0))

begins : (vs : List ℤ) → first_control (axis_with vs) ≡ at vs 0
begins vs = ap (λ (ws : List ℤ). at ws 0) (controls_with vs)

around : (centre v : ℤ) → centre +ℤ (v -ℤ centre) ≡ v
around centre v = omega (arith, ints)

by_act : (p : Point) (x : Act) (axis : ℕ) → axis < 4 → controls (curve_of p x axis) ≡ written_points p x axis
by_act p (act.Eased how ccw cx cy yaw) zero small = controls_with _
by_act p (act.Eased how ccw cx cy yaw) (suc zero) small = controls_with _
by_act p (act.Eased how ccw cx cy yaw) (suc (suc zero)) small = refl
by_act p (act.Eased how ccw cx cy yaw) (suc (suc (suc zero))) small = controls_with _
by_act p x axis small = grind (arith, common_steps)

-- an eased arc begins where the drone is
eased_begins : (p : Point) (how : Ease) (ccw : Bool) (cx cy yaw : ℤ) (axis : ℕ) → axis < 4 → first_control (curve_of p (act.Eased how ccw cx cy yaw) axis) ≡ on_axis p axis
eased_begins p how ccw cx cy yaw zero small = begins (eased_points how cx _ _) ∙ first_point how cx _ _ ∙ around cx p.x
eased_begins p how ccw cx cy yaw (suc zero) small = begins (eased_points how cy _ _) ∙ first_point how cy _ _ ∙ around cy p.y
eased_begins p how ccw cx cy yaw (suc (suc zero)) small = refl
eased_begins p how ccw cx cy yaw (suc (suc (suc (suc k)))) small = absurd (omega arith)
eased_begins p how ccw cx cy yaw (suc (suc (suc zero))) small = begins (eased_yaw how p.yaw yaw) ∙ first_yaw how p.yaw yaw

-- the first control point is where the drone is
first_by_act : (p : Point) (x : Act) (axis : ℕ) → axis < 4 → first_control (curve_of p x axis) ≡ on_axis p axis
first_by_act p (act.Eased how ccw cx cy yaw) axis small = eased_begins p how ccw cx cy yaw axis small
first_by_act p x axis small = grind (arith, common_steps)

-- the last one is where the act ends
last_by_act : (p : Point) (x : Act) (axis : ℕ) → axis < 4 → last_control (curve_of p x axis) ≡ on_axis (end_of p x) axis
unfolding end_of
last_by_act p (act.Eased ease.InOut ccw cx cy yaw) axis small = grind (arith, common_steps)
last_by_act p (act.Eased ease.In ccw cx cy yaw) axis small = grind (arith, common_steps)
last_by_act p (act.Eased ease.Out ccw cx cy yaw) axis small = grind (arith, common_steps)
last_by_act p x axis small = grind (arith, common_steps)

-- A piece begins where its drone is.
pub piece_begins : (p : Point) (ms : ℕ) (j : Job) (axis : ℕ) → axis < 4 → first_control (axis_on (piece_of p ms j) axis) ≡ on_axis p axis
piece_begins p ms j axis small = first_by_act p (act_of j) axis small

-- A piece ends where its act ends.
pub piece_ends : (p : Point) (ms : ℕ) (j : Job) (axis : ℕ) → axis < 4 → last_control (axis_on (piece_of p ms j) axis) ≡ on_axis (end_of p (act_of j)) axis
piece_ends p ms j axis small = last_by_act p (act_of j) axis small

whole_by_act : (p : Point) (x : Act) → All IsAxis (axes_of p x)
whole_by_act p (act.Eased ease.InOut ccw cx cy yaw) = All-from_recursion IsAxis (axes_of p (act.Eased ease.InOut ccw cx cy yaw)) (refl, (refl, (tt, (refl, tt))))
whole_by_act p (act.Eased ease.In ccw cx cy yaw) = All-from_recursion IsAxis (axes_of p (act.Eased ease.In ccw cx cy yaw)) (refl, (refl, (tt, (refl, tt))))
whole_by_act p (act.Eased ease.Out ccw cx cy yaw) = All-from_recursion IsAxis (axes_of p (act.Eased ease.Out ccw cx cy yaw)) (refl, (refl, (tt, (refl, tt))))
whole_by_act p act.Hold = All-from_recursion IsAxis (axes_of p act.Hold) assumption
whole_by_act p x = All-from_recursion IsAxis (axes_of p x) assumption

-- The axes of a piece have as many control values as their names say.
pub piece_whole : (p : Point) (ms : ℕ) (j : Job) → IsPiece (piece_of p ms j)
piece_whole p ms j = whole_by_act p (act_of j)

-- ---- each drone and cue

-- the axes of a drone's piece in a cue
axes_are : (p : Point) (d : ℕ) (cues : List Cue) (k : ℕ) (other : MicroPiece) → k < length cues →
    (get_or (pieces_from p d cues) k other).axes ≡ axes_of (point_after p (take k (jobs_in d cues))) (act_of (get_or (jobs_in d cues) k no_job))
axes_are p d [] k other within = absurd (omega arith)
axes_are p d (cue ∷ cues) zero other within = refl
axes_are p d (cue ∷ cues) (suc k) other within = axes_are (end_of p (act_of (job_in cue d))) d cues k other (omega arith)

-- the pieces of a drone
pub row_is : (first : ℕ) (starts : List DroneLine) (cues : List Cue) (d : ℕ) (other : Point) (rest : List MicroPiece) → d < length starts →
    get_or (expanded_from first starts cues) d rest ≡ pieces_from (get_or (map (λ (s : DroneLine). s.at) starts) d other) (first + d) cues
row_is first [] cues d other rest within = absurd (omega arith)
row_is first (s ∷ starts) cues zero other rest within = let e : first ≡ first + 0 = omega arith in ap (λ (d : ℕ). pieces_from s.at d cues) e
row_is first (s ∷ starts) cues (suc d) other rest within =
    let e : (first + 1) + d ≡ first + suc d = omega arith in
    row_is (first + 1) starts cues d other rest (omega arith) ∙ ap (λ (n : ℕ). pieces_from (get_or (map (λ (s : DroneLine). s.at) starts) d other) n cues) e

-- The pieces of a grid are at the written position.
pub flies_as_written : (g : Grid) → FliesAsWritten g
unfolding expanded
flies_as_written g d k axis drone cue small a c some within =
    let e : 0 + d ≡ d = omega arith in
    let other : MicroPiece = record { ms = 0; axes = [] } in
    let row : get_or (expanded_from 0 g.starts g.cues) d [] ≡ pieces_from (start_of g d) d g.cues =
    row_is 0 g.starts g.cues d _ [] drone ∙ ap (λ (n : ℕ). pieces_from (start_of g d) n g.cues) e in
    let axes : (get_or (get_or (expanded_from 0 g.starts g.cues) d []) k other).axes ≡ axes_of (point_before g d k) (act_of (job_at g d k)) =
    ap (λ (pieces : List MicroPiece). (get_or pieces k other).axes) row ∙ axes_are (start_of g d) d g.cues k other cue in
    ap (λ (axes : List Axis). position (controls (get_or axes axis (One (pos 0)))) a c) axes
    ∙ ap (λ (points : List ℤ). position points a c) (by_act (point_before g d k) (act_of (job_at g d k)) axis small)
