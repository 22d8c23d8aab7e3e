-- The trajectories of a grid are near to what the show says, at every instant.
use Rattle.show_plan.proofs.Prelude.{common_steps, ◌≡◌, ℕ, zero, suc, ◌+◌, ◌*◌, ◌<◌, ◌≤◌, ℤ, pos, ◌*ℤ◌, List, [], ◌∷◌, map, take, length, get_or, sum, arith, refl, sym, ap, ◌∙◌, subst, All, get_or-map, length-map, All-nil, All-cons, All-get_or, All-from_get_or, Point, DroneLine, Cue, Grid, FitCues, IsGrid, Traj, stored, element_on, value_after, piece_on, durations, decoded, own, joined, IsLasting, SameCurve, join_holds_law, MicroPiece, millimetres, controls, first_control, rounded, element_of, axis_on, segment_of, act_of, on_axis, end_of, point_after, axes_of, piece_of, job_in, no_job, pieces_from, expanded_from, expanded, start_of, jobs_in, job_at, point_before, piece_at, written_at, StartsWell, RoundsWell, FitsWell, start_at, trajectory_of, trajectories_of, by_cue, sent, cue_times, FitsDrone, flight, FliesNearOn, FliesNear, written, no_trajectory, KeepsNearShow, AtEachInstant}
use Rattle.whole_numbers.specs.Bernstein.{at}
use Rattle.whole_numbers.specs.Moments.{Moment, moment}
use Rattle.whole_numbers.specs.Near.{IsNear}
use Rattle.whole_numbers.specs.Sums.{power}
use Rattle.whole_numbers.proofs.NearLemmas.{near_lifts}
use Rattle.whole_numbers.proofs.RingLemmas.{mul_comm_ℤ}
use Rattle.whole_numbers.specs.Decoded.{last_value}
use Rattle.whole_numbers.specs.Decoded as plain
use Rattle.whole_numbers.proofs.MomentLemmas.{IsInside, moment-inside}
use Rattle.cue_grid.specs.declared.grid.Job.{Job}
use Rattle.traj_codec.specs.declared.traj.Element.{Element}
use Rattle.traj_codec.proofs.PositionLemmas.{decoded-points}
use Rattle.mm_rounding.specs.declared.piece.Axis.{Axis}
use Rattle.mm_rounding.specs.declared.piece.Axis.TheVariants.{One}
use Rattle.mm_rounding.specs.Near.{IsAxis, KeepsNear, StaysNear, position, last_control}
use Rattle.mm_rounding.proofs.Elements.{rounded_is_axis, rounded_edges, ends_there, stays_near}
use Rattle.figure_expand.proofs.Pieces.{row_is, piece_begins, piece_ends, piece_whole, flies_as_written}

-- ---- the ends of axes

-- an element of x, y or z leads from one rounded value to the other
leads : (axis : Axis) (from to : ℤ) → IsAxis axis → first_control axis ≡ from → last_control axis ≡ to →
    value_after (millimetres from) (element_of (rounded axis)) ≡ millimetres to
leads axis from to is begins ends =
    let edges = rounded_edges axis is in
    grind (arith, common_steps, ends_there, rounded_is_axis)

-- an element of yaw leads from one value to the other
leads_yaw : (axis : Axis) (from to : ℤ) → IsAxis axis → first_control axis ≡ from → last_control axis ≡ to → value_after from (element_of axis) ≡ to
leads_yaw axis from to is begins ends =
    ap (λ (z : ℤ). value_after z (element_of axis)) (sym begins) ∙ ends_there axis is ∙ ends

-- ---- segments

-- an axis of a piece has as many control values as its name says
axis_is : (p : Point) (ms : ℕ) (j : Job) (axis : ℕ) → axis < 4 → IsAxis (axis_on (piece_of p ms j) axis)
axis_is p ms j axis small = All-get_or IsAxis (axes_of p (act_of j)) axis (One (pos 0)) small (piece_whole p ms j)

-- a segment leads from where the drone is to where its act ends, both rounded
goes_on : (p : Point) (ms : ℕ) (j : Job) (axis : ℕ) → axis < 4 →
    value_after (at (start_at p) axis) (element_on (segment_of (piece_of p ms j)) axis) ≡ at (start_at (end_of p (act_of j))) axis
goes_on p ms j zero small = leads (axis_on (piece_of p ms j) 0) _ _ (axis_is p ms j 0 small) (piece_begins p ms j 0 small) (piece_ends p ms j 0 small)
goes_on p ms j (suc zero) small = leads (axis_on (piece_of p ms j) 1) _ _ (axis_is p ms j 1 small) (piece_begins p ms j 1 small) (piece_ends p ms j 1 small)
goes_on p ms j (suc (suc zero)) small = leads (axis_on (piece_of p ms j) 2) _ _ (axis_is p ms j 2 small) (piece_begins p ms j 2 small) (piece_ends p ms j 2 small)
goes_on p ms j (suc (suc (suc zero))) small = leads_yaw (axis_on (piece_of p ms j) 3) _ _ (axis_is p ms j 3 small) (piece_begins p ms j 3 small) (piece_ends p ms j 3 small)
goes_on p ms j (suc (suc (suc (suc axis)))) small = absurd (omega arith)

-- the piece of a drone in a cue
piece_is : (p : Point) (d : ℕ) (cues : List Cue) (k : ℕ) (other : MicroPiece) → k < length cues →
    get_or (pieces_from p d cues) k other ≡ piece_of (point_after p (take k (jobs_in d cues))) (get_or (map (λ (cue : Cue). cue.ms) cues) k 0) (get_or (jobs_in d cues) k no_job)
piece_is p d [] k other within = absurd (omega arith)
piece_is p d (cue ∷ cues) zero other within = refl
piece_is p d (cue ∷ cues) (suc k) other within = piece_is (end_of p (act_of (job_in cue d))) d cues k other (omega arith)

-- the control points of a trajectory in a cue: where the drone is before it, rounded, and then the segment's numbers
points_are : (first : ℤ) (p : Point) (d : ℕ) (cues : List Cue) (k axis : ℕ) (other : MicroPiece) → k < length cues → axis < 4 → first ≡ at (start_at p) axis →
    plain.points first (map (piece_on axis) (map segment_of (pieces_from p d cues))) k
    ≡ at (start_at (point_after p (take k (jobs_in d cues)))) axis ∷ stored (element_on (segment_of (get_or (pieces_from p d cues) k other)) axis)
points_are first p d [] k axis other within small is = absurd (omega arith)
points_are first p d (cue ∷ cues) zero axis other within small is = ap (λ (z : ℤ). z ∷ stored (element_on (segment_of (piece_of p cue.ms (job_in cue d))) axis)) is
points_are first p d (cue ∷ cues) (suc k) axis other within small is =
    points_are (value_after first (element_on (segment_of (piece_of p cue.ms (job_in cue d))) axis)) (end_of p (act_of (job_in cue d))) d cues k axis other (omega arith) small
    (ap (λ (z : ℤ). value_after z (element_on (segment_of (piece_of p cue.ms (job_in cue d))) axis)) is ∙ goes_on p cue.ms (job_in cue d) axis small)

-- the segments last as long as the cues
times_are : (p : Point) (d : ℕ) (cues : List Cue) → durations (map segment_of (pieces_from p d cues)) ≡ map (λ (cue : Cue). cue.ms) cues
times_are p d [] = refl
times_are p d (cue ∷ cues) = ap (λ (ms : List ℕ). cue.ms ∷ ms) (times_are (end_of p (act_of (job_in cue d))) d cues)

-- ---- one drone

-- the trajectory of a drone
flight_is : (first : ℕ) (starts : List DroneLine) (cues : List Cue) (d : ℕ) (other : Point) → d < length starts →
    get_or (trajectories_of starts (expanded_from first starts cues)) d no_trajectory
    ≡ trajectory_of (get_or (map (λ (s : DroneLine). s.at) starts) d other) (pieces_from (get_or (map (λ (s : DroneLine). s.at) starts) d other) (first + d) cues)
flight_is first [] cues d other within = absurd (omega arith)
flight_is first (s ∷ starts) cues zero other within = let e : first ≡ first + 0 = omega arith in ap (λ (d : ℕ). trajectory_of s.at (pieces_from s.at d cues)) e
flight_is first (s ∷ starts) cues (suc d) other within =
    let e : (first + 1) + d ≡ first + suc d = omega arith in
    flight_is (first + 1) starts cues d other (omega arith)
    ∙ ap (λ (n : ℕ). trajectory_of (get_or (map (λ (s : DroneLine). s.at) starts) d other) (pieces_from (get_or (map (λ (s : DroneLine). s.at) starts) d other) n cues)) e

rows_from : (first : ℕ) (starts : List DroneLine) (cues : List Cue) → length (expanded_from first starts cues) ≡ length starts
rows_from first [] cues = refl
rows_from first (s ∷ starts) cues = ap suc (rows_from (first + 1) starts cues)

-- there are as many rows of pieces as drones
rows_counted : (g : Grid) → length (expanded g) ≡ length g.starts
unfolding expanded
rows_counted g = rows_from 0 g.starts g.cues

abbrev no_start : DroneLine
no_start = record { line = 0; name = record { items = [] }; at = record { x = pos 0; y = pos 0; z = pos 0; yaw = pos 0 } }

-- there are as many trajectories as drones
pub flights_counted : (first : ℕ) (starts : List DroneLine) (cues : List Cue) → length (trajectories_of starts (expanded_from first starts cues)) ≡ length starts
flights_counted first [] cues = refl
flights_counted first (s ∷ starts) cues = ap suc (flights_counted (first + 1) starts cues)

pub by_cue_counted : (g : Grid) → length (by_cue g) ≡ length g.starts
unfolding expanded
by_cue_counted g = flights_counted 0 g.starts g.cues

-- the pieces of a drone of a grid
pub row_at_is : (g : Grid) (d : ℕ) → d < length g.starts → get_or (expanded g) d [] ≡ pieces_from (start_of g d) d g.cues
unfolding expanded
row_at_is g d drone =
    let e : 0 + d ≡ d = omega arith in
    row_is 0 g.starts g.cues d _ [] drone ∙ ap (λ (n : ℕ). pieces_from (start_of g d) n g.cues) e

-- the line of a drone has its start
start_is : (g : Grid) (d : ℕ) (s : DroneLine) → d < length g.starts → start_of g d ≡ (get_or g.starts d s).at
start_is g d s drone = get_or-map (λ (s : DroneLine). s.at) g.starts d s _ drone

-- where each number of a grid fits a trajectory, those of each drone do
pub drone_fits : (g : Grid) (d : ℕ) → d < length g.starts → FitsWell g → FitsDrone g d
drone_fits g d drone fits =
    let s : DroneLine = get_or g.starts d no_start in
    record {
      start = subst StartsWell (sym (start_is g d no_start drone)) (All-get_or (λ (s : DroneLine). StartsWell s.at) g.starts d no_start drone fits.starts);
      pieces = subst (All RoundsWell) (row_at_is g d drone) (All-get_or (All RoundsWell) (expanded g) d [] (omega (arith, rows_counted g)) fits.pieces);
    }

-- and the other way round
pub all_fit : (g : Grid) → ((d : ℕ) → d < length g.starts → FitsDrone g d) → FitsWell g
all_fit g each = record {
  starts = All-from_get_or (λ (s : DroneLine). StartsWell s.at) g.starts no_start (λ d drone. subst StartsWell (start_is g d no_start drone) (each d drone).start);
  pieces = All-from_get_or (All RoundsWell) (expanded g) [] (λ d within.
      let drone : d < length g.starts = omega (arith, rows_counted g) in
      subst (All RoundsWell) (sym (row_at_is g d drone)) (each d drone).pieces);
}

-- the piece of a drone in a cue of a grid
piece_at_is : (g : Grid) (d k : ℕ) → d < length g.starts → k < length g.cues →
    piece_at g d k ≡ piece_of (point_before g d k) (get_or (cue_times g) k 0) (job_at g d k)
piece_at_is g d k drone cue =
    let other : MicroPiece = record { ms = 0; axes = [] } in
    ap (λ (pieces : List MicroPiece). get_or pieces k other) (row_at_is g d drone) ∙ piece_is (start_of g d) d g.cues k other cue

pub flight_at_is : (g : Grid) (d : ℕ) → d < length g.starts → get_or (by_cue g) d no_trajectory ≡ flight g d
unfolding expanded
flight_at_is g d drone =
    let e : 0 + d ≡ d = omega arith in
    flight_is 0 g.starts g.cues d _ drone ∙ ap (λ (n : ℕ). trajectory_of (start_of g d) (pieces_from (start_of g d) n g.cues)) e

-- this piece, by the point before it, the time of the cue and the job
abbrev cue_piece : Grid → ℕ → ℕ → MicroPiece
cue_piece g d k = piece_of (point_before g d k) (get_or (cue_times g) k 0) (job_at g d k)

-- the decoded position of a drone within a cue, by its piece
decoded_is : (g : Grid) (d axis : ℕ) (m : Moment) → m.cue < length g.cues → axis < 4 →
    decoded (flight g d) axis m
    ≡ position (at (start_at (point_before g d m.cue)) axis ∷ stored (element_on (segment_of (cue_piece g d m.cue)) axis)) m.a m.c
decoded_is g d axis m cue small =
    let p : Point = start_of g d in
    let other : MicroPiece = record { ms = 0; axes = [] } in
    decoded-points (flight g d) axis m
    ∙ ap (λ (points : List ℤ). position points m.a m.c)
    (points_are (at (start_at p) axis) p d g.cues m.cue axis other cue small refl
    ∙ ap (λ (piece : MicroPiece). at (start_at (point_before g d m.cue)) axis ∷ stored (element_on (segment_of piece) axis)) (piece_is p d g.cues m.cue other cue))

-- the written position of a drone within a cue, by its piece
written_is : (g : Grid) (d axis : ℕ) (m : Moment) → d < length g.starts → IsInside (length g.cues) m → axis < 4 →
    position (controls (axis_on (cue_piece g d m.cue) axis)) m.a m.c ≡ written_at g d m.cue axis m.a m.c
written_is g d axis m drone inside small =
    ap (λ (piece : MicroPiece). position (controls (axis_on piece axis)) m.a m.c) (sym (piece_at_is g d m.cue drone inside.cue))
    ∙ flies_as_written g d m.cue axis drone inside.cue small m.a m.c inside.some inside.within

-- near on x, y or z, from near by the piece
by_piece : (axis : Axis) (e : Element) (first w d : ℤ) (a c : ℕ) → IsAxis axis →
    IsNear (position (controls axis) a c) (position (first_control (rounded axis) ∷ stored e) a c) c →
    first_control axis ≡ first → position (controls axis) a c ≡ w → d ≡ position (millimetres first ∷ stored e) a c → IsNear w d c
by_piece axis e first w d a c is near begins written decoded = grind (arith, common_steps, rounded_edges)

-- within a cue, both over its c
abbrev NearAt : Grid → ℕ → ℕ → Moment → Type 0
NearAt g d axis m = IsNear (written_at g d m.cue axis m.a m.c) (decoded (flight g d) axis m) m.c

-- within a cue the drone flies near on x, y or z, as its piece does
near_on : (g : Grid) (d axis : ℕ) (m : Moment) → d < length g.starts → IsInside (length g.cues) m → axis < 4 →
    at (start_at (point_before g d m.cue)) axis ≡ millimetres (on_axis (point_before g d m.cue) axis) →
    KeepsNear (axis_on (cue_piece g d m.cue) axis) (element_on (segment_of (cue_piece g d m.cue)) axis) → NearAt g d axis m
near_on g d axis m drone inside small starts keeps =
    let p : Point = point_before g d m.cue in
    let j : Job = job_at g d m.cue in
    let ms : ℕ = get_or (cue_times g) m.cue 0 in
    let e : Element = element_on (segment_of (piece_of p ms j)) axis in
    by_piece (axis_on (piece_of p ms j) axis) e (on_axis p axis) (written_at g d m.cue axis m.a m.c) (decoded (flight g d) axis m) m.a m.c (axis_is p ms j axis small)
    (keeps m.a m.c inside.some inside.within)
    (piece_begins p ms j axis small) (written_is g d axis m drone inside small) (decoded_is g d axis m inside.cue small ∙ ap (λ (z : ℤ). position (z ∷ stored e) m.a m.c) starts)

-- within a cue the yaw is equal
same_yaw : (g : Grid) (d : ℕ) (m : Moment) → d < length g.starts → IsInside (length g.cues) m → decoded (flight g d) 3 m ≡ written_at g d m.cue 3 m.a m.c
same_yaw g d m drone inside =
    let p : Point = point_before g d m.cue in
    let j : Job = job_at g d m.cue in
    let ms : ℕ = get_or (cue_times g) m.cue 0 in
    decoded_is g d 3 m inside.cue (omega arith)
    ∙ ap (λ (z : ℤ). position (z ∷ stored (element_on (segment_of (piece_of p ms j)) 3)) m.a m.c) (sym (piece_begins p ms j 3 (omega arith)))
    ∙ (stays_near (piece_of p ms j) (piece_whole p ms j)).yaw m.a m.c inside.some inside.within
    ∙ written_is g d 3 m drone inside (omega arith)

-- ---- all drones

-- each cue lasts some time
pub cues_last : (n : ℕ) (cues : List Cue) → FitCues n cues → All (λ ms. 1 ≤ ms) (map (λ (cue : Cue). cue.ms) cues)
cues_last n [] fit = All-nil (λ (ms : ℕ). 1 ≤ ms)
cues_last n (cue ∷ cues) fit = All-cons (λ (ms : ℕ). 1 ≤ ms) cue.ms (map (λ (cue : Cue). cue.ms) cues) fit.0.lasts (cues_last n cues fit.1)

pub times_counted : (cues : List Cue) → length (map (λ (cue : Cue). cue.ms) cues) ≡ length cues
times_counted [] = refl
times_counted (cue ∷ cues) = ap suc (times_counted cues)

-- an instant of the show lies in one of its cues
instant_inside : (g : Grid) (p q : ℕ) → IsGrid g → 1 ≤ q → p ≤ q * sum (cue_times g) → IsInside (length g.cues) (moment (cue_times g) p q)
instant_inside g p q is some before =
    let count : length (cue_times g) ≡ length g.cues = times_counted g.cues in
    subst (λ (n : ℕ). IsInside n (moment (cue_times g) p q)) count
    (moment-inside (cue_times g) p q some (omega (arith, count, is.some_cue)) (cues_last (length g.starts) g.cues is.cues) before)

-- ---- within a cue, and at every instant

-- A trajectory that makes the same curve as a drone's own, of one segment a cue, flies near to what the show says.
flies_near : (g : Grid) (d : ℕ) (t : Traj) → IsGrid g → d < length g.starts → SameCurve (flight g d) t → sum (durations t.segments) ≡ sum (cue_times g) → FliesNear g d t
flies_near g d t is drone same lasts = record {
  lasts = lasts;
  x = on 0 (omega arith) (λ k. refl) (λ k. (stays k).x);
  y = on 1 (omega arith) (λ k. refl) (λ k. (stays k).y);
  z = on 2 (omega arith) (λ k. refl) (λ k. (stays k).z);
  yaw = λ p q some before.
      same_at 3 p q ∙ ap (λ (z : ℤ). z *ℤ power (pos (own t p q).c) 7) (same_yaw g d (moment (cue_times g) p q) drone (instant_inside g p q is some before));
}
  where
    -- the drone's own moment is that of the cue
    own_is : (p q : ℕ) → own (flight g d) p q ≡ moment (cue_times g) p q
    own_is p q = ap (λ (ms : List ℕ). moment ms p q) (times_are (start_of g d) d g.cues)

    turned : (x y a b : ℤ) → (a *ℤ x) ≡ (b *ℤ y) → (y *ℤ b) ≡ (x *ℤ a)
    turned x y a b e = mul_comm_ℤ y b ∙ sym e ∙ mul_comm_ℤ a x

    same_at : (axis p q : ℕ) → (decoded t axis (own t p q) *ℤ power (pos (moment (cue_times g) p q).c) 7)
        ≡ (decoded (flight g d) axis (moment (cue_times g) p q) *ℤ power (pos (own t p q).c) 7)
    same_at axis p q =
        subst (λ (m : Moment). (decoded t axis (own t p q) *ℤ power (pos m.c) 7) ≡ (decoded (flight g d) axis m *ℤ power (pos (own t p q).c) 7)) (own_is p q)
        (turned (decoded (flight g d) axis (own (flight g d) p q)) (decoded t axis (own t p q)) (power (pos (own t p q).c) 7) (power (pos (own (flight g d) p q).c) 7) (same axis p q))

    near : (axis p q : ℕ) → NearAt g d axis (moment (cue_times g) p q) → FliesNearOn g d t axis p q
    near axis p q at_cue =
        near_lifts (written g d axis p q) (decoded (flight g d) axis (moment (cue_times g) p q)) (decoded t axis (own t p q)) (moment (cue_times g) p q).c (own t p q).c
        at_cue (same_at axis p q)

    stays : (k : ℕ) → StaysNear (cue_piece g d k) (segment_of (cue_piece g d k))
    stays k = stays_near (cue_piece g d k) (piece_whole (point_before g d k) (get_or (cue_times g) k 0) (job_at g d k))

    on : (axis : ℕ) → axis < 4 → ((k : ℕ) → at (start_at (point_before g d k)) axis ≡ millimetres (on_axis (point_before g d k) axis)) →
        ((k : ℕ) → KeepsNear (axis_on (cue_piece g d k) axis) (element_on (segment_of (cue_piece g d k)) axis)) → AtEachInstant g (FliesNearOn g d t axis)
    on axis small starts keeps p q some before =
        let m : Moment = moment (cue_times g) p q in
        near axis p q (near_on g d axis m drone (instant_inside g p q is some before) small (starts m.cue) (keeps m.cue))

-- a drone's trajectory lasts as long as the show, cue by cue
pub flight_lasts : (g : Grid) (d : ℕ) → d < length g.starts → durations (get_or (by_cue g) d no_trajectory).segments ≡ cue_times g
flight_lasts g d drone = ap (λ (t : Traj). durations t.segments) (flight_at_is g d drone) ∙ times_are (start_of g d) d g.cues

-- what a place of the trajectories that are sent has
sent_at_is : (g : Grid) (d : ℕ) → d < length g.starts → get_or (sent g) d no_trajectory ≡ joined (flight g d)
sent_at_is g d drone =
    get_or-map joined (by_cue g) d no_trajectory no_trajectory (omega (arith, by_cue_counted g, drone)) ∙ ap joined (flight_at_is g d drone)

pub sent_counted : (g : Grid) → length (sent g) ≡ length g.starts
sent_counted g = length-map (by_cue g) joined ∙ by_cue_counted g

flight_is_lasting : (g : Grid) (d : ℕ) → IsGrid g → IsLasting (flight g d)
flight_is_lasting g d is =
    subst (λ (ms : List ℕ). All (λ ms. 1 ≤ ms) ms) (sym (times_are (start_of g d) d g.cues)) (cues_last (length g.starts) g.cues is.cues)

-- What is sent of a valid grid keeps near to its show.
pub keeps_near_show : (g : Grid) → IsGrid g → KeepsNearShow g (sent g)
keeps_near_show g is = record {
  drones = sent_counted g;
  near = λ d small.
      let drone : d < length g.starts = omega (arith, sent_counted g) in
      subst (λ (t : Traj). FliesNear g d t) (sym (sent_at_is g d drone))
      (flies_near g d (joined (flight g d)) is drone (join_holds_law.same (flight g d) (flight_is_lasting g d is))
      (join_holds_law.lasts (flight g d) ∙ ap (λ (ms : List ℕ). sum ms) (times_are (start_of g d) d g.cues)));
}
