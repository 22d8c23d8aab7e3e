-- How far the numbers of points and acts are from 0.
use Rattle.figure_expand.specs.declared.shapes.Quarter.{Quarter}
use Rattle.figure_expand.specs.Steps.{IsQuarterSmall}
use Rattle.figure_expand.proofs.Prelude.{common_steps, ◌≡◌, ℕ, zero, suc, ◌+◌, ◌*◌, ◌^◌, ◌<◌, ◌≤◌, Bool, true, false, ℤ, pos, ◌+ℤ◌, ◌-ℤ◌, List, [], ◌∷◌, length, get_or, to_z, of_z, w64, arith, refl, sym, ap, subst, ◌∙◌, All, ints, to_z-of_z, All-nil, All-cons, All-get_or, All-tail, at, Point, Act, DroneLine, FitsFrame, FitsPoint, FitsCoordinate, FitsAct, Job, Cue, mirrored, turned_once, turned, IsUpTo, IsPointUpTo, IsShiftUpTo, FitsJob, FitJobs, FitsCue, FitCues, act_in, act_of, end_of, start_points, points_after, FitsYaw, FitsTriple, IsActUpTo, reach, AreInReach}
use Rattle.whole_numbers.specs.Limits.{most_cues}
use Rattle.choreo_show.specs.declared.parts.Frame.{Frame}
use Rattle.choreo_show.specs.declared.parts.Mirror.{Mirror}
use Rattle.choreo_show.specs.declared.parts.Mirror.TheVariants as mirror
use Rattle.choreo_show.specs.declared.parts.Act.TheVariants as act
use Rattle.figure_expand.proofs.Eased.{ends_as_arc}

-- ---- the points of a show

-- a bound may be larger
pub wider : (m n : ℕ) (v : ℤ) → m ≤ n → IsUpTo m v → IsUpTo n v
wider m n v less small = (omega (arith, ints, small.0), omega (arith, ints, small.1))

-- a bound of a point's numbers may be larger
pub wider_point : (m n : ℕ) (p : Point) → m ≤ n → IsPointUpTo m p → IsPointUpTo n p
wider_point m n p less small = grind (arith, common_steps, wider)

-- a point of a show
pub point_small : (p : Point) → FitsPoint p → IsPointUpTo 100000000 p
point_small p fits = omega (arith, ints)

-- a point of a show, with the bound that `apply` asks for
pub point_fits : (p : Point) → FitsPoint p → IsPointUpTo (2 ^ 40) p
point_fits p fits = wider_point 100000000 (2 ^ 40) p (omega arith) (point_small p fits)

-- a shift of a show, with the bound that `apply` asks for
pub shift_fits : (f : Frame) → FitsFrame f → IsShiftUpTo (2 ^ 40) f
shift_fits f fits = grind (arith, common_steps, wider)

-- the coordinate 0 and the yaw 0 are in range
no_way : FitsCoordinate (pos 0)
no_way = (omega (arith, ints), omega (arith, ints))

ahead : FitsYaw (pos 0)
ahead = (omega (arith, ints), omega (arith, ints))

pub heading_fits : (yaw : ℤ) → FitsYaw yaw → FitsPoint (record { x = pos 0; y = pos 0; z = pos 0; yaw = yaw })
heading_fits yaw fits = (no_way, no_way, no_way, fits)

pub centre_fits : (cx cy yaw : ℤ) → FitsCoordinate cx → FitsCoordinate cy → FitsYaw yaw → FitsPoint (record { x = cx; y = cy; z = pos 0; yaw = yaw })
centre_fits cx cy yaw x y fits = (x, y, no_way, fits)

pub triple_fits : (v : List ℤ) → FitsTriple v → FitsPoint (record { x = at v 0; y = at v 1; z = at v 2; yaw = pos 0 })
triple_fits (x ∷ y ∷ z ∷ []) fits = (fits.0, fits.1, fits.2, ahead)
triple_fits v fits = absurd fits

-- the handles and the end of a curve
pub curve_fits : (p1 p2 : List ℤ) (to : Point) → FitsAct (act.Curve p1 p2 to) → FitsTriple p1 × FitsTriple p2 × FitsPoint to
curve_fits p1 p2 to fits = fits

-- ---- acts in the show's frame

mirrored_small : (m : Mirror) (n : ℕ) (p : Point) → IsPointUpTo n p → IsPointUpTo (n + 1800) (mirrored m p)
mirrored_small mirror.None n p small = omega (arith, ints)
mirrored_small m n p small = omega (arith, ints)

turned_once_small : (n : ℕ) (p : Point) → IsPointUpTo n p → IsPointUpTo (n + 900) (turned_once p)
turned_once_small n p small = grind (arith, common_steps, ints, wider)

turned_small : (k n : ℕ) (p : Point) → IsPointUpTo n p → IsPointUpTo (n + 900 * k) (turned k p)
turned_small zero n p small = wider_point n (n + 900 * 0) p (omega arith) small
turned_small (suc k) n p small =
    wider_point ((n + 900 * k) + 900) (n + 900 * suc k) (turned_once (turned k p)) (omega arith) (turned_once_small (n + 900 * k) (turned k p) (turned_small k n p small))

-- where the mirror and the turns of a frame put a point of a show
applied_small : (f : Frame) (p : Point) → FitsFrame f → FitsPoint p → IsPointUpTo (2 ^ 27) (turned f.turns (mirrored f.mirror p))
applied_small f p frame point =
    wider_point ((100000000 + 1800) + 900 * f.turns) (2 ^ 27) (turned f.turns (mirrored f.mirror p)) (omega (arith, frame.0))
    (turned_small f.turns (100000000 + 1800) (mirrored f.mirror p) (mirrored_small f.mirror 100000000 p (point_small p point)))

act_in_small : (f : Frame) (a : Act) → FitsFrame f → FitsAct a → IsActUpTo (2 ^ 28) (act_in f a)
act_in_small f act.Hold frame fits = tt
act_in_small f (act.Line to) frame fits = omega (arith, ints, applied_small f to frame fits)
act_in_small f (act.Move to) frame fits = omega (arith, ints, applied_small f to frame fits)
act_in_small f (act.Turn yaw) frame fits = omega (arith, ints, applied_small f _ frame (heading_fits yaw fits))
act_in_small f (act.Arc ccw cx cy yaw) frame fits =
    omega (arith, ints, applied_small f _ frame (centre_fits cx cy yaw fits.0 fits.1 fits.2))
act_in_small f (act.Eased how ccw cx cy yaw) frame fits =
    omega (arith, ints, applied_small f _ frame (centre_fits cx cy yaw fits.0 fits.1 fits.2))
act_in_small f (act.Curve p1 p2 to) frame fits =
    omega (arith, ints, applied_small f _ frame (triple_fits p1 fits.0), applied_small f _ frame (triple_fits p2 fits.1), applied_small f to frame fits.2)

-- The numbers of a job's act in the show's frame are small.
pub act_small : (j : Job) → FitsJob j → IsActUpTo (2 ^ 28) (act_of j)
act_small j fits = act_in_small j.frame j.act fits.0 fits.1

-- ---- ends

-- a quarter circle takes a drone at most 2 ^ 30 further away
arc_end_small : (n : ℕ) (p : Point) (ccw : Bool) (cx cy yaw : ℤ) → IsPointUpTo n p → IsActUpTo (2 ^ 28) (act.Arc ccw cx cy yaw) → IsPointUpTo (n + 2 ^ 30) (end_of p (act.Arc ccw cx cy yaw))
unfolding end_of
arc_end_small n p true cx cy yaw small fits = omega (arith, ints)
arc_end_small n p false cx cy yaw small fits = omega (arith, ints)

-- An act takes a drone at most 2 ^ 30 further away.
pub end_small : (n : ℕ) (p : Point) (a : Act) → IsPointUpTo n p → IsActUpTo (2 ^ 28) a → IsPointUpTo (n + 2 ^ 30) (end_of p a)
unfolding end_of
end_small n p act.Hold small fits = omega (arith, ints)
end_small n p (act.Arc ccw cx cy yaw) small fits = arc_end_small n p ccw cx cy yaw small fits
end_small n p (act.Eased how ccw cx cy yaw) small fits =
    subst (IsPointUpTo (n + 2 ^ 30)) (sym (ends_as_arc p how ccw cx cy yaw)) (arc_end_small n p ccw cx cy yaw small fits)
end_small n p a small fits = omega (arith, ints)

-- one cue more
reach_more : (k : ℕ) → reach k + 2 ^ 30 ≡ reach (k + 1)
reach_more k = omega arith

-- within reach after at most 1,000 cues
pub reach_small : (k : ℕ) → k ≤ most_cues → reach k ≤ 2 ^ 40
reach_small k few = omega arith

-- after one more cue
pub end_in_reach : (k : ℕ) (p : Point) (j : Job) → IsPointUpTo (reach k) p → FitsJob j → IsPointUpTo (reach (k + 1)) (end_of p (act_of j))
end_in_reach k p j small fits = subst (λ (n : ℕ). IsPointUpTo n (end_of p (act_of j))) (reach_more k) (end_small (reach k) p (act_of j) small (act_small j fits))

pub point_in_reach : (k : ℕ) (p : Point) → k ≤ most_cues → IsPointUpTo (reach k) p → IsPointUpTo (2 ^ 40) p
point_in_reach k p few small = wider_point (reach k) (2 ^ 40) p (reach_small k few) small

-- ---- lists

-- a job of these jobs
pub job_fits : (jobs : List Job) (d : ℕ) (other : Job) → d < length jobs → FitJobs jobs → FitsJob (get_or jobs d other)
job_fits [] d other within fit = absurd (omega arith)
job_fits (j ∷ jobs) zero other within fit = fit.0
job_fits (j ∷ jobs) (suc d) other within fit = job_fits jobs d other (omega arith) fit.1

-- a cue of these cues
pub cue_fits : (n : ℕ) (cues : List Cue) (k : ℕ) (other : Cue) → k < length cues → FitCues n cues → FitsCue n (get_or cues k other)
cue_fits n [] k other within fit = absurd (omega arith)
cue_fits n (c ∷ cues) zero other within fit = fit.0
cue_fits n (c ∷ cues) (suc k) other within fit = cue_fits n cues k other (omega arith) fit.1

-- the next cue is as a grid has it
pub next_fits : (n : ℕ) (cues : List Cue) (k : ℕ) (cue : Cue) → k < length cues → cue ≡ get_or cues k cue → FitCues n cues → FitsCue n cue
next_fits n cues k cue within is fit = subst (FitsCue n) (sym is) (cue_fits n cues k cue within fit)

-- as many points as starts
pub length-start_points : (starts : List DroneLine) → length (start_points starts) ≡ length starts
length-start_points [] = refl
length-start_points (s ∷ starts) = ap suc (length-start_points starts)

-- where one of the drones starts
pub start_in_reach : (starts : List DroneLine) (d : ℕ) (other : DroneLine) → d < length starts → All (λ (s : DroneLine). FitsPoint s.at) starts → IsPointUpTo (reach 0) (get_or starts d other).at
start_in_reach starts d other within fit =
    let start : Point = (get_or starts d other).at in
    wider_point 100000000 (reach 0) start (omega arith) (point_small start (All-get_or (λ (s : DroneLine). FitsPoint s.at) starts d other within fit))

-- where drones start
pub starts_in_reach : (starts : List DroneLine) → All (λ (s : DroneLine). FitsPoint s.at) starts → AreInReach 0 (start_points starts)
starts_in_reach [] fit = All-nil (IsPointUpTo (reach 0))
starts_in_reach (s ∷ starts) fit =
    All-cons (IsPointUpTo (reach 0)) s.at (start_points starts) (start_in_reach (s ∷ starts) 0 s (omega arith) fit) (starts_in_reach starts (All-tail (λ (s : DroneLine). FitsPoint s.at) s starts fit))

-- after one more cue
pub points_in_reach : (k : ℕ) (points : List Point) (jobs : List Job) → length points ≡ length jobs → AreInReach k points → FitJobs jobs → AreInReach (k + 1) (points_after points jobs)
points_in_reach k [] jobs many small fit = All-nil (IsPointUpTo (reach (k + 1)))
points_in_reach k (p ∷ points) [] many small fit = All-nil (IsPointUpTo (reach (k + 1)))
points_in_reach k (p ∷ points) (j ∷ jobs) many small fit =
    All-cons (IsPointUpTo (reach (k + 1))) (end_of p (act_of j)) (points_after points jobs)
    (end_in_reach k p j (All-get_or (IsPointUpTo (reach k)) (p ∷ points) 0 p (omega arith) small) fit.0)
    (points_in_reach k points jobs (omega arith) (λ i d within. small (suc i) d (omega arith)) fit.1)

-- all are within the bound
pub all_small : (k : ℕ) (points : List Point) → k ≤ most_cues → AreInReach k points → All (IsPointUpTo (2 ^ 40)) points
all_small k points few small = λ i d within. point_in_reach k (get_or points i d) few (small i d within)

-- as many points as before
pub length-points_after : (points : List Point) (jobs : List Job) → length points ≡ length jobs → length (points_after points jobs) ≡ length points
length-points_after [] jobs many = refl
length-points_after (p ∷ points) [] many = absurd (omega arith)
length-points_after (p ∷ points) (j ∷ jobs) many = ap suc (length-points_after points jobs (omega arith))

-- ---- sums of 64 bits

-- a number kept in 64 bits
pub kept : (x : ℤ) → IsUpTo (2 ^ 43) x → to_z w64 (of_z w64 x) ≡ x
kept x small = to_z-of_z w64 x (omega (arith, ints, small.0, small.1))

-- which is as small as before
pub held : (n : ℕ) (x : ℤ) → n ≤ 2 ^ 43 → IsUpTo n x → IsUpTo n (to_z w64 (of_z w64 x))
held n x few small = subst (IsUpTo n) (sym (kept x (wider n (2 ^ 43) x few small))) small

-- a coordinate and a yaw of a show, kept in 64 bits
pub coordinate_held : (x : ℤ) → FitsCoordinate x → FitsCoordinate (to_z w64 (of_z w64 x))
coordinate_held x fits = subst FitsCoordinate (sym (to_z-of_z w64 x (omega (arith, ints, fits.0, fits.1)))) fits

pub yaw_held : (yaw : ℤ) → FitsYaw yaw → FitsYaw (to_z w64 (of_z w64 yaw))
yaw_held yaw fits = subst FitsYaw (sym (to_z-of_z w64 yaw (omega (arith, ints, fits.0, fits.1)))) fits

-- the way from a centre to the present value
pub way_told : (present centre v : ℤ) → IsUpTo (2 ^ 40) present → IsUpTo (2 ^ 28) centre → IsUpTo (2 ^ 41) v
    → v ≡ to_z w64 (of_z w64 present) -ℤ to_z w64 (of_z w64 centre) → to_z w64 (of_z w64 v) ≡ present -ℤ centre
way_told present centre v p c small is =
    kept v (wider (2 ^ 41) (2 ^ 43) v (omega arith) small) ∙ is
    ∙ ap (λ (z : ℤ). z -ℤ to_z w64 (of_z w64 centre)) (kept present (wider (2 ^ 40) (2 ^ 43) present (omega arith) p))
    ∙ ap (λ (z : ℤ). present -ℤ z) (kept centre (wider (2 ^ 28) (2 ^ 43) centre (omega arith) c))

-- a number by a sense, of one that is kept
pub sense_kept : (f : ℤ → ℤ) (x v w : ℤ) → IsUpTo (2 ^ 41) w → w ≡ f (to_z w64 (of_z w64 v)) → to_z w64 (of_z w64 v) ≡ x → to_z w64 (of_z w64 w) ≡ f x
sense_kept f x v w small is told = kept w (wider (2 ^ 41) (2 ^ 43) w (omega arith) small) ∙ is ∙ ap f told

-- each of two quarter circles
pub quarter_small : (qs : List Quarter) (x y d : Quarter) (k : ℕ) → k < 2 → qs ≡ x ∷ y ∷ [] → All IsQuarterSmall qs → IsQuarterSmall (get_or qs k d)
quarter_small qs x y d k inside is small = small k d (omega (arith, inside, ap length is))

-- the four points of an arc, as they are kept in 64 bits
pub arc_kept : (present centre w first second : ℤ) → IsUpTo (2 ^ 40) present → IsUpTo (2 ^ 28) centre → IsUpTo (2 ^ 41) w → IsUpTo (2 ^ 41) first → IsUpTo (2 ^ 41) second →
    to_z w64 (of_z w64 present)
    ∷ to_z w64 (of_z w64 (to_z w64 (of_z w64 present) +ℤ to_z w64 (of_z w64 first)))
    ∷ to_z w64 (of_z w64 (to_z w64 (of_z w64 (to_z w64 (of_z w64 centre) +ℤ to_z w64 (of_z w64 w))) +ℤ to_z w64 (of_z w64 second)))
    ∷ to_z w64 (of_z w64 (to_z w64 (of_z w64 centre) +ℤ to_z w64 (of_z w64 w)))
    ∷ []
    ≡ present ∷ (present +ℤ first) ∷ ((centre +ℤ w) +ℤ second) ∷ (centre +ℤ w) ∷ []
arc_kept present centre w first second p c v f s =
    let present_is : to_z w64 (of_z w64 present) ≡ present = kept present (wider (2 ^ 40) (2 ^ 43) present (omega arith) p) in
    let centre_is : to_z w64 (of_z w64 centre) ≡ centre = kept centre (wider (2 ^ 28) (2 ^ 43) centre (omega arith) c) in
    let w_is : to_z w64 (of_z w64 w) ≡ w = kept w (wider (2 ^ 41) (2 ^ 43) w (omega arith) v) in
    let first_is : to_z w64 (of_z w64 first) ≡ first = kept first (wider (2 ^ 41) (2 ^ 43) first (omega arith) f) in
    let second_is : to_z w64 (of_z w64 second) ≡ second = kept second (wider (2 ^ 41) (2 ^ 43) second (omega arith) s) in
    let one_is : to_z w64 (of_z w64 (present +ℤ first)) ≡ present +ℤ first = kept (present +ℤ first) (omega (arith, ints, p.0, f.0), omega (arith, ints, p.1, f.1)) in
    let three_is : to_z w64 (of_z w64 (centre +ℤ w)) ≡ centre +ℤ w = kept (centre +ℤ w) (omega (arith, ints, c.0, v.0), omega (arith, ints, c.1, v.1)) in
    let two_is : to_z w64 (of_z w64 ((centre +ℤ w) +ℤ second)) ≡ (centre +ℤ w) +ℤ second = kept ((centre +ℤ w) +ℤ second) (omega (arith, ints, c.0, v.0, s.0), omega (arith, ints, c.1, v.1, s.1)) in
    rw (present_is, centre_is, w_is, first_is, second_is, one_is, three_is, two_is) refl

-- three numbers, as they are kept in 64 bits
pub sum_kept : (centre first second : ℤ) → IsUpTo (2 ^ 28) centre → IsUpTo (2 ^ 43) first → IsUpTo (2 ^ 43) second →
    to_z w64 (of_z w64 (to_z w64 (of_z w64 (to_z w64 (of_z w64 centre) +ℤ to_z w64 (of_z w64 first))) +ℤ to_z w64 (of_z w64 second)))
    ≡ (centre +ℤ first) +ℤ second
sum_kept centre first second c f s =
    let centre_is : to_z w64 (of_z w64 centre) ≡ centre = kept centre (wider (2 ^ 28) (2 ^ 43) centre (omega arith) c) in
    let first_is : to_z w64 (of_z w64 first) ≡ first = kept first f in
    let second_is : to_z w64 (of_z w64 second) ≡ second = kept second s in
    let two_is : to_z w64 (of_z w64 (centre +ℤ first)) ≡ centre +ℤ first = to_z-of_z w64 (centre +ℤ first) (omega (arith, ints, c.0, f.0, c.1, f.1)) in
    let three_is : to_z w64 (of_z w64 ((centre +ℤ first) +ℤ second)) ≡ (centre +ℤ first) +ℤ second = to_z-of_z w64 ((centre +ℤ first) +ℤ second) (omega (arith, ints, c.0, f.0, s.0, c.1, f.1, s.1)) in
    rw (centre_is, first_is, second_is, two_is, three_is) refl

-- a number and a turn, as they are kept in 64 bits
pub turned_kept : (a turn : ℤ) → IsUpTo (2 ^ 40) a → IsUpTo (2 ^ 58) turn → to_z w64 (of_z w64 (to_z w64 (of_z w64 a) +ℤ to_z w64 (of_z w64 turn))) ≡ a +ℤ turn
turned_kept a turn small far =
    let a_is : to_z w64 (of_z w64 a) ≡ a = kept a (wider (2 ^ 40) (2 ^ 43) a (omega arith) small) in
    let turn_is : to_z w64 (of_z w64 turn) ≡ turn = to_z-of_z w64 turn (omega (arith, ints, far.0, far.1)) in
    let sum_is : to_z w64 (of_z w64 (a +ℤ turn)) ≡ a +ℤ turn = to_z-of_z w64 (a +ℤ turn) (omega (arith, ints, small.0, far.0, small.1, far.1)) in
    rw (a_is, turn_is, sum_is) refl

pub left_kept : (a turn : ℤ) → IsUpTo (2 ^ 40) a → IsUpTo (2 ^ 58) turn → to_z w64 (of_z w64 (to_z w64 (of_z w64 a) -ℤ to_z w64 (of_z w64 turn))) ≡ a -ℤ turn
left_kept a turn small far =
    let a_is : to_z w64 (of_z w64 a) ≡ a = kept a (wider (2 ^ 40) (2 ^ 43) a (omega arith) small) in
    let turn_is : to_z w64 (of_z w64 turn) ≡ turn = to_z-of_z w64 turn (omega (arith, ints, far.0, far.1)) in
    let difference_is : to_z w64 (of_z w64 (a -ℤ turn)) ≡ a -ℤ turn = to_z-of_z w64 (a -ℤ turn) (omega (arith, ints, small.0, far.0, small.1, far.1)) in
    rw (a_is, turn_is, difference_is) refl

-- the way between two yaws, as they are kept in 64 bits
pub way_kept : (d e : ℤ) → IsUpTo (2 ^ 40) d → IsUpTo (2 ^ 28) e → to_z w64 (of_z w64 e) -ℤ to_z w64 (of_z w64 d) ≡ e -ℤ d
way_kept d e far near =
    let d_is : to_z w64 (of_z w64 d) ≡ d = kept d (wider (2 ^ 40) (2 ^ 43) d (omega arith) far) in
    let e_is : to_z w64 (of_z w64 e) ≡ e = kept e (wider (2 ^ 28) (2 ^ 43) e (omega arith) near) in
    rw (d_is, e_is) refl
