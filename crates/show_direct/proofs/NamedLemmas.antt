-- The first cause against three shows that are accepted can be named by a frame.
use Rattle.show_direct.proofs.Prelude.{◌≡◌, ℕ, suc, ◌+◌, ◌*◌, ◌<◌, ◌≤◌, true, false, cond, List, [], ◌∷◌, All, length, Option, Some, None, refl, subst, arith, length-map, All-head, All-tail, option_or, ℤ, IfSome, bytes_eq, nat_le, ShowLaw, PlainShow, DroneLine, grid_of, IsGrid, Segment, Traj, Routes, after_segment, first_move, last_move, legs_of, way_begins, way_ends, FlightFault, Ellipsoid, down_fault, downs_fault, first_other, gap, is_straight, narrow, other_drone, other_ellipsoid, rests_in, restless, restless_from, route_fault, same_ellipsoid, same_place, seam_fault, seams_fault, size_fault, up_fault, ups_fault, way_fault, by_cue_counted, IsFlown, names_of, trajectories_of, FlightOptions, Accepts, ellipsoid_of, fault_of, routes_of, IsNamed}
use Rattle.arrayvec.specs.ArrayVec.{ArrayVec}
use Rattle.flight_model.specs.declared.flights.Leg.{Leg}
use Rattle.flight_steps.specs.declared.faults.FlightFault.TheVariants as fault
use Rattle.flight_steps.specs.declared.faults.Seam.{Seam}
use Rattle.flight_steps.specs.declared.faults.Seam.TheVariants as seam
use Rattle.flight_steps.specs.declared.faults.Way.{Way}
use Rattle.flight_steps.specs.declared.faults.Way.TheVariants as way
use Rattle.show_plan.proofs.Sendable.{flown}
use Rattle.show_direct.proofs.KeptLemmas.{accepted_grid}

-- what holds of either holds of the first of them
either : {A : Type 0} → (P : A → Type 0) → (a b : Option A) → IfSome a P → IfSome b P → IfSome (option_or a b) P
either P None b first second = second
either P (Some x) b first second = first

-- a number of one byte, and one of two
abbrev IsByte : ℕ → Type 0
IsByte n = n < 256

abbrev IsWord : ℕ → Type 0
IsWord n = n < 256 * 256

-- ---- names

other_small : (k : ℕ) (names others : List (ArrayVec ℕ)) → k + (length names + length others) < 256 → IfSome (first_other k names others) IsByte
other_small k [] [] few = tt
other_small k [] (b ∷ bs) few = omega (arith, few)
other_small k (a ∷ names) [] few = omega (arith, few)
other_small k (a ∷ names) (b ∷ bs) few = elim (bytes_eq a.items b.items) as (λ same. IfSome (cond same (first_other (suc k) names bs) (Some k)) IsByte) [
  | true ↦ other_small (suc k) names bs (omega (arith, few))
  | false ↦ omega (arith, few)
]

other_named : (near stray : ℕ) (w : Way) (place : Option ℕ) → IfSome place IsByte → IfSome (other_drone w place) (IsNamed near stray)
other_named near stray w None small = tt
other_named near stray w (Some d) small = small

-- ---- seams

gap_named : (near stray : ℕ) (s : Seam) (d : ℕ) (here there : List ℤ) → d < 256 → IfSome (gap s d here there) (IsNamed near stray)
gap_named near stray s d here there small = elim (same_place here there) as (λ same. IfSome (cond same None (Some (fault.Gap s d))) (IsNamed near stray)) [
  | true ↦ tt
  | false ↦ small
]

seam_named : (near stray d : ℕ) (u s n : Traj) → d < 256 → IfSome (seam_fault d u s n) (IsNamed near stray)
seam_named near stray d u s n small =
    let P = IsNamed near stray in
    let up = gap seam.UpToShow d (way_ends u) (way_begins s) in
    let show = gap seam.ShowToDown d (way_ends s) (way_begins n) in
    let down = gap seam.DownToUp d (way_ends n) (way_begins u) in
    either P up (option_or show down) (gap_named near stray seam.UpToShow d (way_ends u) (way_begins s) small)
    (either P show down (gap_named near stray seam.ShowToDown d (way_ends s) (way_begins n) small) (gap_named near stray seam.DownToUp d (way_ends n) (way_begins u) small))

seams_named : (near stray d : ℕ) (us ss ns : List Traj) → d + length us ≤ 256 → IfSome (seams_fault d us ss ns) (IsNamed near stray)
seams_named near stray d [] ss ns few = tt
seams_named near stray d (u ∷ us) [] ns few = tt
seams_named near stray d (u ∷ us) (s ∷ ss) [] few = tt
seams_named near stray d (u ∷ us) (s ∷ ss) (n ∷ ns) few =
    either (IsNamed near stray) (seam_fault d u s n) (seams_fault (suc d) us ss ns) (seam_named near stray d u s n (omega (arith, few))) (seams_named near stray (suc d) us ss ns (omega (arith, few)))

-- ---- ways

rest_small : (cue : ℕ) (here : List ℤ) (segments : List Segment) → cue + length segments ≤ 1000 → IfSome (restless_from cue here segments) IsWord
rest_small cue here [] few = tt
rest_small cue here (s ∷ rest) few = elim (rests_in here s) as (λ rests. IfSome (cond rests (restless_from (suc cue) (after_segment here s) rest) (Some cue)) IsWord) [
  | true ↦ rest_small (suc cue) (after_segment here s) rest (omega (arith, few))
  | false ↦ omega (arith, few)
]

way_named : (near stray : ℕ) (w : Way) (d : ℕ) (cue : Option ℕ) (move : Option Leg) → d < 256 → IfSome cue IsWord → IfSome (way_fault w d cue move) (IsNamed near stray)
way_named near stray w d (Some cue) move small few = (small, few)
way_named near stray w d None None small few = small
way_named near stray w d None (Some move) small few = elim (is_straight w move) as (λ upright. IfSome (cond upright None (Some (fault.Slanted w d))) (IsNamed near stray)) [
  | true ↦ tt
  | false ↦ small
]

ups_named : (near stray d : ℕ) (ts : List Traj) → d + length ts ≤ 256 → All IsFlown ts → IfSome (ups_fault d ts) (IsNamed near stray)
ups_named near stray d [] few whole = tt
ups_named near stray d (t ∷ ts) few whole =
    either (IsNamed near stray) (up_fault d t) (ups_fault (suc d) ts)
    (way_named near stray way.Up d (restless t) (first_move (legs_of t)) (omega (arith, few)) (rest_small 0 t.start t.segments (omega (arith, (All-head IsFlown t ts whole).few))))
    (ups_named near stray (suc d) ts (omega (arith, few)) (All-tail IsFlown t ts whole))

downs_named : (near stray d : ℕ) (ts : List Traj) → d + length ts ≤ 256 → All IsFlown ts → IfSome (downs_fault d ts) (IsNamed near stray)
downs_named near stray d [] few whole = tt
downs_named near stray d (t ∷ ts) few whole =
    either (IsNamed near stray) (down_fault d t) (downs_fault (suc d) ts)
    (way_named near stray way.Down d (restless t) (last_move (legs_of t)) (omega (arith, few)) (rest_small 0 t.start t.segments (omega (arith, (All-head IsFlown t ts whole).few))))
    (downs_named near stray (suc d) ts (omega (arith, few)) (All-tail IsFlown t ts whole))

ellipsoid_named : (near stray : ℕ) (w : Way) (a b : Ellipsoid) → IfSome (other_ellipsoid w a b) (IsNamed near stray)
ellipsoid_named near stray w a b = elim (same_ellipsoid a b) as (λ same. IfSome (cond same None (Some (fault.OtherEllipsoid w))) (IsNamed near stray)) [
  | true ↦ tt
  | false ↦ tt
]

sizes_named : (near stray : ℕ) (up show down : Ellipsoid) → IfSome (size_fault up show down) (IsNamed near stray)
sizes_named near stray up show down =
    either (IsNamed near stray) (other_ellipsoid way.Up up show) (other_ellipsoid way.Down down show) (ellipsoid_named near stray way.Up up show) (ellipsoid_named near stray way.Down down show)

narrow_named : (w : Routes) → IfSome (narrow w) (IsNamed w.near w.stray)
narrow_named w = elim (nat_le w.near w.stray) as (λ wide. IfSome (cond wide None (Some (fault.Narrow w.near w.stray))) (IsNamed w.near w.stray)) [
  | true ↦ tt
  | false ↦ (refl, refl)
]

-- ---- all

names_few : (s : PlainShow) → IsGrid (grid_of s) → length (names_of s) ≤ 32
names_few s is = omega (arith, is.few_starts, length-map s.drones (λ (d : DroneLine). d.name))

ways_few : (s : PlainShow) → IsGrid (grid_of s) → length (trajectories_of s) ≤ 32
ways_few s is = omega (arith, is.few_starts, by_cue_counted (grid_of s))

fault_named : (o : FlightOptions) (up show down : PlainShow) → IsGrid (grid_of up) → IsGrid (grid_of show) → IsGrid (grid_of down) → IfSome (fault_of o up show down) (IsNamed o.near up.settings.stray)
fault_named o up show down is_up is_show is_down =
    let w = routes_of o up show down in
    let near = o.near in
    let stray = up.settings.stray in
    let P = IsNamed near stray in
    let other_up = first_other 0 (names_of up) (names_of show) in
    let other_down = first_other 0 (names_of down) (names_of show) in
    let crews =
    either P (other_drone way.Up other_up) (other_drone way.Down other_down)
    (other_named near stray way.Up other_up (other_small 0 (names_of up) (names_of show) (omega (arith, names_few up is_up, names_few show is_show))))
    (other_named near stray way.Down other_down (other_small 0 (names_of down) (names_of show) (omega (arith, names_few down is_down, names_few show is_show)))) in
    let routes =
    either P (seams_fault 0 w.up w.show w.down) (option_or (ups_fault 0 w.up) (option_or (downs_fault 0 w.down) (narrow w)))
    (seams_named near stray 0 w.up w.show w.down (omega (arith, ways_few up is_up)))
    (either P (ups_fault 0 w.up) (option_or (downs_fault 0 w.down) (narrow w)) (ups_named near stray 0 w.up (omega (arith, ways_few up is_up)) (flown (grid_of up) is_up))
    (either P (downs_fault 0 w.down) (narrow w) (downs_named near stray 0 w.down (omega (arith, ways_few down is_down)) (flown (grid_of down) is_down)) (narrow_named w))) in
    let sizes = size_fault (ellipsoid_of up) (ellipsoid_of show) (ellipsoid_of down) in
    let names = option_or (other_drone way.Up other_up) (other_drone way.Down other_down) in
    either P (option_or names sizes) (route_fault w) (either P names sizes crews (sizes_named near stray (ellipsoid_of up) (ellipsoid_of show) (ellipsoid_of down))) routes

some_named : (why : Option FlightFault) (f : FlightFault) (P : FlightFault → Type 0) → why ≡ Some f → IfSome why P → P f
some_named None f P is holds = absurd (cc)
some_named (Some g) f P is holds = let same : g ≡ f = cc in subst P same holds

pub named : ShowLaw → (o : FlightOptions) (first second third : List ℕ) (up show down : PlainShow) (f : FlightFault) →
    Accepts o.depth first up → Accepts o.depth second show → Accepts o.depth third down → fault_of o up show down ≡ Some f → IsNamed o.near up.settings.stray f
named law o first second third up show down f is_up is_show is_down is =
    some_named (fault_of o up show down) f (IsNamed o.near up.settings.stray) is
    (fault_named o up show down (accepted_grid law o.depth first up is_up) (accepted_grid law o.depth second show is_show) (accepted_grid law o.depth third down is_down))
