-- Why three shows are no flight: the first cause, in this order. Names on the way up, then on the way down; the
-- ellipsoid of the way up, then of the way down; drone by drone, whether each of the three begins where the one before
-- ended; drone by drone, the way up; then the way down; then how far drones may stand from their pads.
use Rattle.std.specs.Prelude.{◌≡◌, ℕ, suc, Bool, true, ◌&&◌, ◌==◌, nat_le, if◌then◌else◌, List, [], ◌∷◌, length, map}
use Rattle.std.specs.Prelude.{Option, Some, None, ℤ, bytes_eq, Result, Ok, Err, All}
use Rattle.std.specs.Ordering.{int_eq}
use Rattle.std.specs.Cmp.Lexicographic.{pointwise}
use Rattle.std.specs.Option.{option_or}
use Rattle.whole_numbers.specs.Bernstein.{at}
use Rattle.traj_codec.specs.Positions.{element_on}
use Rattle.traj_codec.specs.declared.traj.Element.{Element}
use Rattle.traj_codec.specs.Spelling.{stored}
use Rattle.traj_codec.specs.declared.traj.Segment.{Segment}
use Rattle.traj_codec.specs.declared.traj.Traj.{Traj}
use Rattle.arrayvec.specs.ArrayVec.{ArrayVec}
use Rattle.flight_model.specs.declared.flights.Step.{Step}
use Rattle.flight_model.specs.declared.flights.Leg.{Leg}
use Rattle.flight_model.specs.Legs.{Routes, IsFlight, after_segment, way_begins, way_ends, legs_of, first_move}
use Rattle.flight_model.specs.Legs.{last_move, goes_up, goes_down, steps_of}
use Rattle.flight_steps.specs.declared.faults.Way.{Way}
use Rattle.flight_steps.specs.declared.faults.Way.TheVariants as way
use Rattle.flight_steps.specs.declared.faults.Seam.{Seam}
use Rattle.flight_steps.specs.declared.faults.Seam.TheVariants as seam
use Rattle.flight_steps.specs.declared.faults.FlightFault.{FlightFault}
use Rattle.flight_steps.specs.declared.faults.FlightFault.TheVariants as fault
use Rattle.flight_steps.specs.declared.faults.StepsError.{StepsError}
use Rattle.flight_steps.specs.declared.faults.StepsError.TheVariants as error
use Rattle.flight_steps.specs.declared.ways.Crews.{Crews}
use Rattle.flight_steps.specs.declared.ways.Ellipsoid.{Ellipsoid}
use Rattle.flight_steps.specs.Sizes.{IsStepOf}

-- ---- names

-- the first place, from d on, where two lists of names differ, or where one of them ends
abbrev pub first_other : ℕ → List (ArrayVec ℕ) → List (ArrayVec ℕ) → Option ℕ
first_other d [] [] = None
first_other d [] (b ∷ bs) = Some d
first_other d (a ∷ as') [] = Some d
first_other d (a ∷ as') (b ∷ bs) = if bytes_eq a.items b.items then first_other (suc d) as' bs else Some d

abbrev pub other_drone : Way → Option ℕ → Option FlightFault
other_drone w None = None
other_drone w (Some d) = Some (fault.OtherDrone w d)

-- ---- ellipsoids

-- whether two ellipsoids have the same half axes
abbrev pub same_ellipsoid : Ellipsoid → Ellipsoid → Bool
same_ellipsoid a b = a.r == b.r && a.h == b.h

abbrev pub other_ellipsoid : Way → Ellipsoid → Ellipsoid → Option FlightFault
other_ellipsoid w a b = if same_ellipsoid a b then None else Some (fault.OtherEllipsoid w)

-- ---- seams

-- whether two positions are the same
abbrev pub same_place : List ℤ → List ℤ → Bool
same_place here there = pointwise int_eq here there

abbrev pub gap : Seam → ℕ → List ℤ → List ℤ → Option FlightFault
gap s d here there = if same_place here there then None else Some (fault.Gap s d)

-- whether the three ways of a drone meet
abbrev pub seam_fault : ℕ → Traj → Traj → Traj → Option FlightFault
seam_fault d u s n =
    option_or (gap seam.UpToShow d (way_ends u) (way_begins s))
    (option_or (gap seam.ShowToDown d (way_ends s) (way_begins n)) (gap seam.DownToUp d (way_ends n) (way_begins u)))

abbrev pub seams_fault : ℕ → List Traj → List Traj → List Traj → Option FlightFault
seams_fault d [] ss ns = None
seams_fault d (u ∷ us) [] ns = None
seams_fault d (u ∷ us) (s ∷ ss) [] = None
seams_fault d (u ∷ us) (s ∷ ss) (n ∷ ns) = option_or (seam_fault d u s n) (seams_fault (suc d) us ss ns)

-- ---- rest

-- From a value on, these control points stay, since there are none, or go from rest to rest: with the value itself,
-- which isn't stored, they are four times the value, and four times another.
abbrev pub rests_on : ℤ → List ℤ → Bool
rests_on u [] = true
rests_on u (v ∷ vs) =
    same_place (v ∷ vs) (u ∷ u ∷ u ∷ at (v ∷ vs) 3 ∷ at (v ∷ vs) 3 ∷ at (v ∷ vs) 3 ∷ at (v ∷ vs) 3 ∷ [])

abbrev pub rests_by : ℤ → Element → Bool
rests_by u e = rests_on u (stored e)

-- whether the drone rests on each axis
abbrev pub rests_in : List ℤ → Segment → Bool
rests_in here s =
    rests_by (at here 0) (element_on s 0) && rests_by (at here 1) (element_on s 1)
    && rests_by (at here 2) (element_on s 2) && rests_by (at here 3) (element_on s 3)

-- the first cue, from this one on, in which it doesn't
abbrev pub restless_from : ℕ → List ℤ → List Segment → Option ℕ
restless_from cue here [] = None
restless_from cue here (s ∷ rest) =
    if rests_in here s then restless_from (suc cue) (after_segment here s) rest else Some cue

abbrev pub restless : Traj → Option ℕ
restless t = restless_from 0 t.start t.segments

-- ---- a way

-- whether the move by which a drone leaves its pad goes straight up, or that by which it reaches its pad straight down
abbrev pub is_straight : Way → Leg → Bool
is_straight way.Up l = goes_up l
is_straight way.Down l = goes_down l

-- what is wrong with a way: a cue that doesn't rest, no move, or the move by which the drone leaves or reaches its pad
abbrev pub way_fault : Way → ℕ → Option ℕ → Option Leg → Option FlightFault
way_fault w d (Some cue) move = Some (fault.Restless w d cue)
way_fault w d None None = Some (fault.Still w d)
way_fault w d None (Some move) = if is_straight w move then None else Some (fault.Slanted w d)

abbrev pub up_fault : ℕ → Traj → Option FlightFault
up_fault d t = way_fault way.Up d (restless t) (first_move (legs_of t))

abbrev pub down_fault : ℕ → Traj → Option FlightFault
down_fault d t = way_fault way.Down d (restless t) (last_move (legs_of t))

-- the first drone, from d on, with a fault
abbrev pub ups_fault : ℕ → List Traj → Option FlightFault
ups_fault d [] = None
ups_fault d (t ∷ ts) = option_or (up_fault d t) (ups_fault (suc d) ts)

abbrev pub downs_fault : ℕ → List Traj → Option FlightFault
downs_fault d [] = None
downs_fault d (t ∷ ts) = option_or (down_fault d t) (downs_fault (suc d) ts)

-- ---- all

abbrev pub narrow : Routes → Option FlightFault
narrow w = if nat_le w.near w.stray then None else Some (fault.Narrow w.near w.stray)

-- what is wrong with the names
abbrev pub name_fault : Crews → Option FlightFault
name_fault c =
    option_or (other_drone way.Up (first_other 0 c.up.names.now c.show.names.now))
    (other_drone way.Down (first_other 0 c.down.names.now c.show.names.now))

-- what is wrong with the ellipsoids of the way up, the show and the way down
abbrev pub size_fault : Ellipsoid → Ellipsoid → Ellipsoid → Option FlightFault
size_fault up show down = option_or (other_ellipsoid way.Up up show) (other_ellipsoid way.Down down show)

-- what is wrong with the drones
abbrev pub crew_fault : Crews → Option FlightFault
crew_fault c = option_or (name_fault c) (size_fault c.up.ellipsoid c.show.ellipsoid c.down.ellipsoid)

-- what is wrong with the ways
abbrev pub route_fault : Routes → Option FlightFault
route_fault w =
    option_or (seams_fault 0 w.up w.show w.down)
    (option_or (ups_fault 0 w.up) (option_or (downs_fault 0 w.down) (narrow w)))

-- the first cause
abbrev pub flight_fault : Crews → Routes → Option FlightFault
flight_fault c w = option_or (crew_fault c) (route_fault w)

-- the bytes of names
abbrev pub spelled : List (ArrayVec ℕ) → List (List ℕ)
spelled names = map (λ (name : ArrayVec ℕ). name.items) names

-- Three shows are a flight: the same drones, by name, in the same order; one ellipsoid; and their ways are a flight.
pub record AreFlight (c : Crews) (w : Routes) : Type 0 where
  pub up : spelled c.up.names.now ≡ spelled c.show.names.now
  pub down : spelled c.down.names.now ≡ spelled c.show.names.now
  pub up_ellipsoid : c.up.ellipsoid ≡ c.show.ellipsoid
  pub down_ellipsoid : c.down.ellipsoid ≡ c.show.ellipsoid
  pub flight : IsFlight w

-- This is the first cause, and there is no flight.
pub record GivesFault (c : Crews) (w : Routes) (f : FlightFault) : Type 0 where
  pub first : flight_fault c w ≡ Some f
  pub none : AreFlight c w → ⊥

-- There is a flight, and these are its steps, each for as many drones as the show has.
pub record GivesSteps (c : Crews) (w : Routes) (flown : List Step) : Type 0 where
  pub flight : AreFlight c w
  pub steps : flown ≡ steps_of w
  pub sizes : All (IsStepOf (length w.show)) flown

-- The steps of a flight, or the first cause. Out of memory says nothing.
abbrev pub StepsGive : Crews → Routes → Result (List Step) StepsError → Type 0
StepsGive c w (Ok steps) = GivesSteps c w steps
StepsGive c w (Err (error.Fault f)) = GivesFault c w f
StepsGive c w (Err error.Memory) = Unit {0}
