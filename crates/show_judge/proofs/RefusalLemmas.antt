-- In which order a show's refusals come.
use Rattle.show_judge.proofs.Prelude.{common_steps, ◌≡◌, ◌⊎◌, inl, inr, ℕ, ◌+◌, ◌<◌, ◌≤◌, List, [], length, get_or, map, Option, Some, None, refl, sym, ap, subst, ◌∙◌, arith, option_map, option_or, DroneLine, PlainShow, grid_of, All-get_or, StandsAsWord, in_order, plan_fault, room, unsendable, Name, Ways, Refusal, blocked_by, marker_refusal, no_plan, show_refusal, Cut, name_at, names_of}
use Rattle.std.proofs.lemmas.List.{length-map}
use Rattle.byte_streams.specs.Words.{IsWord}
use Rattle.choreo_show.specs.Valid.{FitDroneLines}
use Rattle.cue_grid.specs.declared.grid.GridFault.{GridFault}
use Rattle.cue_grid.specs.Faults.{grid_fault}
use Rattle.figure_expand.specs.declared.fault.AxisValue.{AxisValue}
use Rattle.figure_expand.specs.Expanded.{range_fault}
use Rattle.show_plan.specs.declared.fitted.PlanFault.{PlanFault}
use Rattle.show_plan.specs.declared.fitted.PlanFault.TheVariants as fault
use Rattle.show_plan.specs.Trajectories.{sent}
use Rattle.show_plan.proofs.Flight.{sent_counted}
use Rattle.show_plan.proofs.Sendable.{IsSendFault, unsendable_names}
use Rattle.show_plan.proofs.Valid.{names_are_words}
use Rattle.figure_expand.proofs.Axes.{range_axis}

-- ---- four refusals in order

module _ (to : PlanFault → Refusal) (early long : Option PlanFault) (marked search : Option Refusal) where
  -- the first of a fault of names and numbers, a marker line, what can't be sent, and a blocked part
  abbrev first_of : Option Refusal
  first_of = option_or (option_map to early) (option_or marked (option_or (option_map to long) search))

  by_early : (f : PlanFault) → early ≡ Some f → first_of ≡ Some (to f)
  by_early f is = rw is refl

  by_marker : (r : Refusal) → early ≡ None → marked ≡ Some r → first_of ≡ Some r
  by_marker r none is = rw (none, is) refl

  by_late : (f : PlanFault) → early ≡ None → long ≡ Some f → first_of ≡ option_or marked (Some (to f))
  by_late f none is = rw (none, is) refl

  by_search : early ≡ None → marked ≡ None → long ≡ None → first_of ≡ search
  by_search none unmarked fits = rw (none, unmarked, fits) refl

-- the faults of names and numbers of a show
abbrev pub early_fault : PlainShow → Option PlanFault
early_fault s = in_order (grid_fault s) (range_fault (grid_of s)) None

-- ---- which fault it is

-- the fault is that a trajectory can't be sent
abbrev pub IsLate : PlanFault → Type 0
IsLate (fault.TooManySegments drone segments) = Unit {0}
IsLate (fault.TooLong drone bytes space) = Unit {0}
IsLate _ = ⊥

-- the drone whose trajectory can't be
abbrev pub drone_of : PlanFault → ℕ
drone_of (fault.TooManySegments drone segments) = drone
drone_of (fault.TooLong drone bytes space) = drone
drone_of _ = 0

send_fault_late : (n : ℕ) (f : PlanFault) → IsSendFault n f → IsLate f × (drone_of f < n)
send_fault_late n f named = grind (arith, common_steps, drone_of)

-- the first trajectory that can't be sent is that of a drone
late_named : (s : PlainShow) (f : PlanFault) → unsendable s ≡ Some f → IsLate f × (drone_of f < length s.drones)
late_named s f is =
    let named = send_fault_late (0 + length (sent (grid_of s))) f (unsendable_names (room s) 0 (sent (grid_of s)) f is) in
    (named.0, omega (arith, named.1, sent_counted (grid_of s)))

-- a fault is one of names and numbers, or these have none and it is one of what can't be sent
either : (a : Option GridFault) (b : Option AxisValue) (long : Option PlanFault) (f : PlanFault) → in_order a b long ≡ Some f →
    (in_order a b None ≡ Some f) ⊎ ((in_order a b None ≡ None) × (long ≡ Some f))
either (Some e) b long f is = inl is
either None (Some e) long f is = inl is
either None None long f is = inr (refl, is)

-- no fault of names and numbers is one of what can't be sent
not_early : (a : Option GridFault) (b : Option AxisValue) (f : PlanFault) → in_order a b None ≡ Some f → IsLate f → ⊥
not_early (Some e) b f is late = grind (arith, common_steps)
not_early None (Some v) f is late = grind (arith, common_steps)
not_early None None f is late = absurd (cc)

no_part : (a : Option GridFault) (b : Option AxisValue) (long : Option PlanFault) → in_order a b long ≡ None → (in_order a b None ≡ None) × (long ≡ None)
no_part None None long none = (refl, none)
no_part xs ys long none = absurd (cc)

-- ---- of a show

-- a fault of names and numbers comes first
pub early_refused : (c : Ways) (cut : Cut) (s : PlainShow) (f : PlanFault) → (IsLate f → ⊥) → plan_fault s ≡ Some f → show_refusal c cut s ≡ Some (no_plan (names_of s) f)
early_refused c cut s f other is = elim (either (grid_fault s) (range_fault (grid_of s)) (unsendable s) f is) [
  | inl early ↦ by_early (no_plan (names_of s)) (early_fault s) (unsendable s) (marker_refusal c cut) (blocked_by c.depth s) f early
  | inr late ↦ absurd (other (late_named s f late.1).0)
]

-- where a trajectory can't be sent, names and numbers have no fault
late_is : (s : PlainShow) (f : PlanFault) → IsLate f → plan_fault s ≡ Some f → (early_fault s ≡ None) × (unsendable s ≡ Some f)
late_is s f sends is = elim (either (grid_fault s) (range_fault (grid_of s)) (unsendable s) f is) [
  | inl early ↦ absurd (not_early (grid_fault s) (range_fault (grid_of s)) f early sends)
  | inr late ↦ late
]

-- its drone is one of the show's
pub late_drone : (s : PlainShow) (f : PlanFault) → IsLate f → plan_fault s ≡ Some f → drone_of f < length s.drones
late_drone s f sends is = (late_named s f (late_is s f sends is).1).1

-- a number that no trajectory can hold stands on one of four axes
pub refused_axis : (s : PlainShow) (v : AxisValue) → plan_fault s ≡ Some (fault.OutOfRange v) → v.axis ≤ 3
refused_axis s v is = by_part (grid_fault s) (range_fault (grid_of s)) refl is
  where
    by_part : (a : Option GridFault) (b : Option AxisValue) → range_fault (grid_of s) ≡ b → in_order a b (unsendable s) ≡ Some (fault.OutOfRange v) → v.axis ≤ 3
    by_part (Some e) b at is = absurd (cc)
    by_part None (Some w) at is = let same : w ≡ v = cc in range_axis (grid_of s) v (at ∙ ap (λ (x : AxisValue). Some x) same)
    by_part None None at is = absurd (late_named s (fault.OutOfRange v) is).0

-- ---- names

-- the name of a drone that is read from the drones' lines
pub name_read : (ds xs : List DroneLine) (k j : ℕ) (d : DroneLine) → xs ≡ ds → j ≡ k → k < length ds → (get_or xs j d).name ≡ name_at (map (λ (d : DroneLine). d.name) ds) k
name_read ds xs k j d xs_are j_is inside = grind (arith, common_steps)

-- it can stand as a word
pub word_read : (ds xs : List DroneLine) (k j : ℕ) (d : DroneLine) → FitDroneLines ds → xs ≡ ds → j ≡ k → k < length ds → IsWord (get_or xs j d).name.items
word_read ds xs k j d fit xs_are j_is inside =
    subst (λ (n : Name). IsWord n.items) (sym (name_read ds xs k j d xs_are j_is inside))
    (All-get_or StandsAsWord (map (λ (d : DroneLine). d.name) ds) k (record { items = [] }) (omega (arith, length-map ds (λ (d : DroneLine). d.name), inside)) (names_are_words ds fit))

-- ---- the later refusals

-- then comes a marker line
pub marker_refused : (c : Ways) (cut : Cut) (s : PlainShow) (r : Refusal) → early_fault s ≡ None → marker_refusal c cut ≡ Some r → show_refusal c cut s ≡ Some r
marker_refused c cut s r none is = by_marker (no_plan (names_of s)) (early_fault s) (unsendable s) (marker_refusal c cut) (blocked_by c.depth s) r none is

-- then what can't be sent
pub late_refused : (c : Ways) (cut : Cut) (s : PlainShow) (f : PlanFault) → IsLate f → plan_fault s ≡ Some f → show_refusal c cut s ≡ option_or (marker_refusal c cut) (Some (no_plan (names_of s) f))
late_refused c cut s f sends is =
    let late = late_is s f sends is in by_late (no_plan (names_of s)) (early_fault s) (unsendable s) (marker_refusal c cut) (blocked_by c.depth s) f late.0 late.1

-- a show that fits has none of these before the search
pub fits_early : (s : PlainShow) → plan_fault s ≡ None → early_fault s ≡ None
fits_early s fits = (no_part (grid_fault s) (range_fault (grid_of s)) (unsendable s) fits).0

pub search_left : (c : Ways) (cut : Cut) (s : PlainShow) → plan_fault s ≡ None → marker_refusal c cut ≡ None → show_refusal c cut s ≡ blocked_by c.depth s
search_left c cut s fits unmarked =
    let none = no_part (grid_fault s) (range_fault (grid_of s)) (unsendable s) fits in
    by_search (no_plan (names_of s)) (early_fault s) (unsendable s) (marker_refusal c cut) (blocked_by c.depth s) none.0 unmarked none.1
