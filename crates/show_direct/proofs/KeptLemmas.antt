-- A flight that ended with 0 was flown to its last step, and its show was kept.
use Rattle.show_direct.proofs.Prelude.{◌≡◌, ℕ, ◌*◌, ◌<◌, ◌≤◌, ◌==◌, true, List, [], ◌∷◌, Contains, get_or, length, map, min, Option, Some, None, refl, sym, ap, ◌∙◌, arith, length-map, sum_by-cons, sum, option_map, option_or, Name, ShowLaw, PlainShow, grid_of, FitCues, IsGrid, joined, durations, Traj, most_ms, sent, start, HasShow, KeptLaw, lasts, Flight, item_limit, FlightGives, dialogue_of, Refusal, flight_lasts, in_order, no_plan, trajectories_of, FlightOptions, AreFlight, flight_of, most_silence, routes_of, Accepts}
use Rattle.std.proofs.Math.Nat.{min-le_right}
use Rattle.cue_grid.proofs.Fits.{fit_grid}
use Rattle.cue_grid.specs.declared.grid.Cue.{Cue}
use Rattle.cue_grid.specs.declared.grid.GridFault.{GridFault}
use Rattle.figure_expand.specs.declared.fault.AxisValue.{AxisValue}
use Rattle.flight_model.specs.declared.events.Frame.TheVariants.{Over}
use Rattle.link_dialogue.proofs.EndLemmas.{ends_zero}
use Rattle.flight_link.proofs.OrderLemmas.{zero_said}
unfoldable use Rattle.flight_link.specs.Sends.{ended}
use Rattle.show_plan.specs.Trajectories.{by_cue, cue_times}

-- ---- the end that gives 0

pub said_kept : (f : Flight) (bytes output : List ℕ) (g : FlightGives f bytes 0 output) → Contains (sent f (start f) g.items) (Over true true)
said_kept f bytes output g = zero_said f g.items (ends_zero (dialogue_of f) (ended f g.items) (length g.items == item_limit) g.rest g.ends)

-- ---- how long a show lasts

-- cues last at most 65,535 milliseconds each
cues_short : (n : ℕ) (cues : List Cue) → FitCues n cues → sum (map (λ (cue : Cue). cue.ms) cues) ≤ 65535 * length cues
cues_short n [] fit = omega arith
cues_short n (cue ∷ cues) fit =
    omega (arith, sum_by-cons (λ (k : ℕ). k) cue.ms (map (λ (c : Cue). c.ms) cues), fit.0.short, cues_short n cues fit.1)

-- trajectories last as long as the first of them
first_lasts : (ts : List Traj) (none : Traj) → lasts ts ≤ sum (durations (get_or ts 0 none).segments)
first_lasts [] none = omega arith
first_lasts (t ∷ ts) none = omega arith

show_short : (s : PlainShow) → IsGrid (grid_of s) → lasts (trajectories_of s) ≤ most_ms
show_short s is =
    let g = grid_of s in
    let whole : sum (durations (get_or (by_cue g) 0 (record { start = []; segments = [] })).segments) ≡ sum (cue_times g) =
    ap (λ (ms : List ℕ). sum ms) (flight_lasts g 0 (omega (arith, is.some_start))) in
    omega (arith, first_lasts (by_cue g) (record { start = []; segments = [] }), whole, cues_short (length g.starts) g.cues is.cues, is.few_cues)

-- ---- a show that nothing refuses

no_grid_fault : (names : List Name) (g : Option GridFault) (r : Option AxisValue) (rest : Option Refusal) → option_or (option_map (no_plan names) (in_order g r None)) rest ≡ None → g ≡ None
no_grid_fault names None r rest none = refl
no_grid_fault names (Some f) r rest none = absurd (cc)

pub accepted_grid : ShowLaw → (depth : ℕ) (bytes : List ℕ) (s : PlainShow) → Accepts depth bytes s → IsGrid (grid_of s)
accepted_grid law depth bytes s accepts =
    fit_grid s (law.valid _ s accepts.stands) (no_grid_fault _ _ _ _ accepts.accepted)

-- ---- the flight of shows

-- The steps of a flight fly its show.
has_show : KeptLaw → (o : FlightOptions) (up show down : PlainShow) → AreFlight o up show down → IsGrid (grid_of show) → HasShow (flight_of o up show down)
has_show law o up show down is grid =
    let quiet : min o.silence most_silence < most_ms = omega (arith, min-le_right o.silence most_silence) in
    let flown : HasShow (record (flight_of o up show down) { curves = trajectories_of show }) =
    law.has_show (record (flight_of o up show down) { curves = trajectories_of show }) (routes_of o up show down) is.flight refl refl refl (show_short show grid) quiet in
    record {
      number = flown.number;
      starting = flown.starting;
      next = flown.next;
      is_starting = flown.is_starting;
      is_next = flown.is_next;
      starts = flown.starts;
      asked = flown.asked;
      each = flown.each ∙ sym (length-map (trajectories_of show) joined);
      waits = flown.waits;
      short = flown.short;
      heard = flown.heard;
    }

pub flies_show : ShowLaw → KeptLaw → (o : FlightOptions) (up show down : PlainShow) (bytes : List ℕ) → AreFlight o up show down → Accepts o.depth bytes show → HasShow (flight_of o up show down)
flies_show law kept o up show down bytes is accepts = has_show kept o up show down is (accepted_grid law o.depth bytes show accepts)
