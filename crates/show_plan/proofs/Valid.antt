-- What fits is valid.
use Rattle.show_plan.proofs.Prelude.{common_steps, ◌≡◌, ℕ, suc, ◌+◌, ◌-◌, ◌≤◌, true, Option, Some, None, IfOk, Ok, Err, Result, List, [], ◌∷◌, ◌++◌, map, length, eqb, arith, refl, sym, ap, ◌∙◌, subst, All, get_or_default, All-head, All-tail, All-nil, All-cons, All-from_get_or, IsWord, Name, is_name, DroneLine, Settings, PlainShow, FitDroneLines, FitsSettings, Grid, grid_of, grid_fault, IsGrid, Traj, durations, joined, ending, IsEncoding, IsTrajectory, range_fault, Fitted, FitError, PlanFault, by_cue, sent, cue_times, no_trajectory, StandsAsWord, size, room, first_unsendable, unsendable, in_order, IsFitted, IsSendable, FitGives, IsValidFitted}
use Rattle.crtp_packets.specs.declared.chunks.TheConstants.{MEMORY_BYTES}
use Rattle.choreo_show.proofs.Names.{name_has_bytes, name_has_no_line_feed}
use Rattle.choreo_show.specs.Valid.{IsValid}
use Rattle.cue_grid.specs.declared.grid.GridFault.{GridFault}
use Rattle.cue_grid.specs.Names.{has_double}
use Rattle.cue_grid.proofs.Distinct.{names_apart}
use Rattle.cue_grid.proofs.Fits.{fit_grid}
use Rattle.figure_expand.specs.declared.fault.AxisValue.{AxisValue}
use Rattle.show_plan.proofs.Flight.{by_cue_counted, cues_last, flight_lasts, times_counted}
use Rattle.show_plan.proofs.Sendable.{sendable, sent_flown, none_unsendable, one_sendable}

-- ---- no fault

-- where there is no fault of a show, no layer has one
no_part : (a : Option GridFault) (b : Option AxisValue) (c : Option PlanFault) → in_order a b c ≡ None → (a ≡ None) × (b ≡ None) × (c ≡ None)
no_part None None c none = (refl, refl, none)
no_part None (Some f) c none = absurd (cc)
no_part (Some f) b c none = absurd (cc)

-- ---- names

-- a name can stand as a word
pub name_is_word : (word : List ℕ) → is_name word ≡ true → IsWord word
name_is_word word named = grind (arith, common_steps, name_has_bytes, eqb, get_or_default, name_has_no_line_feed)

-- so can the names of drones that are as the language has them
pub names_are_words : (ds : List DroneLine) → FitDroneLines ds → All StandsAsWord (map (λ (d : DroneLine). d.name) ds)
names_are_words [] fit = All-nil StandsAsWord
names_are_words (d ∷ ds) fit =
    All-cons StandsAsWord d.name (map (λ (d : DroneLine). d.name) ds) (name_is_word d.name.items fit.0) (names_are_words ds fit.2)

-- they are names of the language
names_are_named : (ds : List DroneLine) → FitDroneLines ds → All (λ (n : Name). is_name n.items ≡ true) (map (λ (d : DroneLine). d.name) ds)
names_are_named [] fit = All-nil (λ (n : Name). is_name n.items ≡ true)
names_are_named (d ∷ ds) fit =
    All-cons (λ (n : Name). is_name n.items ≡ true) d.name (map (λ (d : DroneLine). d.name) ds) fit.0 (names_are_named ds fit.2)

names_counted : (ds : List DroneLine) → length (map (λ (d : DroneLine). d.name) ds) ≡ length ds
names_counted [] = refl
names_counted (d ∷ ds) = ap suc (names_counted ds)

-- ---- bytes

-- where each trajectory can be sent, its bytes have room
all_fit : (space d : ℕ) (ts : List Traj) → first_unsendable space d ts ≡ None → All (λ (t : Traj). size t ≤ space) ts
all_fit space d [] none = All-nil (λ (t : Traj). size t ≤ space)
all_fit space d (t ∷ ts) none =
    let parts = none_unsendable space d t ts none in
    All-cons (λ (t : Traj). size t ≤ space) t ts (one_sendable space d t parts.0).1 (all_fit space (d + 1) ts parts.1)

-- and is short, wherever it begins
pub short_all : (offset : ℕ) (ts : List Traj) → All (λ (t : Traj). size t ≤ MEMORY_BYTES - offset) ts → All (λ (t : Traj). size t ≤ MEMORY_BYTES) ts
short_all offset [] fit = All-nil (λ (t : Traj). size t ≤ MEMORY_BYTES)
short_all offset (t ∷ ts) fit =
    let here : size t ≤ MEMORY_BYTES - offset = All-head (λ (t : Traj). size t ≤ MEMORY_BYTES - offset) t ts fit in
    All-cons (λ (t : Traj). size t ≤ MEMORY_BYTES) t ts (omega (arith, here)) (short_all offset ts (All-tail (λ (t : Traj). size t ≤ MEMORY_BYTES - offset) t ts fit))

-- ---- all of it

each_lasts : (g : Grid) → IsGrid g → All (λ (t : Traj). durations t.segments ≡ cue_times g) (by_cue g)
each_lasts g is = All-from_get_or (λ (t : Traj). durations t.segments ≡ cue_times g) (by_cue g) no_trajectory (λ d small. flight_lasts g d (omega (arith, by_cue_counted g)))

valid_by : (f : Fitted) (s : PlainShow) → IsValid s → grid_fault s ≡ None → unsendable s ≡ None → IsFitted f s → All IsTrajectory f.trajs → IsValidFitted f
valid_by f s v none unfaulted is formed =
    let g : Grid = grid_of s in
    let grid : IsGrid g = fit_grid s v none in
    let names : length f.names ≡ length s.drones = ap (λ (ns : List Name). length ns) is.names ∙ names_counted s.drones in
    let trajs : length f.trajs ≡ length s.drones = ap (λ (ts : List Traj). length ts) is.trajs ∙ by_cue_counted g in
    record {
      settings = subst FitsSettings (sym is.settings) v.settings;
      some_drone = omega (arith, names, grid.some_start);
      few_drones = omega (arith, names, grid.few_starts);
      distinct = ap has_double is.names ∙ names_apart s none;
      named = subst (All (λ (n : Name). is_name n.items ≡ true)) (sym is.names) (names_are_named s.drones v.drones);
      words = subst (All StandsAsWord) (sym is.names) (names_are_words s.drones v.drones);
      trajs_counted = trajs ∙ sym names;
      some_cue = omega (arith, is.cues, grid.some_cue);
      few_cues = omega (arith, is.cues, grid.few_cues);
      times = cue_times g;
      times_counted = times_counted g.cues ∙ sym is.cues;
      last = cues_last (length g.starts) g.cues grid.cues;
      duration = sym is.duration;
      same_times = subst (All (λ (t : Traj). durations t.segments ≡ cue_times g)) (sym is.trajs) (each_lasts g grid);
      formed = formed;
      sent = is.sent ∙ ap (map joined) (sym is.trajs);
      sendable = subst (All IsSendable) (sym is.sent) (sendable (room s) 0 (sent g) (sent_flown g grid) unfaulted);
      room =
          subst (λ (settings : Settings). All (λ (t : Traj). size t ≤ MEMORY_BYTES - settings.offset) f.sent) (sym is.settings)
          (all_fit (room s) 0 f.sent (ap (first_unsendable (room s) 0) is.sent ∙ unfaulted));
    }

-- What is answered is valid.
pub valid_given : (r : Result Fitted FitError) (s : PlainShow) → IsValid s → FitGives r s → IfOk r (λ f. All IsTrajectory f.trajs) → IfOk r (λ f. IsValidFitted f)
valid_given (Ok f) s v gives formed =
    let none = no_part (grid_fault s) (range_fault (grid_of s)) (unsendable s) gives.0 in
    valid_by f s v none.0 none.2 gives.1 formed
valid_given (Err f) s v gives formed = tt
