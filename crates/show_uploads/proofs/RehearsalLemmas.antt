-- What a rehearsal gives: one outcome alone, and one where the show lands.
use Rattle.show_uploads.proofs.Prelude.{common_steps, ◌≡◌, ℕ, suc, ◌+◌, ◌<◌, Bool, true, false, cond, List, [], ◌∷◌, ◌++◌, append-nil, length, get_or, Option, Some, None, Result, Ok, Err, refl, sym, ap, subst, ◌∙◌, arith, length-replicate, option_map, option_or, PlainShow, Settings, Grid, grid_of, ScheduleLaw, schedule_of, CurveLaw, DecodesTo, Refusal, blank_drone, rehearsed, AreTexts, IsFound, IsRehearsalText, drone_text, title_line, IsLanded, Lands, session_for, Traj, Progress, Going, Done, GaveUp, Refused, Differs, WorldEvent, DroneState, progress, Upload, IsUnaltered, World, Outcome, outcome, refused, AllDecode, RehearsalEnds, Rehearses, ScheduleGives, schedule_refusal, faulty_line, most_text, Cut, name_at, names_of, sent_of, words_of, session_of, none_both, none_mapped, read_given, within_limit}
use Rattle.refusals.specs.declared.refusal.Refusal.TheVariants as refusal
use Rattle.upload_model.specs.declared.loads.Def.{Def}
use Rattle.upload_model.specs.Memories.{IsDrone}

-- ---- one outcome alone

-- what a memory decodes to is one alone
found_once : CurveLaw → (id : ℕ) (x : DroneState) (o p : Option Traj) → IsFound id x o → IsFound id x p → o ≡ p
found_once law id x None None first second = refl
found_once law id x None (Some u) first second = absurd (first u second)
found_once law id x (Some t) None first second = absurd (second t first)
found_once law id x (Some t) (Some u) first second = ap (λ (v : Traj). Some v) (law.one x id t u first second)

-- the text of what drones hold is one alone
texts_one : CurveLaw → (drones : ℕ → DroneState) (id d : ℕ) (names : List (List ℕ)) (x y : List ℕ) → AreTexts drones id d names x → AreTexts drones id d names y → x ≡ y
texts_one law drones id d [] x y first second = first ∙ sym second
texts_one law drones id d (name ∷ names) x y (o, rest, found, texts, is) (p, other, found_p, texts_p, is_p) =
    let same : o ≡ p = found_once law id (drones d) o p found found_p in
    let later : rest ≡ other = texts_one law drones id (suc d) names rest other texts texts_p in
    is ∙ ap (λ (q : Option Traj). drone_text name (drones d) q ++ rest) same ∙ ap (λ (text : List ℕ). drone_text name (drones d) p ++ text) later ∙ sym is_p

text_one : CurveLaw → (drones : ℕ → DroneState) (id : ℕ) (names : List (List ℕ)) (x y : List ℕ) → IsRehearsalText drones id names x → IsRehearsalText drones id names y → x ≡ y
text_one law drones id names x y (rest, texts, is) (other, texts_y, is_y) =
    is ∙ ap (λ (text : List ℕ). title_line ++ text) (texts_one law drones id 0 names rest other texts texts_y) ∙ sym is_y

-- outcomes of one status and one output are one
pub outcome_by : (o p : Outcome) → o.status ≡ p.status → o.output ≡ p.output → o ≡ p
outcome_by o p status output = ap (λ (n : ℕ). outcome n o.output) status ∙ ap (outcome p.status) output

ends_one : CurveLaw → (q : Progress) (s : PlainShow) (events : List WorldEvent) (w : World) (o p : Outcome) → RehearsalEnds q s events w o → RehearsalEnds q s events w p → o ≡ p
ends_one law Done s events w o p first second =
    outcome_by o p (first.0 ∙ sym second.0) (text_one law w.drones s.settings.trajectory_id (words_of s) o.output p.output first.1.held second.1.held)
ends_one law q s events w o p first second = first ∙ sym second

pub events_one : (given : Result (List WorldEvent) ℕ) (xs ys : List WorldEvent) → given ≡ Ok xs → given ≡ Ok ys → xs ≡ ys
events_one given xs ys first second = cc

-- what a schedule gives is one outcome alone
pub schedule_one : CurveLaw → (why : Option Refusal) (s : PlainShow) (readback start : Bool) (cut : Cut) (o p : Outcome) → ScheduleGives why s readback start cut o → ScheduleGives why s readback start cut p → o ≡ p
schedule_one law (Some r) s readback start cut o p first second = first ∙ sym second
schedule_one law None s readback start cut o p (events, is, ends) (others, is_others, ends_others) =
    grind (arith, common_steps, events_one, ends_one)

-- ---- one outcome where the show lands

-- drones whose memories decode have a text
texts_some : (drones : ℕ → DroneState) (id d : ℕ) (names : List (List ℕ)) → ((k : ℕ) → k < length names → (t : Traj) × DecodesTo (drones (d + k)) id t) → (text : List ℕ) × AreTexts drones id d names text
texts_some drones id d [] decoded = ([], refl)
texts_some drones id d (name ∷ names) decoded =
    let here = decoded 0 (omega arith) in
    let first : DecodesTo (drones d) id here.0 = subst (λ (n : ℕ). DecodesTo (drones n) id here.0) (omega arith) here.1 in
    let later = texts_some drones id (suc d) names (λ k within.
    let at_k = decoded (suc k) (omega (arith, within)) in
    (at_k.0, subst (λ (n : ℕ). DecodesTo (drones n) id at_k.0) (omega arith) at_k.1)) in
    (drone_text name (drones d) (Some here.0) ++ later.0, (Some here.0, later.0, first, later.1, refl))

text_some : (drones : ℕ → DroneState) (id : ℕ) (names : List (List ℕ)) → AllDecode drones id names → (text : List ℕ) × IsRehearsalText drones id names text
text_some drones id names decoded =
    let texts = texts_some drones id 0 names (λ k within. let at_k = decoded k within in (at_k.0, subst (λ (n : ℕ). DecodesTo (drones n) id at_k.0) (omega arith) at_k.1)) in
    (title_line ++ texts.0, (texts.0, texts.1, refl))

-- a blank drone is a drone
blank_is_drone : (s : Upload) → IsDrone (blank_drone s)
blank_is_drone s = record { memory = length-replicate {A = ℕ} 4096 255; table = length-replicate {A = Option Def} 10 None }

-- after a rehearsal that is done each memory decodes, where the trajectories land and nobody altered a byte
pub decoded_after : (g : Grid) (e : Settings) (trajs : List Traj) (readback start : Bool) (events : List WorldEvent) → Lands g e trajs → IsUnaltered events →
    progress (session_for e trajs readback start) (rehearsed (session_for e trajs readback start) events).heard ≡ Done →
    (d : ℕ) → d < length trajs → (t : Traj) × DecodesTo ((rehearsed (session_for e trajs readback start) events).drones d) e.trajectory_id t
decoded_after g e trajs readback start events lands unaltered done d within =
    let s : Upload = session_for e trajs readback start in
    let landed : IsLanded g e trajs readback start (λ n. blank_drone s) (rehearsed s (events ++ [])).drones =
    lands readback start (λ (n : ℕ). blank_drone s) events [] (λ n known. blank_is_drone s) (subst IsUnaltered (sym (append-nil events)) unaltered) done in
    let here : IsLanded g e trajs readback start (λ n. blank_drone s) (rehearsed s events).drones =
    subst (λ (es : List WorldEvent). IsLanded g e trajs readback start (λ n. blank_drone s) (rehearsed s es).drones) (append-nil events) landed in
    (get_or trajs d _, (here.carried d within).decodes)

ends_some : (q : Progress) (s : PlainShow) (events : List WorldEvent) (w : World) → (q ≡ Done → AllDecode w.drones s.settings.trajectory_id (words_of s)) → (o : Outcome) × RehearsalEnds q s events w o
ends_some Going s events w decoded = (refused refusal.Ended, refl)
ends_some (GaveUp drone packet) s events w decoded = (refused (refusal.GaveUp (name_at (names_of s) drone) packet), refl)
ends_some (Refused drone packet status) s events w decoded = (refused (refusal.Refused (name_at (names_of s) drone) packet status), refl)
ends_some (Differs drone address byte got) s events w decoded = (refused (refusal.Differs (name_at (names_of s) drone) address byte got), refl)
ends_some Done s events w decoded =
    let is = text_some w.drones s.settings.trajectory_id (words_of s) (decoded refl) in
    (outcome 0 is.0, (refl, record { held = is.1; decoded = λ unaltered. decoded refl }))

rehearses_some : (s : PlainShow) (readback start : Bool) (events : List WorldEvent) → Lands (grid_of s) s.settings (sent_of s) → length (sent_of s) ≡ length (words_of s) → IsUnaltered events →
    (o : Outcome) × Rehearses s readback start events o
rehearses_some s readback start events lands counted unaltered =
    ends_some (progress (session_of s readback start) (rehearsed (session_of s readback start) events).heard) s events (rehearsed (session_of s readback start) events)
    (λ done d within. decoded_after (grid_of s) s.settings (sent_of s) readback start events lands unaltered done d (omega (arith, counted, within)))

schedule_by : ScheduleLaw → (why : Option Refusal) (s : PlainShow) (start : Bool) (cut : Cut) → (why ≡ None → (events : List WorldEvent) × (schedule_of false (words_of s) cut.second ≡ Ok events)) →
    Lands (grid_of s) s.settings (sent_of s) → length (sent_of s) ≡ length (words_of s) → (o : Outcome) × ScheduleGives why s false start cut o
schedule_by law (Some r) s start cut given lands counted = (refused r, refl)
schedule_by law None s start cut given lands counted =
    let events = given refl in
    let ends = rehearses_some s false start events.0 lands counted (law (words_of s) cut.second events.0 events.1) in
    (ends.0, (events.0, events.1, ends.1))

-- what a schedule gives without read-back, for a show that lands
pub schedule_some : ScheduleLaw → (why : Option Refusal) (s : PlainShow) (start : Bool) (cut : Cut) → schedule_refusal s false cut ≡ why →
    Lands (grid_of s) s.settings (sent_of s) → length (sent_of s) ≡ length (words_of s) → (o : Outcome) × ScheduleGives why s false start cut o
schedule_some law why s start cut is lands counted =
    schedule_by law why s start cut (λ none. read_given (schedule_of false (words_of s) cut.second) (none_mapped _ (faulty_line (schedule_of false (words_of s) cut.second)) (none_both _ _ (within_limit most_text (length cut.second) _ _ (is ∙ none)).1).0)) lands counted
