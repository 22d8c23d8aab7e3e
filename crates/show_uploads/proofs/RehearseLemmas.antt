-- The laws of `rehearse`.
use Rattle.show_uploads.proofs.Prelude.{common_steps, ◌≡◌, ℕ, Bool, true, false, List, length, map, Option, Some, None, Result, Ok, refl, sym, ◌∙◌, arith, length-map, Name, PlainShow, grid_of, ScheduleLaw, schedule_of, CurveLaw, rehearsed, Refusal, Progress, Done, WorldEvent, progress, World, faulty_line, second_refusal, Cut, sent_of, words_of, Outcome, RehearsalEnds, RehearseGives, RehearseLaw, RehearseSucceeds, ScheduleGives, rehearse_known, schedule_refusal, most_text, session_of, flies_text, refused_as}
use Rattle.choreo_show.specs.declared.show.DroneLine.{DroneLine}
use Rattle.show_plan.proofs.Flight.{sent_counted}
use Rattle.show_uploads.proofs.RehearsalLemmas.{events_one, schedule_one, schedule_some}

ends_done : (p : Progress) (s : PlainShow) (events : List WorldEvent) (w : World) (o : Outcome) → p ≡ Done → RehearsalEnds p s events w o → o.status ≡ 0
ends_done p s events w o is ends = let done : RehearsalEnds Done s events w o = rw is at ends in done.0

schedule_done : (refused : Option Refusal) (s : PlainShow) (readback start : Bool) (cut : Cut) (o : Outcome) (events : List WorldEvent) → refused ≡ None → ScheduleGives refused s readback start cut o →
    schedule_of readback (words_of s) cut.second ≡ Ok events → progress (session_of s readback start) (rehearsed (session_of s readback start) events).heard ≡ Done → o.status ≡ 0
schedule_done (Some r) s readback start cut o events none gives is done = absurd (cc)
schedule_done None s readback start cut o events none gives is done = grind (arith, common_steps, events_one, ends_done)

words_counted : (s : PlainShow) → length (sent_of s) ≡ length (words_of s)
words_counted s =
    sent_counted (grid_of s) ∙ sym (length-map s.drones (λ (d : DroneLine). d.name))
    ∙ sym (length-map (map (λ (d : DroneLine). d.name) s.drones) (λ (name : Name). name.items))

some : ScheduleLaw → (start readback : Bool) (s : PlainShow) (cut : Cut) → rehearse_known readback start s cut → (o : Outcome) × RehearseGives s readback start cut o
some law start true s cut known = known
some law start false s cut known = schedule_some law (schedule_refusal s false cut) s start cut refl known (words_counted s)

done : (start readback : Bool) (s : PlainShow) (cut : Cut) (o : Outcome) → RehearseGives s readback start cut o → RehearseSucceeds s readback start cut → o.status ≡ 0
done start readback s cut o gives (events, none, is, ends) =
    schedule_done (schedule_refusal s readback cut) s readback start cut o events (refused_as most_text (schedule_of readback (words_of s) cut.second) events cut is none) gives is ends

pub rehearse_laws : CurveLaw → ScheduleLaw → RehearseLaw
rehearse_laws curve schedule depth start readback = grind (arith, common_steps, schedule_one, some, done, flies_text)
