-- What `rehearse` gives.
use Rattle.std.specs.Prelude.{◌≡◌, ℕ, ◌<◌, Bool, true, false, List, length, Option, Some, None, Ok}
use Rattle.choreo_show.specs.Plain.{PlainShow}
use Rattle.cue_grid.specs.Cues.{grid_of}
use Rattle.upload_model.specs.declared.events.Progress.{Progress}
use Rattle.upload_model.specs.declared.events.Progress.TheVariants.{Going, Done, GaveUp, Refused, Differs}
use Rattle.upload_model.specs.declared.events.WorldEvent.{WorldEvent}
use Rattle.upload_model.specs.Drones.{DroneState}
use Rattle.upload_model.specs.Hosts.{progress}
use Rattle.upload_model.specs.Theorem.{IsUnaltered}
use Rattle.upload_model.specs.Worlds.{World}
use Rattle.firmware_memory.specs.Decoded.{DecodesTo}
use Rattle.fleet_world.specs.Schedules.{schedule_of}
use Rattle.rehearsal.specs.Rehearsed.{rehearsed}
use Rattle.rehearsal.specs.Texts.{IsRehearsalText}
use Rattle.traj_codec.specs.declared.traj.Traj.{Traj}
use Rattle.refusals.specs.declared.refusal.Refusal.{Refusal}
use Rattle.refusals.specs.declared.refusal.Refusal.TheVariants as refusal
use Rattle.show_plan.specs.Landing.{Lands}
use Rattle.text_lines.specs.Marker.{part_of}
use Rattle.show_judge.specs.Headline.{FliesText}
use Rattle.show_judge.specs.Outcome.{IsVerb, refused}
use Rattle.show_judge.specs.Refused.{faulty_line, second_refusal}
use Rattle.show_judge.specs.Shows.{Cut, name_at, names_of, sent_of, words_of}
use Rattle.show_judge.specs.Verb.{FliesApart, Outcome, Verb, of_two}
use Rattle.whole_numbers.specs.Limits.{most_text}
use Rattle.show_uploads.specs.Sessions.{session_of}

-- ---- schedules

-- the memory of each drone that has a name decodes to some trajectory under this id
abbrev pub AllDecode : (ℕ → DroneState) → ℕ → List (List ℕ) → Type 0
AllDecode drones id names = (d : ℕ) → d < length names → (t : Traj) × DecodesTo (drones d) id t

-- What a rehearsal says that is done after these events: the text of what the drones of these names hold. Where nobody
-- else alters a byte, all their memories decode; without read-back no schedule alters one (`ScheduleLaw`).
pub record SaysHeld (events : List WorldEvent) (drones : ℕ → DroneState) (id : ℕ) (names : List (List ℕ))
    (text : List ℕ) : Type 0 where
  pub held : IsRehearsalText drones id names text
  pub decoded : IsUnaltered events → AllDecode drones id names

-- How a rehearsal ends, by how far the upload is after the whole schedule.
abbrev pub RehearsalEnds : Progress → PlainShow → List WorldEvent → World → Outcome → Type 0
RehearsalEnds Going s events w o = o ≡ refused refusal.Ended
RehearsalEnds (GaveUp drone packet) s events w o = o ≡ refused (refusal.GaveUp (name_at (names_of s) drone) packet)
RehearsalEnds (Refused drone packet status) s events w o =
    o ≡ refused (refusal.Refused (name_at (names_of s) drone) packet status)
RehearsalEnds (Differs drone address wanted got) s events w o =
    o ≡ refused (refusal.Differs (name_at (names_of s) drone) address wanted got)
RehearsalEnds Done s events w o = (o.status ≡ 0)
    × SaysHeld events w.drones s.settings.trajectory_id (words_of s) o.output

-- what the events of a schedule come to, over drones that are blank at the start
abbrev pub Rehearses : PlainShow → Bool → Bool → List WorldEvent → Outcome → Type 0
Rehearses s readback start events o =
    RehearsalEnds (progress (session_of s readback start) (rehearsed (session_of s readback start) events).heard) s
    events
    (rehearsed (session_of s readback start) events) o

-- a schedule's text gives its refusal, or what its events give
abbrev pub ScheduleGives : Option Refusal → PlainShow → Bool → Bool → Cut → Outcome → Type 0
ScheduleGives (Some r) s readback start cut o = o ≡ refused r
ScheduleGives None s readback start cut o =
    (events : List WorldEvent) × (schedule_of readback (words_of s) cut.second ≡ Ok events)
    × Rehearses s readback start events o

-- why a schedule's text is refused, if it is
abbrev pub schedule_refusal : PlainShow → Bool → Cut → Option Refusal
schedule_refusal s readback cut =
    second_refusal most_text (faulty_line (schedule_of readback (words_of s) cut.second)) cut

-- what a schedule's text gives, with read-back (true) or without
abbrev pub RehearseGives : PlainShow → Bool → Bool → Cut → Outcome → Type 0
RehearseGives s readback start cut o = ScheduleGives (schedule_refusal s readback cut) s readback start cut o

-- ---- completeness

-- A schedule leads to the end of the upload, with read-back (true) or without.
abbrev pub RehearseSucceeds : PlainShow → Bool → Bool → Cut → Type 0
RehearseSucceeds s readback start cut =
    (events : List WorldEvent) × (second_refusal most_text None cut ≡ None)
    × (schedule_of readback (words_of s) cut.second ≡ Ok events)
    × (progress (session_of s readback start) (rehearsed (session_of s readback start) events).heard ≡ Done)

-- ---- the command

-- what is known of an accepted show, from which it gives an outcome: that it lands; with read-back, that it gives one
abbrev pub rehearse_known : Bool → Bool → PlainShow → Cut → Type 0
rehearse_known false start s cut = Lands (grid_of s) s.settings (sent_of s)
rehearse_known true start s cut = (o : Outcome) × RehearseGives s true start cut o

abbrev pub rehearse_verb : ℕ → Bool → Bool → Verb
rehearse_verb depth start readback =
    of_two (Some depth) most_text (λ s cut o. RehearseGives s readback start cut o) (rehearse_known readback start)
    (λ s cut. FliesApart s) (λ s cut. RehearseSucceeds s readback start cut)
    (λ input old new. FliesText (part_of input))

-- the laws of the command
abbrev pub RehearseLaw : Type 0
RehearseLaw = (depth : ℕ) (start readback : Bool) → IsVerb (rehearse_verb depth start readback)
