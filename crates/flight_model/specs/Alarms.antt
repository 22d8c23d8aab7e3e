-- What is wrong is told, and where that is grave all land in that very event, or as soon as they may.
use Rattle.std.specs.Prelude.{◌≡◌, ◌≢◌, ◌⊎◌, ⊤, ℕ, ◌+◌, ◌-◌, ◌<◌, ◌≤◌, true, false, ◌&&◌, Option, Some, None, slice_get}
use Rattle.std.specs.Prelude.{Contains}
use Rattle.flight_model.specs.declared.events.Sample.{Sample}
use Rattle.flight_model.specs.declared.events.Signal.TheVariants as signal
use Rattle.flight_model.specs.declared.events.Event.{Event}
use Rattle.flight_model.specs.declared.events.Event.TheVariants.{Clock, Seen, Answered, Said}
use Rattle.flight_model.specs.declared.events.Fault.{Fault}
use Rattle.flight_model.specs.declared.events.Fault.TheVariants.{Silent, Astray, Lost, Refused, Late, Unsure, Outside}
use Rattle.flight_model.specs.declared.events.Note.{Note}
use Rattle.flight_model.specs.declared.flights.Step.{Step}
use Rattle.flight_model.specs.declared.flights.Flight.{Flight}
use Rattle.flight_model.specs.Directors.{Track, State, Steps, next_step, is_due, is_off_hold, is_lost, is_outside, later, heard}
use Rattle.flight_model.specs.Directors.{notes}
use Rattle.flight_model.specs.Law.{LandsOrWaits}

abbrev pub note_of : ℕ → Fault → Note
note_of d fault = record { drone = d; fault = fault }

-- A drone's samples have been so for `ms` by its last one, and this one makes that 300 ms or more.
pub record HasLasted (lasting : Option ℕ) (seen : Option Sample) (x : Sample) : Type 0 where
  pub ms : ℕ
  pub last : Sample
  pub is_lasting : lasting ≡ Some ms
  pub is_last : seen ≡ Some last
  pub short : ms < 300
  pub long : 300 ≤ ms + (last.age - x.age)

-- People are told of the fault; and in the steps of a flight, where the fault is grave, all land, or wait for that.
pub record Alarms (f : Flight) (s : State) (e : Event) (n : Note) (grave : Type 0) : Type 0 where
  pub noted : Contains (notes f s e) n
  pub lands : s.phase ≡ Steps → grave → LandsOrWaits f s e

-- not in a show that flies on
abbrev pub IsToLand : Flight → State → Type 0
IsToLand f s = (s.showing && f.flies_on) ≡ false

-- In every state: each fault, with the event that shows it.
pub record AlarmLaw : Type 0 where
  pub refused : (f : Flight) (s : State) (d status : ℕ) → status ≢ 0 →
      Alarms f s (Answered d status) (note_of d Refused) ⊤
  pub lost : (f : Flight) (s : State) (d : ℕ) (x : Sample) (t : Track) → slice_get s.tracks d ≡ Some t →
      is_lost t.seen ≡ false → x.lost ≡ true → Alarms f s (Seen d x) (note_of d Lost) (IsToLand f s)
  pub astray : (f : Flight) (s : State) (d : ℕ) (x : Sample) (t : Track) → slice_get s.tracks d ≡ Some t →
      is_off_hold f s d x ≡ true → HasLasted t.off t.seen x → Alarms f s (Seen d x) (note_of d Astray) (IsToLand f s)
  pub unsure : (f : Flight) (s : State) (d : ℕ) (x : Sample) (t : Track) → slice_get s.tracks d ≡ Some t →
      x.sure ≡ false → HasLasted t.unsure t.seen x → Alarms f s (Seen d x) (note_of d Unsure) (IsToLand f s)
  pub outside : (f : Flight) (s : State) (d : ℕ) (x : Sample) (t : Track) → slice_get s.tracks d ≡ Some t →
      t.outside ≡ false → is_outside f s x ≡ true → Alarms f s (Seen d x) (note_of d Outside) (IsToLand f s)
  -- a step that waits for no go, and doesn't begin in 8 seconds, where no landing waits
  pub late : (f : Flight) (s : State) (e : Event) (step : Step) → e ≢ Said signal.Stop → s.phase ≡ Steps →
      (f.windows ≡ None) ⊎ (s.wanted ≡ false) →
      next_step f s ≡ Some step → step.asked ≡ false → step.after + step.settle + 8000 ≤ (heard f s e).waited →
      is_due f (heard f s e) e ≡ false → (d : ℕ) × Alarms f s e (note_of d Late) ⊤
  -- silence is told, and lands nobody
  pub silent : (f : Flight) (s : State) (ms d : ℕ) (t : Track) (x : Sample) → slice_get s.tracks d ≡ Some t →
      t.seen ≡ Some x → x.age ≤ f.silence → f.silence < later x.age ms →
      Contains (notes f s (Clock ms)) (note_of d Silent)
