-- The end is said exactly where the flight is over.
use Rattle.flight_link.proofs.Prelude.{◌≡◌, ◌≢◌, ◌⊎◌, inl, inr, ℕ, suc, Bool, true, false, cond, List, [], ◌∷◌, Option, Some, None, refl, sym, ap, ◌∙◌, ◌==◌, ◌↔◌, length, Event, Flight, State, after, happens, says, sent, start, ended, end_in, first_of_two, map, Noted, frames_from, frames_of, frames_of_step, landings, next_step, notes}
use Rattle.flight_model.specs.declared.events.Note.{Note}
use Rattle.flight_model.specs.declared.events.Order.{Order}
use Rattle.flight_model.specs.declared.flights.Orders.{Orders}
use Rattle.flight_model.specs.declared.flights.Orders.TheVariants.{Each, All as ToEach}
use Rattle.flight_model.specs.declared.flights.Step.{Step}
unfoldable use Rattle.flight_model.specs.Directors.{choice, done, heard, happens as happens_word, led, says as says_word}
use Rattle.flight_model.specs.declared.states.Choice.{Choice}
use Rattle.flight_model.specs.declared.states.Choice.TheVariants.{Begin, Cut, Descend, Finish, Quit, Rest, Wait}
use Rattle.flight_model.specs.declared.states.Phase.{Phase}
use Rattle.flight_model.specs.declared.states.Phase.TheVariants.{Ended, Off, Steps}
use Rattle.flight_link.proofs.SendLemmas.{end-append}

-- ---- what says no end

notes_say : (ns : List Note) → end_in (map Noted ns) ≡ None
notes_say [] = refl
notes_say (n ∷ ns) = notes_say ns

orders_say : (d : ℕ) (orders : List (Option Order)) → end_in (frames_from d orders) ≡ None
orders_say d [] = refl
orders_say d (None ∷ orders) = orders_say (suc d) orders
orders_say d (Some o ∷ orders) = orders_say (suc d) orders

of_say : (orders : Orders) → end_in (frames_of orders) ≡ None
of_say (Each orders) = orders_say 0 orders
of_say (ToEach o) = refl

step_says : (step : Option Step) → end_in (frames_of_step step) ≡ None
step_says None = refl
step_says (Some step) = of_say step.orders

-- ---- one event

-- an end was said exactly where the phase is the last one
abbrev Agrees : Option ℕ → Phase → Type 0
Agrees o p = ((o ≡ None) × (p ≢ Ended)) ⊎ ((o ≡ None → ⊥) × (p ≡ Ended))

not_ended : (b : Bool) → cond b Off Steps ≢ Ended
not_ended true e = cc
not_ended false e = cc

agrees-led : (f : Flight) (h : State) (c : Choice) → h.phase ≢ Ended → Agrees (end_in (done f h c)) (led f h c).phase
unfolding done led
agrees-led f h Rest n = inl (refl, n)
agrees-led f h Begin n = inl (step_says (next_step f h), not_ended (suc h.next == length f.steps))
agrees-led f h Descend n = inl (orders_say 0 (landings f h.next), λ e. cc)
agrees-led f h Wait n = inl (refl, n)
agrees-led f h Cut n = inl (refl, λ e. cc)
agrees-led f h Quit n = inl (refl, λ e. cc)
agrees-led f h Finish n = inr ((λ e. cc), refl)

says_end : (f : Flight) (s : State) (x : Event) → end_in (says f s x) ≡ end_in (done f (heard f s x) (choice f s x))
unfolding says_word
says_end f s x =
    end-append (map Noted (notes f s x)) (done f (heard f s x) (choice f s x))
    ∙ ap (λ (o : Option ℕ). first_of_two o (end_in (done f (heard f s x) (choice f s x)))) (notes_say (notes f s x))

heard_phase : (f : Flight) (s : State) (x : Event) → (heard f s x).phase ≡ s.phase
unfolding heard
heard_phase f s x = refl

agrees-event : (f : Flight) (s : State) (x : Event) → s.phase ≢ Ended → Agrees (end_in (says f s x)) (happens f s x).phase
unfolding happens_word
agrees-event f s x n = rw (says_end f s x) (agrees-led f (heard f s x) (choice f s x) (λ e. n (sym (heard_phase f s x) ∙ e)))

-- ---- after the end

chosen_last : (f : Flight) (s : State) (x : Event) → s.phase ≡ Ended → choice f s x ≡ Rest
unfolding choice
chosen_last f s x p = rw p refl

stays : (f : Flight) (s : State) (x : Event) → s.phase ≡ Ended → (happens f s x).phase ≡ Ended
unfolding happens_word led
stays f s x p = rw (chosen_last f s x p) (heard_phase f s x ∙ p)

stays-all : (f : Flight) (s : State) (events : List Event) → s.phase ≡ Ended → (after f s events).phase ≡ Ended
stays-all f s [] p = p
stays-all f s (x ∷ xs) p = stays-all f (happens f s x) xs (stays f s x p)

-- ---- all events

some_first : (a b : Option ℕ) → (a ≡ None → ⊥) → first_of_two a b ≡ None → ⊥
some_first None b some e = some refl
some_first (Some n) b some e = cc

agrees-all : (f : Flight) (s : State) (events : List Event) → s.phase ≢ Ended → Agrees (end_in (sent f s events)) (after f s events).phase
agrees-all f s [] n = inl (refl, n)
agrees-all f s (x ∷ xs) n = elim (agrees-event f s x n) [
  | inl p ↦ rw (end-append (says f s x) (sent f (happens f s x) xs), p.0) (agrees-all f (happens f s x) xs p.1)
  | inr p ↦ inr (
    (λ e. some_first (end_in (says f s x)) (end_in (sent f (happens f s x) xs)) p.0 (sym (end-append (says f s x) (sent f (happens f s x) xs)) ∙ e)),
    stays-all f (happens f s x) xs p.1,
  )
]

pub over : (f : Flight) (events : List Event) → (ended f events ≡ None → ⊥) ↔ ((after f (start f) events).phase ≡ Ended)
unfolding ended
over f events = elim (agrees-all f (start f) events (λ e. cc)) [
  | inl p ↦ ((λ some. absurd (some p.0)), (λ is. absurd (p.1 is)))
  | inr p ↦ ((λ some. p.1), (λ is. p.0))
]
