-- What a director that hears one event more makes of a flight.
use Rattle.flight_link.proofs.Prelude.{◌≡◌, List, ℕ, [], ◌∷◌, ◌++◌, Option, None, refl, sym, ap, ◌∙◌, Event, Frame, Flight, IsEvent, State, after, drones, end_in, event_bytes, happens, says, start, dialogue_of, ended, frames_bytes, sent_over}
use Rattle.link_dialogue.specs.Machines.{TakesItem}
use Rattle.flight_link.proofs.SendLemmas.{after-push, ended-push, said_at, sent-push}

-- What a director that has heard these events makes of one event more, where its flight is that one.
pub heard : (f h : Flight) (s next : State) (events : List Event) (x : Event) (items : List Frame) (p : Option ℕ) (bytes : List ℕ) → h ≡ f → s ≡ after f (start f) events → ended f events ≡ None → IsEvent (drones f) x →
    items ≡ says h s x → next ≡ happens h s x → p ≡ end_in items → bytes ≡ frames_bytes items →
    TakesItem (dialogue_of f) (λ now. next ≡ after f (start f) now) (λ whole. whole ≡ event_bytes x) events p bytes
heard f h s next events x items p bytes is_f is_s going formed says_so happens_so ends put =
    let said : items ≡ said_at f events x = rw (is_f, is_s) at says_so in
    record {
      item = x;
      formed = formed;
      taken = refl;
      stands = (rw (is_f, is_s) at happens_so) ∙ sym (after-push f events x);
      ended = ends ∙ ap end_in said ∙ sym (ended-push f events x going);
      sends = sent-push f events x ∙ ap (λ (l : List Frame). sent_over f events ++ frames_bytes l) (sym said) ∙ ap (λ (l : List ℕ). sent_over f events ++ l) (sym put);
    }
