-- What is sent over events that come one after the other.
use Rattle.flight_link.proofs.Prelude.{◌≡◌, List, [], ◌∷◌, ◌++◌, append_assoc, append-nil, refl, sym, ap, ◌∙◌, ℕ, Option, Some, None, Event, Frame, Flight, State, after, happens, says, sent, start, output_bytes, ended, end_in, end_of, first_of_two, frames_bytes, sent_over, BeginsWith}
use Rattle.std.proofs.lemmas.List.Concat.{flat_map-append}

-- what is said at an event that comes after others
abbrev pub said_at : Flight → List Event → Event → List Frame
said_at f events x = says f (after f (start f) events) x

-- what is sent at it
abbrev pub answer : Flight → List Event → Event → List ℕ
answer f events x = frames_bytes (said_at f events x)

-- what is said at events, one list after the other
pub said-append : (f : Flight) (s : State) (xs ys : List Event) → sent f s (xs ++ ys) ≡ sent f s xs ++ sent f (after f s xs) ys
said-append f s [] ys = refl
said-append f s (x ∷ xs) ys =
    ap (λ (l : List Frame). says f s x ++ l) (said-append f (happens f s x) xs ys)
    ∙ sym (append_assoc (says f s x) (sent f (happens f s x) xs) (sent f (after f (happens f s x) xs) ys))

pub after-append : (f : Flight) (s : State) (xs ys : List Event) → after f s (xs ++ ys) ≡ after f (after f s xs) ys
after-append f s [] ys = refl
after-append f s (x ∷ xs) ys = after-append f (happens f s x) xs ys

-- the state after one event more
pub after-push : (f : Flight) (events : List Event) (x : Event) → after f (start f) (events ++ x ∷ []) ≡ happens f (after f (start f) events) x
after-push f events x = after-append f (start f) events (x ∷ [])

pub said-push : (f : Flight) (events : List Event) (x : Event) → sent f (start f) (events ++ x ∷ []) ≡ sent f (start f) events ++ said_at f events x
said-push f events x = said-append f (start f) events (x ∷ []) ∙ ap (λ (l : List Frame). sent f (start f) events ++ l) (append-nil (said_at f events x))

frames-append : (xs ys : List Frame) → frames_bytes (xs ++ ys) ≡ frames_bytes xs ++ frames_bytes ys
frames-append xs ys = flat_map-append output_bytes xs ys

-- before any event nothing is sent
pub sends-nothing : (f : Flight) → sent_over f [] ≡ []
unfolding sent_over
sends-nothing f = refl

-- what one event more sends
pub sent-push : (f : Flight) (events : List Event) (x : Event) → sent_over f (events ++ x ∷ []) ≡ sent_over f events ++ answer f events x
unfolding sent_over
sent-push f events x = ap frames_bytes (said-push f events x) ∙ frames-append (sent f (start f) events) (said_at f events x)

-- what a front of events leads to is sent first
pub sent-front : (f : Flight) (xs ys : List Event) → BeginsWith (sent_over f xs) (sent_over f (xs ++ ys))
unfolding sent_over
sent-front f xs ys = (
  frames_bytes (sent f (after f (start f) xs) ys),
  ap frames_bytes (said-append f (start f) xs ys) ∙ frames-append (sent f (start f) xs) (sent f (after f (start f) xs) ys),
)

-- ---- the end

first-first : (a b c : Option ℕ) → first_of_two a (first_of_two b c) ≡ first_of_two (first_of_two a b) c
first-first None b c = refl
first-first (Some status) b c = refl

pub end-append : (xs ys : List Frame) → end_in (xs ++ ys) ≡ first_of_two (end_in xs) (end_in ys)
end-append [] ys = refl
end-append (x ∷ xs) ys = ap (λ (o : Option ℕ). first_of_two (end_of x) o) (end-append xs ys) ∙ first-first (end_of x) (end_in xs) (end_in ys)

-- a flight to which nothing happened goes on
pub ended-none : (f : Flight) → ended f [] ≡ None
unfolding ended
ended-none f = refl

-- where a flight goes on, one event more ends it exactly where an end is said at that
pub ended-push : (f : Flight) (events : List Event) (x : Event) → ended f events ≡ None → ended f (events ++ x ∷ []) ≡ end_in (said_at f events x)
unfolding ended
ended-push f events x going =
    ap end_in (said-push f events x) ∙ end-append (sent f (start f) events) (said_at f events x)
    ∙ ap (λ (o : Option ℕ). first_of_two o (end_in (said_at f events x))) going
