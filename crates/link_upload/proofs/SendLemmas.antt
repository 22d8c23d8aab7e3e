-- What is sent over events that come one after the other.
use Rattle.link_upload.proofs.Prelude.{arith, common_steps, ◌≡◌, List, [], ◌∷◌, ◌++◌, append_assoc, append-nil, sym, ap, ◌∙◌, ℕ, Frame, Event, Link, answers_after, event_in, events_in, packet_frames, sent_over, BeginsWith}
use Rattle.std.proofs.lemmas.List.Concat.{flat_map-append}

answers-append : (s : Link) (g xs ys : List Event) → answers_after s g (xs ++ ys) ≡ answers_after s g xs ++ answers_after s (g ++ xs) ys
answers-append s g [] ys = ap (λ (h : List Event). answers_after s h ys) (sym (append-nil g))
answers-append s g (e ∷ es) ys = grind (arith, common_steps, append_assoc, (answers-append s (g ++ e ∷ []) es ys))

-- more events send what they send after the first ones
pub sent-append : (s : Link) (h es : List Event) → sent_over s (h ++ es) ≡ sent_over s h ++ answers_after s h es
unfolding sent_over
sent-append s h es =
    ap (λ (l : List ℕ). packet_frames s s.first ++ l) (answers-append s [] h es)
    ∙ sym (append_assoc (packet_frames s s.first) (answers_after s [] h) (answers_after s h es))

-- before any event what is in flight is sent
pub sent-none : (s : Link) → sent_over s [] ≡ packet_frames s s.first
unfolding sent_over
sent-none s = append-nil (packet_frames s s.first)

-- the events of frames, one list after the other
pub events-append : (s : Link) (xs ys : List Frame) → events_in s (xs ++ ys) ≡ events_in s xs ++ events_in s ys
events-append s xs ys = flat_map-append (event_in s) xs ys

pub events-push : (s : Link) (xs : List Frame) (f : Frame) → events_in s (xs ++ f ∷ []) ≡ events_in s xs ++ event_in s f
events-push s xs f = events-append s xs (f ∷ []) ∙ ap (λ (l : List Event). events_in s xs ++ l) (append-nil (event_in s f))

-- what one frame more sends
pub sent-push : (s : Link) (xs : List Frame) (f : Frame) → sent_over s (events_in s (xs ++ f ∷ [])) ≡ sent_over s (events_in s xs) ++ answers_after s (events_in s xs) (event_in s f)
sent-push s xs f = ap (λ (h : List Event). sent_over s h) (events-push s xs f) ∙ sent-append s (events_in s xs) (event_in s f)

-- what a front of frames leads to is sent first
pub sent-front : (s : Link) (xs ys : List Frame) → BeginsWith (sent_over s (events_in s xs)) (sent_over s (events_in s (xs ++ ys)))
sent-front s xs ys = (answers_after s (events_in s xs) (events_in s ys), ap (λ (h : List Event). sent_over s h) (events-append s xs ys) ∙ sent-append s (events_in s xs) (events_in s ys))
