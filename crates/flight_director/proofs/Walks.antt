-- Walks over what is left of a list.
use Rattle.flight_director.proofs.Prelude.{◌≡◌, ◌<◌, ◌≤◌, ◌+◌, ◌-◌, ◌∷◌, ◌++◌, ◌∙◌, [], List, Bool, false, cond, true, ◌&&◌, ◌||◌, refl, sym, ap, subst, None, Some, Option, ℕ, zero, suc, take, drop, set, length, get_or, arith, with_tracks, take_all, append_assoc, append-nil, map, slice_get, slice_set, tracked, track_with, range_with_len, list_any, Note, is_fit, noticed, overdue, is_grave, chosen, State, Order, To, Noted, Track, unanswered, all_fit, all_down, is_down, first_unfit, frames_from, has_risen, land_order}
use Rattle.std.proofs.Math.ListN.{drop_of_length-le}
use Rattle.std.proofs.lemmas.List.FromFn.{map-range_with_len_more, length-map-range_with_len}
use Rattle.flight_model.specs.declared.events.Event.TheVariants.{Seen}
use Rattle.flight_model.specs.declared.events.Sample.{Sample}
unfoldable use Rattle.flight_model.specs.Directors.{tracks_after}
use Rattle.flight_model.specs.declared.events.Event.{Event}
unfoldable use Rattle.flight_model.specs.Directors.{heard, notes, is_fault, choice, done, led, happens, says}
use Rattle.flight_model.specs.declared.states.Choice.{Choice}
use Rattle.flight_model.specs.declared.events.Frame.{Frame}
use Rattle.flight_model.specs.declared.flights.Condition.{Condition}
use Rattle.flight_model.specs.declared.flights.Flight.{Flight}

-- conditions with no track left
all_fit-none : (silence : ℕ) (ws : List Condition) (d : ℕ) → d < length ws → all_fit silence (drop d ws) [] ≡ false
all_fit-none silence [] d l = absurd (omega arith)
all_fit-none silence (w ∷ ws) zero l = refl
all_fit-none silence (w ∷ ws) (suc d) l = all_fit-none silence ws d (omega arith)

pub all_fit-short : (silence : ℕ) (ws : List Condition) (ts : List Track) (d : ℕ) → d < length ws → length ts ≤ d → all_fit silence (drop d ws) (drop d ts) ≡ false
all_fit-short silence [] ts d l m = absurd (omega arith)
all_fit-short silence (w ∷ ws) [] zero l m = refl
all_fit-short silence (w ∷ ws) [] (suc d) l m = all_fit-none silence ws d (omega arith)
all_fit-short silence (w ∷ ws) (t ∷ ts) zero l m = absurd (omega arith)
all_fit-short silence (w ∷ ws) (t ∷ ts) (suc d) l m = all_fit-short silence ws ts d (omega arith) (omega arith)

-- the same of pads and drones that are down
all_down-none : (f : Flight) (still : Bool) (ts : List Track) (d : ℕ) → d < length ts → all_down f still [] (drop d ts) ≡ false
all_down-none f still [] d l = absurd (omega arith)
all_down-none f still (t ∷ ts) zero l = refl
all_down-none f still (t ∷ ts) (suc d) l = all_down-none f still ts d (omega arith)

pub all_down-short : (f : Flight) (still : Bool) (ws : List Condition) (ts : List Track) (d : ℕ) → length ws ≤ d → d < length ts → all_down f still (drop d ws) (drop d ts) ≡ false
all_down-short f still ws [] d m l = absurd (omega arith)
all_down-short f still [] (t ∷ ts) zero m l = refl
all_down-short f still [] (t ∷ ts) (suc d) m l = all_down-none f still ts d (omega arith)
all_down-short f still (w ∷ ws) (t ∷ ts) zero m l = absurd (omega arith)
all_down-short f still (w ∷ ws) (t ∷ ts) (suc d) m l = all_down-short f still ws ts d (omega arith) (omega arith)

pub all_down-high : (f : Flight) (still : Bool) (ws : List Condition) (ts : List Track) (d : ℕ) (w : Condition) (t : Track) → d < length ws → d < length ts →
    is_down f still (get_or ws d w) (get_or ts d t).seen ≡ false → all_down f still (drop d ws) (drop d ts) ≡ false
all_down-high f still [] ts d w t l m h = absurd (omega arith)
all_down-high f still (v ∷ ws) [] d w t l m h = absurd (omega arith)
all_down-high f still (v ∷ ws) (u ∷ ts) zero w t l m h = rw h refl
all_down-high f still (v ∷ ws) (u ∷ ts) (suc d) w t l m h = all_down-high f still ws ts d w t (omega arith) (omega arith) h

first-none : (silence k : ℕ) (ws : List Condition) → first_unfit silence k ws [] ≡ k
first-none silence k [] = refl
first-none silence k (w ∷ ws) = refl

pub first_unfit-short : (silence k : ℕ) (ws : List Condition) (ts : List Track) (d : ℕ) → length ts ≤ d → first_unfit silence k (drop d ws) (drop d ts) ≡ k
first_unfit-short silence k ws [] zero m = first-none silence k ws
first_unfit-short silence k [] [] (suc d) m = refl
first_unfit-short silence k (w ∷ ws) [] (suc d) m = first-none silence k (drop d ws)
first_unfit-short silence k ws (t ∷ ts) zero m = absurd (omega arith)
first_unfit-short silence k [] (t ∷ ts) (suc d) m = refl
first_unfit-short silence k (w ∷ ws) (t ∷ ts) (suc d) m = first_unfit-short silence k ws ts d (omega arith)

pub map-step : (g : Track → Track) (xs : List Track) (i : ℕ) → i < length xs →
    set (map g (take i xs) ++ drop i xs) i (g (get_or xs i (record { seen = None; off = None; unsure = None; outside = false }))) ≡ map g (take (i + 1) xs) ++ drop (i + 1) xs
map-step g [] i l = absurd (omega arith)
map-step g (x ∷ xs) zero l = refl
map-step g (x ∷ xs) (suc i) l =
    ap (λ ys. g x ∷ ys) (map-step g xs i (omega arith))
    ∙ ap (λ n. map g (take n (x ∷ xs)) ++ drop n (x ∷ xs)) (let e : suc (i + 1) ≡ suc i + 1 = omega arith in e)

-- ---- answers

pub forget-step : (bs : List Bool) (i : ℕ) → i < length bs → set (unanswered (take i bs) ++ drop i bs) i false ≡ unanswered (take (i + 1) bs) ++ drop (i + 1) bs
forget-step [] i l = absurd (omega arith)
forget-step (b ∷ bs) zero l = refl
forget-step (b ∷ bs) (suc i) l =
    ap (λ cs. false ∷ cs) (forget-step bs i (omega arith))
    ∙ ap (λ n. unanswered (take n (b ∷ bs)) ++ drop n (b ∷ bs)) (let e : suc (i + 1) ≡ suc i + 1 = omega arith in e)

-- ---- orders, one drone after another

frames_from-append : (k : ℕ) (xs ys : List (Option Order)) → frames_from k (xs ++ ys) ≡ frames_from k xs ++ frames_from (k + length xs) ys
frames_from-append k [] ys = let e : k + 0 ≡ k = omega arith in rw e refl
frames_from-append k (None ∷ xs) ys =
    let e : suc k + length xs ≡ k + suc (length xs) = omega arith in
    frames_from-append (suc k) xs ys ∙ ap (λ n. frames_from (suc k) xs ++ frames_from n ys) e
frames_from-append k (Some o ∷ xs) ys =
    let e : suc k + length xs ≡ k + suc (length xs) = omega arith in
    ap (λ fs. To k o ∷ fs) (frames_from-append (suc k) xs ys ∙ ap (λ n. frames_from (suc k) xs ++ frames_from n ys) e)

-- the landings of the first d drones
abbrev pub first_landings : Flight → ℕ → ℕ → List (Option Order)
first_landings f n d = map (λ i. cond (has_risen f n i) (Some (land_order f)) None) (range_with_len 0 d)

pub landings-step : (f : Flight) (n d : ℕ) →
    frames_from 0 (first_landings f n (d + 1)) ≡ frames_from 0 (first_landings f n d) ++ frames_from d (cond (has_risen f n d) (Some (land_order f)) None ∷ [])
landings-step f n d =
    let g = λ (i : ℕ). cond (has_risen f n i) (Some (land_order f)) None in
    let long : length (map g (range_with_len 0 d)) ≡ d = length-map-range_with_len g 0 d in
    ap (λ xs. frames_from 0 xs) (map-range_with_len_more g 0 d d (omega arith))
    ∙ (frames_from-append 0 (map g (range_with_len 0 d)) (g d ∷ [])
    ∙ ap (λ k. frames_from 0 (map g (range_with_len 0 d)) ++ frames_from k (g d ∷ [])) (omega (arith, long)))

-- ---- a drone that doesn't meet its condition

pub all_fit-unfit : (silence : ℕ) (ws : List Condition) (ts : List Track) (d : ℕ) (w : Condition) (t : Track) → d < length ws → d < length ts →
    is_fit silence (get_or ws d w) (get_or ts d t).seen ≡ false → all_fit silence (drop d ws) (drop d ts) ≡ false
all_fit-unfit silence [] ts d w t l m h = absurd (omega arith)
all_fit-unfit silence (v ∷ ws) [] d w t l m h = absurd (omega arith)
all_fit-unfit silence (v ∷ ws) (u ∷ ts) zero w t l m h = rw h refl
all_fit-unfit silence (v ∷ ws) (u ∷ ts) (suc d) w t l m h = all_fit-unfit silence ws ts d w t (omega arith) (omega arith) h

pub first_unfit-here : (silence k : ℕ) (ws : List Condition) (ts : List Track) (d : ℕ) (w : Condition) (t : Track) → d < length ws → d < length ts →
    is_fit silence (get_or ws d w) (get_or ts d t).seen ≡ false → first_unfit silence k (drop d ws) (drop d ts) ≡ k
first_unfit-here silence k [] ts d w t l m h = absurd (omega arith)
first_unfit-here silence k (v ∷ ws) [] d w t l m h = absurd (omega arith)
first_unfit-here silence k (v ∷ ws) (u ∷ ts) zero w t l m h = rw h refl
first_unfit-here silence k (v ∷ ws) (u ∷ ts) (suc d) w t l m h = first_unfit-here silence k ws ts d w t (omega arith) (omega arith) h

pub three : (a b c r : Bool) → a ≡ true → b ≡ true → r ≡ c → r ≡ (a && b) && c
three a b c r ha hb hc = hc ∙ (let e : c ≡ ((true && true) && c) = refl in rw (ha, hb) refl)

-- ---- instants

pub any-step : (p : ℕ → Bool) (i past : ℕ) → i < past → list_any p (range_with_len i (past - i)) ≡ p i || list_any p (range_with_len (i + 1) (past - (i + 1)))
any-step p i past l =
    let e : past - i ≡ suc (past - (i + 1)) = omega arith in
    ap (λ n. list_any p (range_with_len i n)) e

-- ---- one event

same_grave : (f : Flight) (s : State) (e : Event) (ns : List Note) →
    list_any (λ (n : Note). is_grave f (heard f s e) n.fault) ns ≡ list_any (λ (n : Note). is_grave f s n.fault) ns
unfolding heard
same_grave f s e [] = refl
same_grave f s e (n ∷ ns) = ap (λ b. is_grave f s n.fault || b) (same_grave f s e ns)

phase_heard : (f : Flight) (s : State) (e : Event) → (heard f s e).phase ≡ s.phase
unfolding heard
phase_heard f s e = refl

-- what is chosen in a state that has heard the event
chosen-heard : (f : Flight) (s h : State) (e : Event) (ns : List Note) (fault : Bool) → h ≡ heard f s e → ns ≡ notes f s e →
    fault ≡ list_any (λ (n : Note). is_grave f h n.fault) ns → chosen f h e fault h.phase ≡ choice f s e
unfolding choice is_fault
chosen-heard f s h e ns fault hs nss fs =
    let fault_is : fault ≡ list_any (λ (n : Note). is_grave f s n.fault) (notes f s e) =
    fs ∙ (ap (λ g. list_any (λ (n : Note). is_grave f g n.fault) ns) hs ∙ (same_grave f s e ns ∙ ap (λ xs. list_any (λ (n : Note). is_grave f s n.fault) xs) nss)) in
    ap (λ g. chosen f g e fault g.phase) hs ∙ (phase_same f s e fault ∙ ap (λ b. chosen f (heard f s e) e b s.phase) fault_is) where
      phase_same : (f : Flight) (s : State) (e : Event) (fault : Bool) → chosen f (heard f s e) e fault (heard f s e).phase ≡ chosen f (heard f s e) e fault s.phase
      phase_same f s e fault = ap (λ p. chosen f (heard f s e) e fault p) (phase_heard f s e)

pub happens-by : (f : Flight) (s h : State) (e : Event) (ns : List Note) (fault : Bool) (c : Choice) → h ≡ heard f s e → ns ≡ notes f s e →
    fault ≡ list_any (λ (n : Note). is_grave f h n.fault) ns → c ≡ chosen f h e fault h.phase → led f h c ≡ happens f s e
unfolding happens
happens-by f s h e ns fault c hs nss fs cs =
    let choice_is : c ≡ choice f s e = cs ∙ chosen-heard f s h e ns fault hs nss fs in
    ap (λ g. led f g c) hs ∙ ap (λ a. led f (heard f s e) a) choice_is

pub says-by : (f : Flight) (s h : State) (e : Event) (ns : List Note) (fault : Bool) (c : Choice) → h ≡ heard f s e → ns ≡ notes f s e →
    fault ≡ list_any (λ (n : Note). is_grave f h n.fault) ns → c ≡ chosen f h e fault h.phase → map Noted ns ++ done f h c ≡ says f s e
unfolding says
says-by f s h e ns fault c hs nss fs cs =
    let choice_is : c ≡ choice f s e = cs ∙ chosen-heard f s h e ns fault hs nss fs in
    ap (λ xs. map Noted xs ++ done f h c) nss ∙ (ap (λ g. map Noted (notes f s e) ++ done f g c) hs ∙ ap (λ a. map Noted (notes f s e) ++ done f (heard f s e) a) choice_is)

-- the notes before and after an event was heard
pub notes-by : (f : Flight) (s h : State) (e : Event) → h ≡ heard f s e → noticed f s e ++ overdue f h e ≡ notes f s e
unfolding notes
notes-by f s h e hs = ap (λ g. noticed f s e ++ overdue f g e) hs

pub tracks_after-seen : (f : Flight) (s : State) (d : ℕ) (x : Sample) (t : Track) → slice_get s.tracks d ≡ Some t →
    tracks_after f s (Seen d x) ≡ slice_set s.tracks d (track_with f s d t x)
unfolding tracks_after
tracks_after-seen f s d x t e = ap (λ o. tracked f s d x o) e

pub refill-same : (xs ws : List Track) → length ws ≡ length xs → take (length xs) (ws ++ drop (length ws) xs) ≡ ws
refill-same xs ws e =
    ap (λ ys. take (length xs) (ws ++ ys)) (drop_of_length-le xs {i = length ws} (omega arith))
    ∙ (ap (λ ys. take (length xs) ys) (append-nil ws) ∙ take_all (length xs) ws (omega arith))

pub take-by : (f : Flight) (s : State) (e : Event) (d : ℕ) (x : Sample) (t : Track) (new : List Track) → e ≡ Seen d x → slice_get s.tracks d ≡ Some t →
    new ≡ slice_set s.tracks d (track_with f s d t x) → with_tracks s new ≡ with_tracks s (tracks_after f s e)
take-by f s e d x t new is at same =
    ap (λ ts. with_tracks s ts) (same ∙ (sym (tracks_after-seen f s d x t at) ∙ ap (λ a. tracks_after f s a) (sym is)))
