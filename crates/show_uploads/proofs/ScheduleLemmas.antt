-- What `rehearse` answers, from what its steps do.
use Rattle.show_uploads.proofs.Prelude.{common_steps, ◌≡◌, ℕ, zero, suc, ◌+◌, ◌<◌, ◌≤◌, Bool, true, false, cond, ◌==◌, List, [], ◌∷◌, ◌++◌, All, length, map, nat_lt, Option, Some, None, Result, Ok, Err, IfOk, IfSome, refl, sym, ap, subst, ◌∙◌, arith, option_map, option_or, length-map, All-head, All-map, All-tail, All-weaker, Name, PlainShow, Settings, Grid, schedule_of, WorldStandsAt, WorldState, state_at, load_for, Refusal, rehearsed, AreTexts, IsFound, IsRehearsalText, drone_text, Fitted, IsFitted, IsValidFitted, Lands, session_for, Traj, Progress, Going, Done, GaveUp, Refused, Differs, WorldEvent, DroneState, acked, all_packets, ended_by, ended_for, ending, flight, gave_up, or_else, progress, progress_within, sent_to, ticks, Upload, drone_count, packet_count, IsUnaltered, World, outcome_of, Outcome, outcome, AllDecode, RehearsalEnds, RehearseGives, Rehearses, SaysHeld, Cut, words_of, most_text, find, take, nothing_refused}
use Rattle.std.specs.List.{range_with_len}
use Rattle.std.specs.declared.alloc.AllocError.{AllocError}
use Rattle.std.proofs.lemmas.Bool.{le-ltb}
use Rattle.crtp_packets.specs.Reading.{up_of}
use Rattle.crtp_packets.specs.declared.reading.PacketFault.{PacketFault}
use Rattle.crtp_packets.specs.declared.reading.Up.{Up}
use Rattle.refusals.specs.declared.refusal.Refusal.TheVariants as refusal
use Rattle.traj_codec.specs.Joined.{joined}
use Rattle.upload_model.proofs.Answers.{reply-by}
use Rattle.upload_model.proofs.HostLaws.{All-flat_map_range, All-range, IsFlight, flight-fits}
use Rattle.upload_model.specs.declared.events.Event.{Event}
use Rattle.upload_model.specs.declared.events.Event.TheVariants as event
use Rattle.upload_model.specs.declared.events.Reply.{Reply}
use Rattle.upload_model.specs.declared.events.Sent.{Sent}
use Rattle.upload_model.specs.Replies.{ReadBack, compared, end_of, read_reply, reply_in, status_reply}
use Rattle.show_judge.specs.declared.ends.Answer.{Answer}
use Rattle.show_uploads.proofs.RehearsalLemmas.{decoded_after}

-- ---- whose packet or byte ends an upload

-- where a packet or a byte ends an upload, its drone is one of this many
abbrev pub IsAmong : ℕ → Progress → Type 0
IsAmong n Going = Unit {0}
IsAmong n Done = Unit {0}
IsAmong n (GaveUp drone packet) = drone < n
IsAmong n (Refused drone packet status) = drone < n
IsAmong n (Differs drone address byte got) = drone < n

-- what is found in a list is as each of the list
found : {X : Type 0} (P : X → Type 0) (p : X → Bool) (xs : List X) → All P xs → IfSome (find p xs) P
found P p [] all = tt
found P p (x ∷ xs) all = by_test (p x) (All-head P x xs all) (found P p xs (All-tail P x xs all)) where
  by_test : (b : Bool) → P x → IfSome (find p xs) P → IfSome (cond b (Some x) (find p xs)) P
  by_test true here later = here
  by_test false here later = later

packets_below : (s : Upload) → All (λ (x : Sent). x.drone < drone_count s) (all_packets s)
unfolding all_packets
packets_below s =
    All-flat_map_range (λ (x : Sent). x.drone < drone_count s) (λ d. sent_to d (range_with_len 0 (packet_count s d))) 0 (drone_count s)
    (λ d low below. All-map (λ (x : Sent). x.drone < drone_count s) (λ (k : ℕ). record { drone = d; packet = k }) (range_with_len 0 (packet_count s d))
    (All-range (λ k. d < drone_count s) 0 (packet_count s d) (λ k l b. omega (arith, below))))

flight_below : (s : Upload) (g : List Event) → All (λ (x : Sent). x.drone < drone_count s) (flight s g)
flight_below s g = All-weaker (IsFlight s (acked s g)) (λ (x : Sent). x.drone < drone_count s) (λ x fits. fits.drone) (flight s g) (flight-fits s (acked s g))

gave_up_among : (n : ℕ) (o : Option Sent) → IfSome o (λ x. x.drone < n) → IsAmong n (gave_up o)
gave_up_among n None below = tt
gave_up_among n (Some x) below = below

status_among : (n d k : ℕ) (o : Option ℕ) → d < n → IsAmong n (end_of (status_reply d k o))
status_among n d k None below = tt
status_among n d k (Some status) below = grind (arith, common_steps, cond)

compared_among : (n d address : ℕ) (bytes got : List ℕ) (o : Option ℕ) → d < n → IsAmong n (end_of (compared d address bytes got o))
compared_among n d address bytes got None below = tt
compared_among n d address bytes got (Some i) below = below

read_among : (n : ℕ) (s : Upload) (d k j : ℕ) (o : Option ReadBack) → d < n → IsAmong n (end_of (read_reply s d k j o))
read_among n s d k j None below = tt
read_among n s d k j (Some r) below = grind (arith, common_steps, cond, compared_among)

reply_among : (n : ℕ) (s : Upload) (d k : ℕ) (m : Result Up PacketFault) → d < n → IsAmong n (end_of (reply_in s d k m))
unfolding reply_in
reply_among n s d k m below = grind (arith, common_steps, cond, read_among, status_among)

ended_for_among : (n : ℕ) (s : Upload) (from : ℕ) (packet : List ℕ) (o : Option Sent) → IfSome o (λ x. x.drone < n) → IsAmong n (ended_for s (event.Up from packet) o)
ended_for_among n s from packet None below = tt
ended_for_among n s from packet (Some x) below =
    reply-by (λ (r : Reply). IsAmong n (end_of r)) s x.drone x.packet from packet tt (λ same known inside. reply_among n s x.drone x.packet (up_of packet) below)

ended_by_among : (s : Upload) (g : List Event) (o : Option Event) → IsAmong (drone_count s) (ended_by s g o)
ended_by_among s g None = tt
ended_by_among s g (Some event.Tick) =
    gave_up_among (drone_count s) (find (λ x. ticks s g x == 20) (flight s g)) (found (λ (x : Sent). x.drone < drone_count s) (λ x. ticks s g x == 20) (flight s g) (flight_below s g))
ended_by_among s g (Some (event.Up from packet)) = grind (arith, common_steps, ended_for_among, found, packets_below)

ending_among : (s : Upload) (g : List Event) → IsAmong (drone_count s) (ending s g)
unfolding ending
ending_among s g = grind (arith, common_steps, cond, ended_by_among)

or_else_among : (n : ℕ) (p q : Progress) → IsAmong n p → IsAmong n q → IsAmong n (or_else p q)
or_else_among n Going q first second = second
or_else_among n Done q first second = tt
or_else_among n p q first second = first

within_among : (s : Upload) (h : List Event) (n : ℕ) → IsAmong (drone_count s) (progress_within s h n)
unfolding progress_within
within_among s h zero = ending_among s (take 0 h)
within_among s h (suc n) = or_else_among (drone_count s) (progress_within s h n) (ending s (take (suc n) h)) (within_among s h n) (ending_among s (take (suc n) h))

progress_among : (s : Upload) (h : List Event) → IsAmong (drone_count s) (progress s h)
unfolding progress
progress_among s h = within_among s h (length h)

-- ---- a world after a rehearsal

-- as many drones are sent something as the show has names
sent_counted : (f : Fitted) → IsValidFitted f → length f.sent ≡ length f.names
sent_counted f valid = ap (λ (ts : List Traj). length ts) valid.sent ∙ length-map f.trajs joined ∙ valid.trajs_counted

pub session_counted : (f : Fitted) (readback start : Bool) → IsValidFitted f → drone_count (session_for f.settings f.sent readback start) ≡ length f.names
session_counted f readback start valid = length-map f.sent load_for ∙ sent_counted f valid

-- The world is where these events lead the session of a show that fits, over drones that are blank at the start.
abbrev pub StandsAfter : WorldState → Fitted → Bool → Bool → List WorldEvent → Type 0
StandsAfter v f readback start events = WorldStandsAt v (session_for f.settings f.sent readback start) (rehearsed (session_for f.settings f.sent readback start) events)

-- where a packet or a byte ends the upload, its drone is one of the show's
pub among_names : (v : WorldState) (f : Fitted) (readback start : Bool) (events : List WorldEvent) (p : Progress) → IsValidFitted f → StandsAfter v f readback start events → p ≡ v.progress → IsAmong (length f.names) p
among_names v f readback start events p valid stands is = grind (arith, common_steps, session_counted, progress_among)

-- where the upload is done and nobody altered a byte, each drone's memory decodes
decoded_names : (v : WorldState) (f : Fitted) (readback start : Bool) (events : List WorldEvent) → IsValidFitted f → (g : Grid) × Lands g f.settings f.sent → StandsAfter v f readback start events → v.progress ≡ Done →
    IsUnaltered events → AllDecode (rehearsed (session_for f.settings f.sent readback start) events).drones f.settings.trajectory_id (map (λ (name : Name). name.items) f.names)
decoded_names v f readback start events valid lands stands done unaltered d within =
    decoded_after lands.0 f.settings f.sent readback start events lands.1 unaltered (sym stands.progress ∙ done) d
    (omega (arith, within, length-map f.names (λ (name : Name). name.items), sent_counted f valid))

-- the text of drones is that of others which hold the same
texts_as : (f g : ℕ → DroneState) (id d : ℕ) (names : List (List ℕ)) (text : List ℕ) → ((k : ℕ) → k < length names → f (d + k) ≡ g (d + k)) → AreTexts f id d names text → AreTexts g id d names text
texts_as f g id d [] text same is = is
texts_as f g id d (name ∷ names) text same (o, rest, decodes, texts, is) =
    let here : f d ≡ g d = subst (λ (n : ℕ). f n ≡ g n) (omega arith) (same 0 (omega arith)) in (
      o,
      rest,
      subst (λ (x : DroneState). IsFound id x o) here decodes,
      texts_as f g id (suc d) names rest (λ k within. subst (λ (n : ℕ). f n ≡ g n) (omega arith) (same (suc k) (omega (arith, within)))) texts,
      is ∙ ap (λ (x : DroneState). drone_text name x o ++ rest) here,
    )

text_as : (f g : ℕ → DroneState) (id : ℕ) (names : List (List ℕ)) (text : List ℕ) → ((d : ℕ) → d < length names → f d ≡ g d) → IsRehearsalText f id names text → IsRehearsalText g id names text
text_as f g id names text same (rest, texts, is) = (rest, texts_as f g id 0 names rest (λ k within. subst (λ (n : ℕ). f n ≡ g n) (omega arith) (same k within)) texts, is)

-- what the progress of a world gives is what its events give
pub rehearses_by : (v : WorldState) (f : Fitted) (s : PlainShow) (readback start : Bool) (events : List WorldEvent) (o : Outcome) → IsFitted f s → StandsAfter v f readback start events →
    RehearsalEnds v.progress s events (rehearsed (session_for f.settings f.sent readback start) events) o → Rehearses s readback start events o
rehearses_by v f s readback start events o is stands ends = grind (arith, common_steps)

-- what a rehearsal gives that is done
pub rehearses_done : (v : WorldState) (f : Fitted) (s : PlainShow) (readback start : Bool) (events : List WorldEvent) (text : List ℕ) → IsValidFitted f → (g : Grid) × Lands g f.settings f.sent → IsFitted f s →
    StandsAfter v f readback start events → v.progress ≡ Done → IsRehearsalText (state_at v.drones) f.settings.trajectory_id (map (λ (name : Name). name.items) f.names) text →
    Rehearses s readback start events (outcome 0 text)
rehearses_done v f s readback start events text valid lands is stands done said =
    let w : World = rehearsed (session_for f.settings f.sent readback start) events in
    let named : SaysHeld events w.drones f.settings.trajectory_id (map (λ (name : Name). name.items) f.names) text = record {
      held = text_as (state_at v.drones) w.drones f.settings.trajectory_id (map (λ (name : Name). name.items) f.names) text
          (λ d within. stands.drones d (omega (arith, within, length-map f.names (λ (name : Name). name.items), session_counted f readback start valid))) said;
      decoded = decoded_names v f readback start events valid lands stands done;
    } in
    let of_show : SaysHeld events w.drones s.settings.trajectory_id (words_of s) text =
    subst (λ (e : Settings). SaysHeld events w.drones e.trajectory_id (words_of s) text) is.settings
    (subst (λ (names : List Name). SaysHeld events w.drones f.settings.trajectory_id (map (λ (name : Name). name.items) names) text) is.names named) in
    rehearses_by v f s readback start events (outcome 0 text) is stands (subst (λ (p : Progress). RehearsalEnds p s events w (outcome 0 text)) (sym done) (refl, of_show))

-- ---- a second text

-- what a text says over the names of what fits, it says over those of the show
pub events_of_show : (f : Fitted) (s : PlainShow) (readback : Bool) (names : List Name) (bytes second : List ℕ) (events given : List WorldEvent) → IsFitted f s → names ≡ f.names → bytes ≡ second → given ≡ events →
    schedule_of readback (map (λ (name : Name). name.items) names) bytes ≡ Ok events → schedule_of readback (words_of s) second ≡ Ok given
events_of_show f s readback names bytes second events given is named same same_events says = grind (arith, common_steps)

-- what a schedule gives whose events are these
pub schedule_gives : (s : PlainShow) (readback start : Bool) (cut : Cut) (events : List WorldEvent) (result : Result Answer AllocError) → length cut.second ≤ most_text →
    schedule_of readback (words_of s) cut.second ≡ Ok events → cut.is_second_marked ≡ false → IfOk result (λ a. Rehearses s readback start events (outcome_of a)) →
    IfOk result (λ a. RehearseGives s readback start cut (outcome_of a))
schedule_gives s readback start cut events (Err e) short is unmarked gives = tt
schedule_gives s readback start cut events (Ok a) short is unmarked gives = grind (arith, common_steps, nothing_refused, nat_lt, le-ltb)
