-- The host, as functions of the whole list h of what happened to it (docs/RADIO.md, "The upload").
-- These are sets and counts over that list; they say nothing of how a host remembers it.
use Rattle.std.specs.Prelude.{ℕ, zero, suc, ◌-◌, Bool, true, false, not, ◌&&◌, ◌||◌, nat_lt, ◌==◌, if◌then◌else◌, List}
use Rattle.std.specs.Prelude.{[], ◌∷◌, ◌++◌, length, take, map, filter, find, count_by, slice_get, Option, Some, None}
use Rattle.std.specs.List.{range_with_len, list_any, list_all, flat_map}
use Rattle.upload_model.specs.declared.limits.TheConstants.{PACKETS_IN_FLIGHT, TICKS_TO_GIVE_UP}
use Rattle.upload_model.specs.declared.events.Event.{Event}
use Rattle.upload_model.specs.declared.events.Event.TheVariants as event
use Rattle.upload_model.specs.declared.events.Phase.{Phase}
use Rattle.upload_model.specs.declared.events.Phase.TheVariants.{Loading, Reading, Starting}
use Rattle.upload_model.specs.declared.events.Sent.{Sent}
use Rattle.upload_model.specs.declared.events.Progress.{Progress}
use Rattle.upload_model.specs.declared.events.Progress.TheVariants.{Going, Done, GaveUp, Refused, Differs}
use Rattle.upload_model.specs.Sessions.{Upload, drone_count, write_count, load_count, packet_count, first_of, count_of}
use Rattle.upload_model.specs.Replies.{reply_to, is_good, is_end, end_of}

-- A set of packets, by drone and number.
abbrev pub Packets : Type 0
Packets = ℕ → ℕ → Bool

-- ---- the phase, and what is in flight

-- Whether all packets of all drones in this phase are acknowledged.
unfoldable pub all_settled : Upload → Phase → Packets → Bool
all_settled s p done =
    list_all (λ d. list_all (done d) (range_with_len (first_of s p d) (count_of s p d)))
    (range_with_len 0 (drone_count s))

-- The phase that the upload is in, where these packets are acknowledged: the first one in which some
-- packet isn't; and the last one where all are.
unfoldable pub phase_of : Upload → Packets → Phase
phase_of s done =
    if not (all_settled s Loading done) then Loading
    else (if not (all_settled s Reading done) then Reading else Starting)

-- How many of a phase's packets may be in flight to drone d: all of them; but the define only once all
-- writes of d are acknowledged.
abbrev pub allowed : Upload → Phase → Packets → ℕ → ℕ
allowed s Loading done d =
    if list_all (done d) (range_with_len 0 (write_count s d)) then load_count s d else write_count s d
allowed s Reading done d = count_of s Reading d
allowed s Starting done d = count_of s Starting d

-- What is in flight to drone d in this phase: the first four packets that may be and aren't
-- acknowledged.
unfoldable pub flight_in : Upload → Phase → Packets → ℕ → List ℕ
flight_in s p done d =
    take PACKETS_IN_FLIGHT (filter (λ k. not (done d k)) (range_with_len (first_of s p d) (allowed s p done d)))

-- Packets of one drone, by their numbers.
abbrev pub sent_to : ℕ → List ℕ → List Sent
sent_to d ks = map (λ k. record { drone = d; packet = k }) ks

-- All that is in flight in this phase, by drone and number.
unfoldable pub flight_at : Upload → Phase → Packets → List Sent
flight_at s p done = flat_map (λ d. sent_to d (flight_in s p done d)) (range_with_len 0 (drone_count s))

-- All that is in flight, where these packets are acknowledged.
abbrev pub flight_after : Upload → Packets → List Sent
flight_after s done = flight_at s (phase_of s done) done

-- ---- what is acknowledged

-- The packet that an event acknowledges, if it acknowledges one: the packet in flight to which it is a
-- good answer.
unfoldable pub acknowledges : Upload → Packets → Event → Option Sent
acknowledges s done e = find (λ x. is_good (reply_to s x.drone x.packet e)) (flight_after s done)

-- These packets, and this one, if there is one.
abbrev pub joined : Packets → Option Sent → Packets
joined done None = done
joined done (Some x) = λ d k. done d k || (x.drone == d && x.packet == k)

-- What is acknowledged after more events, where these packets are.
unfoldable pub acked_from : Upload → Packets → List Event → Packets
acked_from s done [] = done
acked_from s done (e ∷ es) = acked_from s (joined done (acknowledges s done e)) es

-- The packets that the events h acknowledge, one event at a time: a good answer counts only for a packet
-- that is in flight when it comes.
unfoldable pub acked : Upload → List Event → Packets
acked s h = acked_from s (λ d k. false) h

-- All that is in flight after the events h.
abbrev pub flight : Upload → List Event → List Sent
flight s h = flight_after s (acked s h)

-- ---- ticks

-- Whether there is an event, and it is a tick.
abbrev pub is_tick : Option Event → Bool
is_tick (Some event.Tick) = true
is_tick (Some (event.Up from packet)) = false
is_tick None = false

-- Whether this packet is among those.
abbrev pub includes : List Sent → Sent → Bool
includes xs x = list_any (λ y. y.drone == x.drone && y.packet == x.packet) xs

-- How many events are ticks at which this packet was in flight.
unfoldable pub ticks : Upload → List Event → Sent → ℕ
ticks s h x =
    count_by (λ i. is_tick (slice_get h i) && includes (flight s (take i h)) x) (range_with_len 0 (length h))

-- ---- how far the upload is

-- All packets of a session, by drone and number.
unfoldable pub all_packets : Upload → List Sent
all_packets s = flat_map (λ d. sent_to d (range_with_len 0 (packet_count s d))) (range_with_len 0 (drone_count s))

-- Whether an answer may end the upload for packet k of drone d, where these packets are acknowledged.
-- With read-back answers to reads and starts count once the first phase is complete; all others count
-- from the beginning, whether or not their packet was sent.
abbrev pub counts : Upload → Packets → ℕ → ℕ → Bool
counts s done d k = nat_lt k (load_count s d) || not s.readback || all_settled s Loading done

-- The host gives up for this packet, if there is one.
abbrev pub gave_up : Option Sent → Progress
gave_up None = Going
gave_up (Some x) = GaveUp x.drone x.packet

-- The event ends the upload for this packet, if there is one.
abbrev pub ended_for : Upload → Event → Option Sent → Progress
ended_for s e None = Going
ended_for s e (Some x) = end_of (reply_to s x.drone x.packet e)

-- Whether an event ends the upload for this packet: it says so, it counts, and the packet isn't
-- acknowledged.
abbrev pub ends_for : Upload → Packets → Event → Sent → Bool
ends_for s done e x =
    is_end (reply_to s x.drone x.packet e) && counts s done x.drone x.packet && not (done x.drone x.packet)

-- What the last event of g ends the upload with. A tick gives up for the first packet in flight that
-- was so at 20 ticks. An answer that isn't good, to a packet that isn't acknowledged, ends it as it
-- says.
abbrev pub ended_by : Upload → List Event → Option Event → Progress
ended_by s g None = Going
ended_by s g (Some event.Tick) = gave_up (find (λ x. ticks s g x == TICKS_TO_GIVE_UP) (flight s g))
ended_by s g (Some (event.Up from packet)) =
    ended_for s (event.Up from packet) (find (λ x. ends_for s (acked s g) (event.Up from packet) x) (all_packets s))

-- What the events g themselves end the upload with: Done where every packet is acknowledged, else
-- what their last event ends it with. Going where they do not end it.
unfoldable pub ending : Upload → List Event → Progress
ending s g =
    if list_all (λ x. acked s g x.drone x.packet) (all_packets s) then Done
    else ended_by s g (slice_get g (length g - 1))

-- The first of two answers that isn't Going.
abbrev pub or_else : Progress → Progress → Progress
or_else Going later = later
or_else Done later = Done
or_else (GaveUp d k) later = GaveUp d k
or_else (Refused d k status) later = Refused d k status
or_else (Differs d address bytes got) later = Differs d address bytes got

-- The answer of the shortest prefix of at most n events that ends the upload.
unfoldable pub progress_within : Upload → List Event → ℕ → Progress
progress_within s h zero = ending s (take 0 h)
progress_within s h (suc n) = or_else (progress_within s h n) (ending s (take (suc n) h))

-- How far the upload is after the events h: the answer of their shortest prefix that ends it.
unfoldable pub progress : Upload → List Event → Progress
progress s h = progress_within s h (length h)

-- ---- what is sent

-- What the event e after the events g sends, where the upload goes on: on a tick all that is in flight,
-- on an answer what is in flight now and wasn't before.
abbrev pub sent_at : Upload → List Event → Event → List Sent
sent_at s g event.Tick = flight s g
sent_at s g (event.Up from packet) =
    filter (λ x. not (includes (flight s g) x)) (flight s (g ++ event.Up from packet ∷ []))

-- These packets while an upload is going, and none after its end.
abbrev pub if_going : Progress → List Sent → List Sent
if_going Going xs = xs
if_going Done xs = []
if_going (GaveUp d k) xs = []
if_going (Refused d k status) xs = []
if_going (Differs d address bytes got) xs = []

-- What is sent when the event e comes after the events g, by drone and number.
unfoldable pub out : Upload → List Event → Event → List Sent
out s g e = if_going (progress s (g ++ e ∷ [])) (sent_at s g e)
