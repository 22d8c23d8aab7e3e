-- The world: a host, a link that loses, repeats, delays and reorders packets, the drones, and somebody
-- else who may alter a byte of a memory. It is given by recursion on the list of what happens in it
-- (docs/RADIO.md, "What the upload theorem says").
use Rattle.std.specs.Prelude.{ℕ, ◌&&◌, nat_lt, ◌==◌, if◌then◌else◌, List, [], ◌∷◌, ◌++◌, map, filter, slice_get}
use Rattle.std.specs.Prelude.{slice_set, Option, Some, None}
use Rattle.crtp_packets.specs.declared.chunks.TheConstants.{MEMORY_BYTES}
use Rattle.upload_model.specs.declared.events.Event.{Event}
use Rattle.upload_model.specs.declared.events.Event.TheVariants as event
use Rattle.upload_model.specs.declared.events.Sent.{Sent}
use Rattle.upload_model.specs.declared.events.WorldEvent.{WorldEvent}
use Rattle.upload_model.specs.declared.events.WorldEvent.TheVariants.{Tick, Take, Hear, Alter}
use Rattle.upload_model.specs.Drones.{DroneState, Handled, handled}
use Rattle.upload_model.specs.Sessions.{Upload, drone_count, packet_at}
use Rattle.upload_model.specs.Hosts.{flight, out}

-- The host's events so far, and for each drone what it holds, the packets ever sent to it and the
-- answers that it ever gave, in order.
pub record World : Type 0 where
  pub heard : List Event
  pub drones : ℕ → DroneState
  pub sent : ℕ → List (List ℕ)
  pub given : ℕ → List (List ℕ)

-- f, but y at d.
abbrev pub changed : {A : Type 0} → (ℕ → A) → ℕ → A → ℕ → A
changed f d y i = if i == d then y else f i

-- The packets of a list that go to drone d.
abbrev pub packets_for : Upload → List Sent → ℕ → List (List ℕ)
packets_for s xs d = map (λ x. packet_at s x.drone x.packet) (filter (λ x. x.drone == d) xs)

-- Before any event, what is in flight is sent.
unfoldable pub start_world : Upload → (ℕ → DroneState) → World
start_world s drones = record { heard = []; drones = drones; sent = packets_for s (flight s []); given = λ d. [] }

-- The host's event e: what the host sends then joins what was ever sent.
unfoldable pub host_event : Upload → World → Event → World
host_event s w e = record w { heard = w.heard ++ e ∷ []; sent = λ d. w.sent d ++ packets_for s (out s w.heard e) d }

-- An answer, if there is one, as a list.
abbrev pub option_list : Option (List ℕ) → List (List ℕ)
option_list None = []
option_list (Some packet) = packet ∷ []

-- Drone d has taken a packet: it is as the packet left it, and its answer joins its answers.
abbrev pub took : World → ℕ → Handled → World
took w d after =
    record w {
      drones = changed w.drones d after.drone;
      given = changed w.given d (w.given d ++ option_list after.answer);
    }

-- Drone d takes this packet, if there is one.
abbrev pub take_named : World → ℕ → Option (List ℕ) → World
take_named w d None = w
take_named w d (Some packet) = took w d (handled (w.drones d) packet)

-- The host hears this answer of drone d, if there is one.
abbrev pub hear_named : Upload → World → ℕ → Option (List ℕ) → World
hear_named s w d None = w
hear_named s w d (Some packet) = host_event s w (event.Up d packet)

-- The drone, with this byte of its memory set to a value.
abbrev pub altered : DroneState → ℕ → ℕ → DroneState
altered x address value = record x { memory = slice_set x.memory address value }

-- One event: a tick of the host, a drone that takes packet n of all ever sent to it, the host that
-- hears answer n of all that a drone ever gave, or one byte of a drone's memory that somebody else sets
-- to a value. A packet may be taken many times, late, or never. An event that names nothing changes
-- nothing.
unfoldable pub happens : Upload → World → WorldEvent → World
happens s w Tick = host_event s w event.Tick
happens s w (Take d n) = if nat_lt d (drone_count s) then take_named w d (slice_get (w.sent d) n) else w
happens s w (Hear d n) = if nat_lt d (drone_count s) then hear_named s w d (slice_get (w.given d) n) else w
happens s w (Alter d address value) =
    if nat_lt d (drone_count s) && nat_lt address MEMORY_BYTES
    then record w { drones = changed w.drones d (altered (w.drones d) address value) } else w

-- A list of events, one after the other.
abbrev pub run : Upload → World → List WorldEvent → World
run s w [] = w
run s w (e ∷ es) = run s (happens s w e) es

-- The world after these events, for a session and the drones at the start.
abbrev pub world : Upload → (ℕ → DroneState) → List WorldEvent → World
world s drones events = run s (start_world s drones) events
