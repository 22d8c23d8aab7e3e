-- Starts that drones take. A drone that accepts a start again begins its trajectory anew, as real firmware does: so how
-- many it accepted says how often it began (docs/RADIO.md, "What the upload theorem says").
use Rattle.std.specs.Prelude.{◌≡◌, ℕ, ◌+◌, ◌<◌, ◌≤◌, ◌==◌, ◌&&◌, if◌then◌else◌, Bool, true, false, List, [], ◌∷◌, ◌++◌}
use Rattle.std.specs.Prelude.{Option, Some, None, slice_get, take}
use Rattle.std.specs.Str.{bytes_eq}
use Rattle.crtp_packets.specs.Commands.{start_of}
use Rattle.upload_model.specs.declared.events.Progress.TheVariants.{Done}
use Rattle.upload_model.specs.declared.events.WorldEvent.{WorldEvent}
use Rattle.upload_model.specs.declared.events.WorldEvent.TheVariants.{Tick, Take, Hear, Alter}
use Rattle.upload_model.specs.Drones.{DroneState, handled, has_entry}
use Rattle.upload_model.specs.Memories.{IsDrone}
use Rattle.upload_model.specs.Sessions.{Upload, IsSession, drone_count, packet_at, start_number, write_count}
use Rattle.upload_model.specs.Taking.{AreOwn, IsAccepted}
use Rattle.upload_model.specs.Hosts.{progress}
use Rattle.upload_model.specs.Worlds.{World, start_world, happens, world}
use Rattle.upload_model.specs.Theorem.{IsCase, TakesStart}

-- Whether a drone begins by this packet, if there is one: it is the start of this id, and the drone has an entry of it.
-- A drone refuses a start without an entry, and accepts every other one.
abbrev pub begins_by : ℕ → DroneState → Option (List ℕ) → Bool
begins_by id x None = false
begins_by id x (Some packet) = bytes_eq packet (start_of id) && has_entry x.table id

-- ---- in an upload

-- Whether in this world the event is drone d taking a start by which it begins.
abbrev pub begins : Upload → World → ℕ → WorldEvent → Bool
begins s w d Tick = false
begins s w d (Take i n) = i == d && begins_by s.trajectory_id (w.drones d) (slice_get (w.sent d) n)
begins s w d (Hear i n) = false
begins s w d (Alter i address value) = false

-- How often drone d begins in these events, from a world on.
abbrev pub beginnings : Upload → World → ℕ → List WorldEvent → ℕ
beginnings s w d [] = 0
beginnings s w d (e ∷ es) = (if begins s w d e then 1 else 0) + beginnings s (happens s w e) d es

-- At Done, where the session starts, each drone has begun at least once, whoever else alters a byte. Nothing bounds how
-- often: a start that the link repeats is accepted again.
abbrev pub BeginLaw : Type 0
BeginLaw =
    (s : Upload) (drones : ℕ → DroneState) → IsCase s drones → (events : List WorldEvent) (d : ℕ) → d < drone_count s →
    s.start ≡ true → progress s (world s drones events).heard ≡ Done → 1 ≤ beginnings s (start_world s drones) d events

-- The link hands drone d one start at most: there are no two of these events at which it takes one.
abbrev pub TakesOneStart : Upload → (ℕ → DroneState) → List WorldEvent → ℕ → Type 0
TakesOneStart s drones events d =
    (i j : ℕ) (e f : WorldEvent) → slice_get events i ≡ Some e → slice_get events j ≡ Some f →
    TakesStart s (world s drones (take i events)) d e → TakesStart s (world s drones (take j events)) d f → i ≡ j

-- At Done, where the session starts, a drone to which the link hands one start at most has begun exactly once.
abbrev pub OnceLaw : Type 0
OnceLaw =
    (s : Upload) (drones : ℕ → DroneState) → IsCase s drones → (events : List WorldEvent) (d : ℕ) → d < drone_count s →
    s.start ≡ true → progress s (world s drones events).heard ≡ Done → TakesOneStart s drones events d →
    beginnings s (start_world s drones) d events ≡ 1

-- ---- in any order, without a host

-- How many of these packets are drone d's start.
abbrev pub starts_in : Upload → ℕ → List ℕ → ℕ
starts_in s d [] = 0
starts_in s d (k ∷ ks) = (if k == start_number s d then 1 else 0) + starts_in s d ks

-- How often drone d, which was x, begins as it takes these of its packets, one after the other.
abbrev pub beginnings_in : Upload → ℕ → DroneState → List ℕ → ℕ
beginnings_in s d x [] = 0
beginnings_in s d x (k ∷ ks) =
    (if begins_by s.trajectory_id x (Some (packet_at s d k)) then 1 else 0)
    + beginnings_in s d (handled x (packet_at s d k)).drone ks

-- Whoever sends a drone its packets: where it took no start before it accepted its define, it begins once for each
-- start that it takes later.
abbrev pub EachLaw : Type 0
EachLaw =
    (s : Upload) (d : ℕ) (x : DroneState) (order later : List ℕ) → IsSession s → d < drone_count s → IsDrone x →
    AreOwn s d (order ++ later) →
    IsAccepted s d x order (write_count s d) → starts_in s d order ≡ 0 →
    beginnings_in s d x (order ++ later) ≡ starts_in s d later
