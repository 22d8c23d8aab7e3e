-- What holds of each row, and the words of private functions. No public contract cites this file.
use Rattle.std.specs.Prelude.{◌≡◌, ◌≢◌, ◌⊎◌, ℕ, ◌+◌, ◌<◌, ◌≤◌, true, false, not, ◌==◌, if◌then◌else◌, List, [], ◌∷◌}
use Rattle.std.specs.Prelude.{length, map, filter, find, Option, Some, None, Result, All}
use Rattle.std.specs.List.{range_with_len, list_all, flat_map}
use Rattle.crtp_packets.specs.declared.reading.PacketFault.{PacketFault}
use Rattle.crtp_packets.specs.declared.reading.Up.{Up}
use Rattle.upload_model.specs.declared.events.Event.{Event}
use Rattle.upload_model.specs.declared.events.Phase.{Phase}
use Rattle.upload_model.specs.declared.events.Phase.TheVariants.{Loading, Reading, Starting}
use Rattle.upload_model.specs.declared.events.Progress.{Progress}
use Rattle.upload_model.specs.declared.events.Progress.TheVariants.{Done}
use Rattle.upload_model.specs.declared.events.Reply.TheVariants.{Silent}
use Rattle.upload_model.specs.declared.limits.TheConstants.{TICKS_TO_GIVE_UP}
use Rattle.upload_model.specs.declared.events.Sent.{Sent}
use Rattle.upload_model.specs.Sessions.{Upload, drone_count, packet_count, first_of}
use Rattle.upload_model.specs.Replies.{reply_in}
use Rattle.upload_model.specs.Hosts.{Packets, all_settled, phase_of, allowed, flight_after, includes, acknowledges}
use Rattle.upload_model.specs.Hosts.{joined, all_packets, sent_to, ended_for, ends_for, if_going}
use Rattle.upload_core.specs.declared.row.InFlight.{InFlight}
use Rattle.upload_core.specs.declared.row.Row.{Row}
use Rattle.upload_core.specs.Rows.{packets_in, is_marked, row_at, marked, window_at, count_in, counted}

-- Numbers that rise, from a to b - 1 at most.
abbrev pub IsBetween : ℕ → ℕ → List ℕ → Type 0
IsBetween a b [] = Unit {0}
IsBetween a b (x ∷ xs) = (a ≤ x) × (x < b) × IsBetween (x + 1) b xs

-- What is in flight for the first time.
abbrev pub fresh : ℕ → InFlight
fresh k = record { packet = k; ticks = 0 }

-- One tick more.
abbrev pub older : InFlight → InFlight
older e = record e { ticks = e.ticks + 1 }

-- The first packet at 20 ticks.
abbrev pub tired_in : List InFlight → Option ℕ
tired_in [] = None
tired_in (e ∷ es) = if e.ticks == 20 then Some e.packet else tired_in es

-- In flight are numbers that rise, from a on: four, or all up to `until`.
pub record IsRow (a : ℕ) (row : Row) : Type 0 where
  pub rising : IsBetween a row.next (packets_in row.window.items)
  pub from : a ≤ row.next
  pub past : row.next ≤ row.until
  pub few : length row.window.items ≤ 4
  pub full : (length row.window.items ≡ 4) ⊎ (row.next ≡ row.until)

-- The row is that of drone d in this phase.
pub record RowStands (s : Upload) (p : Phase) (d : ℕ) (row : Row) : Type 0 where
  pub shape : IsRow (first_of s p d) row
  pub until : row.until ≡ first_of s p d + allowed s p (λ i k. is_marked row k) d

-- These are the rows of a session's drones in this phase.
pub record RowsStand (s : Upload) (p : Phase) (rows : List Row) : Type 0 where
  pub count : length rows ≡ drone_count s
  pub each : (d : ℕ) → d < drone_count s → RowStands s p d (row_at rows d)

-- All that is in flight, by the rows of the first n drones.
abbrev pub in_windows : List Row → ℕ → List Sent
in_windows rows n = flat_map (λ d. sent_to d (window_at rows d)) (range_with_len 0 n)

-- A row whose packets in flight have one tick more.
abbrev pub older_row : Row → Row
older_row row = record row { window = record { items = map older row.window.items } }

-- Nothing in flight has been counted as often as the host waits.
abbrev pub IsLow : List Row → Type 0
IsLow rows = All (λ (row : Row). All (λ (e : InFlight). e.ticks < TICKS_TO_GIVE_UP) row.window.items) rows

-- The phases before this one are complete.
abbrev pub IsBegun : Upload → Packets → Phase → Type 0
IsBegun s done Loading = Unit {0}
IsBegun s done Reading = all_settled s Loading done ≡ true
IsBegun s done Starting = (all_settled s Loading done ≡ true) × (all_settled s Reading done ≡ true)

-- While an upload is going, some packet isn't marked, and none in flight has been counted as often as the
-- host waits.
pub record IsReady (s : Upload) (rows : List Row) : Type 0 where
  pub unfinished : list_all (λ x. marked rows x.drone x.packet) (all_packets s) ≡ false
  pub low : IsLow rows

-- A row to which nothing has happened.
pub record IsStarting (s : Upload) (d : ℕ) (row : Row) : Type 0 where
  pub stands : RowStands s Loading d row
  pub blank : (k : ℕ) → is_marked row k ≡ false
  pub counts : (k : ℕ) → count_in row.window.items k ≡ 0

-- What a message says of the packets of drone d, where it may answer packet k alone, or none.
abbrev pub IsFor : Upload → ℕ → Result Up PacketFault → Option ℕ → Type 0
IsFor s d m None = (j : ℕ) → j < packet_count s d → reply_in s d j m ≡ Silent
IsFor s d m (Some k) = (k < packet_count s d) × ((j : ℕ) → j < packet_count s d → j ≢ k → reply_in s d j m ≡ Silent)

-- What a host makes of an answer while the upload is going: the phase and the rows that it comes to, what
-- it has marked and counted, how far the upload is, and what is sent.
pub record Hears (s : Upload) (e : Event) (before : List Row) (p : Phase) (later : List Row) (answer : Progress)
    (out : List Sent) : Type 0 where
  pub rows : RowsStand s p later
  pub phase : p ≡ phase_of s (marked later)
  pub marks : (d k : ℕ) → d < drone_count s →
      marked later d k ≡ joined (marked before) (acknowledges s (marked before) e) d k
  pub counts : (x : Sent) → includes (flight_after s (marked later)) x ≡ true →
      counted later x.drone x.packet
      ≡ (if includes (flight_after s (marked before)) x then counted before x.drone x.packet else 0)
  pub low : IsLow before → IsLow later
  pub len : length later ≡ length before
  pub finished : list_all (λ x. marked later x.drone x.packet) (all_packets s) ≡ true → answer ≡ Done
  pub unfinished : list_all (λ x. marked later x.drone x.packet) (all_packets s) ≡ false →
      answer ≡ ended_for s e (find (λ x. ends_for s (marked later) e x) (all_packets s))
  pub sent : out ≡ if_going answer
      (filter (λ x. not (includes (flight_after s (marked before)) x)) (flight_after s (marked later)))
