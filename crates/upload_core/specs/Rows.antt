-- How a host remembers one drone: its packets in flight with their counts, and the first packet that
-- never was in flight. Contracts of the host speak of it by `view_of` alone.
use Rattle.std.specs.Prelude.{◌≡◌, ℕ, ◌+◌, ◌*◌, ◌^◌, ◌<◌, Bool, not, ◌&&◌, nat_lt, ◌==◌, if◌then◌else◌, List, [], ◌∷◌}
use Rattle.std.specs.Prelude.{map, slice_index_or}
use Rattle.std.specs.Int.{bit_at}
use Rattle.std.specs.List.{range_with_len, list_any}
use Rattle.upload_model.specs.Sessions.{Upload, packet_count}
use Rattle.upload_model.specs.Hosts.{Packets}
use Rattle.upload_core.specs.declared.row.InFlight.{InFlight}
use Rattle.upload_core.specs.declared.row.Row.{Row}

-- The packets of a list.
abbrev pub packets_in : List InFlight → List ℕ
packets_in entries = map (λ e. e.packet) entries

-- Whether a number is among those.
abbrev pub among : List ℕ → ℕ → Bool
among ks k = list_any (λ j. j == k) ks

-- The numbers below `next` that aren't in flight: each packet below it was in flight, and left it as it
-- was acknowledged.
abbrev pub is_past : ℕ → List ℕ → ℕ → Bool
is_past next ks k = nat_lt k next && not (among ks k)

-- The packets of a drone that are acknowledged.
abbrev pub is_marked : Row → ℕ → Bool
is_marked row k = is_past row.next (packets_in row.window.items) k

-- The row of drone d. Past the last drone it is empty.
abbrev pub row_at : List Row → ℕ → Row
row_at rows d = slice_index_or rows d (record { window = record { items = [] }; next = 0; until = 0 })

-- The set of packets that are acknowledged.
abbrev pub marked : List Row → Packets
marked rows d k = is_marked (row_at rows d) k

-- The packets of drone d that are in flight.
abbrev pub window_at : List Row → ℕ → List ℕ
window_at rows d = packets_in (row_at rows d).window.items

-- The count of packet k. What isn't in the list has none.
abbrev pub count_in : List InFlight → ℕ → ℕ
count_in [] k = 0
count_in (e ∷ es) k = if e.packet == k then e.ticks else count_in es k

-- The count of each packet.
abbrev pub counted : List Row → ℕ → ℕ → ℕ
counted rows d k = count_in (row_at rows d).window.items k

-- Bit k of a word.
abbrev pub bit : ℕ → ℕ → Bool
bit word k = bit_at word k == 1

-- Word w of a set of packets of drone d: bit k is 1 exactly where the drone has a packet 64 w + k and the
-- set has it.
pub record IsWord (s : Upload) (done : Packets) (d w word : ℕ) : Type 0 where
  pub small : word < 2 ^ 64
  pub bits : (k : ℕ) → k < 64 → bit word k ≡ (nat_lt (64 * w + k) (packet_count s d) && done d (64 * w + k))

-- The first number of these that a set doesn't have, or n.
abbrev pub first_open : (ℕ → Bool) → List ℕ → ℕ → ℕ
first_open done [] n = n
first_open done (k ∷ ks) n = if done k then first_open done ks n else k

-- The first packet of drone d that isn't in the set, or how many it has where all are.
abbrev pub cursor_of : Upload → Packets → ℕ → ℕ
cursor_of s done d = first_open (done d) (range_with_len 0 (packet_count s d)) (packet_count s d)
