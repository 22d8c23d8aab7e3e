-- The definitions at small sessions: each line computes one answer and compares it with what the
-- document of the radio says.
use Rattle.upload_model.proofs.Prelude.{◌≡◌, ℕ, ◌∷◌, ◌++◌, [], List, Bool, true, false, replicate, take, drop, refl, None, Some, map, Option, range_with_len, Event, Progress, Going, Done, GaveUp, Refused, Differs, Sent, WorldEvent, Tick, Take, Hear, Alter, DroneState, handled, Upload, part_count, write_count, read_count, packet_at, packet_count, packets_of, reply_in, reply_to, all_settled, phase_of, flight_in, flight_at, flight, acknowledges, acked_from, acked, ticks, all_packets, ending, progress_within, progress, out, taken, accepting, IsAccepted, world, start_world, host_event, happens}
use Rattle.upload_model.specs.declared.events.Event.TheVariants as event

abbrev path : List ℕ
path = 0 ∷ 0 ∷ 0 ∷ 0 ∷ 0xE8 ∷ 3 ∷ 0 ∷ 0 ∷ 3 ∷ 0xD0 ∷ 7 ∷ 0 ∷ 0 ∷ 0 ∷ 0 ∷ 0 ∷ 0 ∷ 0xE8 ∷ 3 ∷ 0xE8 ∷ 3 ∷ 0xE8 ∷ 3 ∷ 0xE8 ∷ 3 ∷ 0 ∷ 0 ∷ 0 ∷ []

-- a path of 28 bytes and one segment at this offset, with read-back or without, with a start or without
abbrev at_offset : ℕ → Bool → Bool → Upload
at_offset offset readback start = record {
  memory_id = 2;
  offset = offset;
  trajectory_id = 0;
  loads = record { bytes = path; pieces = 1 } ∷ [];
  readback = readback;
  start = start;
}

abbrev session : Bool → Upload
session start = at_offset 0 false start

abbrev with_readback : Bool → Upload
with_readback start = at_offset 0 true start

abbrev blank : ℕ → DroneState
blank d = record { memory_id = 2; memory = replicate 140 255; table = replicate 10 None; started = None }

-- how an upload ends after what happened to its host, and in its world
unfoldable ends : Upload → List Event → Progress
ends s h = progress s h

unfoldable ends_after : Upload → List WorldEvent → Progress
ends_after s events = progress s (world s blank events).heard

-- what drone 0 then has
unfoldable memory_after : Upload → List WorldEvent → List ℕ
memory_after s events = ((world s blank events).drones 0).memory

unfoldable started_after : Upload → List WorldEvent → Option ℕ
started_after s events = ((world s blank events).drones 0).started

-- what it gave as answers
unfoldable given_after : Upload → List WorldEvent → List (List ℕ)
given_after s events = (world s blank events).given 0

-- what the last of these events sends
unfoldable sends : Upload → List Event → Event → List Sent
sends s h e = out s h e

-- the upload with read-back and starts after all is loaded and this packet came up from a drone
unfoldable heard_next : List ℕ → ℕ → Progress
heard_next packet from = progress (with_readback true) ((world (with_readback true) blank (Take 0 0 ∷ Take 0 1 ∷ Hear 0 0 ∷ Hear 0 1 ∷ Take 0 2 ∷ Hear 0 2 ∷ [])).heard ++ event.Up from packet ∷ [])

record PacketRows : Type 0 where
  -- the four packets of a path of 28 bytes and one segment
  packets : packets_of (session true) 0 ≡
      (0x4E ∷ 2 ∷ 0 ∷ 0 ∷ 0 ∷ 0 ∷ take 24 path)
      ∷ (0x4E ∷ 2 ∷ 0x18 ∷ 0 ∷ 0 ∷ 0 ∷ 3 ∷ 0 ∷ 0 ∷ 0 ∷ [])
      ∷ (0x8C ∷ 6 ∷ 0 ∷ 1 ∷ 1 ∷ 0 ∷ 0 ∷ 0 ∷ 0 ∷ 1 ∷ [])
      ∷ (0x8C ∷ 5 ∷ 0 ∷ 0 ∷ 0 ∷ 0 ∷ 0 ∷ 0 ∷ 0x80 ∷ 0x3F ∷ []) ∷ []
  -- with read-back it has two reads before the start
  packets_readback : map (packet_at (with_readback true) 0) (range_with_len 2 4) ≡
      (0x8C ∷ 6 ∷ 0 ∷ 1 ∷ 1 ∷ 0 ∷ 0 ∷ 0 ∷ 0 ∷ 1 ∷ [])
      ∷ (0x4D ∷ 2 ∷ 0 ∷ 0 ∷ 0 ∷ 0 ∷ 20 ∷ [])
      ∷ (0x4D ∷ 2 ∷ 20 ∷ 0 ∷ 0 ∷ 0 ∷ 8 ∷ [])
      ∷ (0x8C ∷ 5 ∷ 0 ∷ 0 ∷ 0 ∷ 0 ∷ 0 ∷ 0 ∷ 0x80 ∷ 0x3F ∷ []) ∷ []

packet_rows : PacketRows
unfolding ends ends_after memory_after started_after sends heard_next handled part_count write_count read_count packet_at packet_count reply_in reply_to all_settled phase_of flight_in flight_at acknowledges acked_from acked ticks all_packets ending progress_within progress out start_world host_event happens
packet_rows = record { packets = refl; packets_readback = refl }

-- ---- taken in any order

-- a start before the define is refused, the writes come turned round, and three packets come again
abbrev order : List ℕ
order = 3 ∷ 1 ∷ 2 ∷ 0 ∷ 3 ∷ 1 ∷ 2 ∷ []

unfoldable drone_after : List ℕ → DroneState
drone_after ks = taken (session true) 0 (blank 0) ks

record TakenInAnyOrder : Type 0 where
  taken_memory : (drone_after order).memory ≡ path ++ replicate 112 255
  taken_early : (drone_after (3 ∷ 1 ∷ [])).started ≡ None
  taken_started : (drone_after order).started ≡ Some 0
  -- the start is accepted at place 4, and its answer is the one of the document
  start_accepted : IsAccepted (session true) 0 (blank 0) order 3
  start_accepting : accepting (session true) 0 3 ≡ 0x8C ∷ 5 ∷ 0 ∷ 0 ∷ 0 ∷ []
  write_accepting : accepting (session true) 0 1 ≡ 0x4E ∷ 2 ∷ 24 ∷ 0 ∷ 0 ∷ 0 ∷ 0 ∷ []

taken_in_any_order : TakenInAnyOrder
unfolding drone_after handled write_count read_count packet_at
taken_in_any_order = record { taken_memory = refl; taken_early = refl; taken_started = refl; start_accepted = (4, refl, refl); start_accepting = refl; write_accepting = refl }

-- ---- without read-back

-- the first two packets come turned round and twice, and both answers are heard
abbrev schedule : List WorldEvent
schedule = Take 0 1 ∷ Take 0 0 ∷ Take 0 0 ∷ Hear 0 0 ∷ Hear 0 0 ∷ Hear 0 1 ∷ Take 0 2 ∷ Hear 0 3 ∷ []

-- a start that is sent twice is taken three times; its last answer alone is enough
abbrev often : List WorldEvent
often = schedule ++ Take 0 3 ∷ Take 0 3 ∷ Tick ∷ Take 0 4 ∷ []

-- nineteen ticks, and twenty
abbrev silence : ℕ → List Event
silence n = replicate n event.Tick

-- answers of status 0 to both writes, the define and the start
abbrev first_write : Event
first_write = event.Up 0 (0x4E ∷ 2 ∷ 0 ∷ 0 ∷ 0 ∷ 0 ∷ 0 ∷ [])

abbrev second_write : Event
second_write = event.Up 0 (0x4E ∷ 2 ∷ 24 ∷ 0 ∷ 0 ∷ 0 ∷ 0 ∷ [])

abbrev define_answer : Event
define_answer = event.Up 0 (0x8C ∷ 6 ∷ 0 ∷ 1 ∷ 0 ∷ [])

abbrev start_answer : Event
start_answer = event.Up 0 (0x8C ∷ 5 ∷ 0 ∷ 0 ∷ 0 ∷ [])

record WithoutReadBack : Type 0 where
  reordered : ends_after (session false) schedule ≡ Done
  filled : memory_after (session false) schedule ≡ path ++ replicate 112 255
  -- with a start the same events are not enough; with the start taken and its answer heard they are
  not_started : ends_after (session true) schedule ≡ Going
  started : ends_after (session true) (schedule ++ Take 0 3 ∷ Hear 0 4 ∷ []) ≡ Done
  started_id : started_after (session true) (schedule ++ Take 0 3 ∷ Hear 0 4 ∷ []) ≡ Some 0
  taken_often : drop 4 (given_after (session true) often) ≡ replicate 3 (0x8C ∷ 5 ∷ 0 ∷ 0 ∷ 0 ∷ [])
  taken_often_end : ends_after (session true) (often ++ Hear 0 6 ∷ []) ≡ Done
  nineteen : ends (session true) (silence 19) ≡ Going
  twenty : ends (session true) (silence 20) ≡ GaveUp 0 0
  -- what is in flight before any event, and at a tick
  first_sent : flight (session true) [] ≡ record { drone = 0; packet = 0 } ∷ record { drone = 0; packet = 1 } ∷ []
  tick_sends : sends (session true) (silence 18) event.Tick ≡ record { drone = 0; packet = 0 } ∷ record { drone = 0; packet = 1 } ∷ []
  last_tick_sends : sends (session true) (silence 19) event.Tick ≡ []
  -- the second answer sends nothing, the first one the define, its answer the start, whose answer ends the upload
  second_sends : sends (session true) [] second_write ≡ []
  define_sent : sends (session true) (second_write ∷ []) first_write ≡ record { drone = 0; packet = 2 } ∷ []
  start_sent : sends (session true) (second_write ∷ first_write ∷ []) define_answer ≡ record { drone = 0; packet = 3 } ∷ []
  in_order : ends (session true) (second_write ∷ first_write ∷ define_answer ∷ start_answer ∷ []) ≡ Done
  -- a good answer to a packet that was never sent counts for nothing
  early_define : ends (session false) (define_answer ∷ first_write ∷ second_write ∷ []) ≡ Going
  early_define_sent : sends (session false) (define_answer ∷ first_write ∷ []) second_write ≡ record { drone = 0; packet = 2 } ∷ []
  early_start : ends (session true) (start_answer ∷ first_write ∷ second_write ∷ define_answer ∷ []) ≡ Going
  -- the first write, and a define and a start that were never sent, are refused
  refusal : ends (session true) (event.Up 0 (0x4E ∷ 2 ∷ 0 ∷ 0 ∷ 0 ∷ 0 ∷ 5 ∷ []) ∷ []) ≡ Refused 0 0 5
  define_refused : ends (session true) (event.Up 0 (0x8C ∷ 6 ∷ 0 ∷ 1 ∷ 2 ∷ []) ∷ []) ≡ Refused 0 2 2
  start_refused : ends (session true) (event.Up 0 (0x8C ∷ 5 ∷ 0 ∷ 0 ∷ 2 ∷ []) ∷ []) ≡ Refused 0 3 2
  -- without starts nobody asks for one
  no_start_refused : ends (session false) (event.Up 0 (0x8C ∷ 5 ∷ 0 ∷ 0 ∷ 2 ∷ []) ∷ []) ≡ Going
  -- what is acknowledged is refused no more
  refused_late : ends (session true) (first_write ∷ event.Up 0 (0x4E ∷ 2 ∷ 0 ∷ 0 ∷ 0 ∷ 0 ∷ 5 ∷ []) ∷ []) ≡ Going
  -- the same answer from another drone, and a packet of another port, change nothing
  other_drone : ends (session true) (event.Up 1 (0x4E ∷ 2 ∷ 0 ∷ 0 ∷ 0 ∷ 0 ∷ 5 ∷ []) ∷ []) ≡ Going
  other_port : ends (session true) (event.Up 0 (0 ∷ 72 ∷ 105 ∷ []) ∷ []) ≡ Going
  -- an upload without read-back asks for no byte
  no_reads : ends (session true) (event.Up 0 (0x4D ∷ 2 ∷ 0 ∷ 0 ∷ 0 ∷ 0 ∷ 5 ∷ []) ∷ []) ≡ Going

without_read_back : WithoutReadBack
unfolding ends ends_after memory_after started_after sends heard_next handled part_count write_count read_count packet_at packet_count reply_in reply_to all_settled phase_of flight_in flight_at acknowledges acked_from acked ticks all_packets ending progress_within progress out start_world host_event happens given_after
without_read_back = record { reordered = refl; filled = refl; not_started = refl; started = refl; started_id = refl; taken_often = refl; taken_often_end = refl; nineteen = refl; twenty = refl; first_sent = refl; tick_sends = refl; last_tick_sends = refl; second_sends = refl; define_sent = refl; start_sent = refl; in_order = refl; early_define = refl; early_define_sent = refl; early_start = refl; refusal = refl; define_refused = refl; start_refused = refl; no_start_refused = refl; refused_late = refl; other_drone = refl; other_port = refl; no_reads = refl }

-- ---- with read-back

abbrev loading : List WorldEvent
loading = Take 0 0 ∷ Take 0 1 ∷ Hear 0 0 ∷ Hear 0 1 ∷ Take 0 2 ∷ Hear 0 2 ∷ []

abbrev reading : List WorldEvent
reading = Take 0 3 ∷ Take 0 4 ∷ Hear 0 3 ∷ Hear 0 4 ∷ []

record WithReadBack : Type 0 where
  -- all is taken and heard in order
  done : ends_after (with_readback false) (loading ++ reading) ≡ Done
  -- the reads are sent when all is loaded
  reads_sent : sends (with_readback true) (first_write ∷ second_write ∷ []) define_answer ≡ record { drone = 0; packet = 3 } ∷ record { drone = 0; packet = 4 } ∷ []
  -- a byte that is altered before its read is taken differs; after it nobody sees it
  differs : ends_after (with_readback false) (loading ++ Alter 0 3 7 ∷ reading) ≡ Differs 0 3 0 7
  altered_late : ends_after (with_readback false) (loading ++ Take 0 3 ∷ Alter 0 3 7 ∷ Take 0 4 ∷ Hear 0 3 ∷ Hear 0 4 ∷ []) ≡ Done
  altered_memory : take 9 (memory_after (with_readback false) (loading ++ Take 0 3 ∷ Alter 0 3 7 ∷ Take 0 4 ∷ Hear 0 3 ∷ Hear 0 4 ∷ [])) ≡ 0 ∷ 0 ∷ 0 ∷ 7 ∷ 0xE8 ∷ 3 ∷ 0 ∷ 0 ∷ 3 ∷ []
  -- what is altered before it is written is written over
  altered_early : ends_after (with_readback false) (Alter 0 3 7 ∷ loading ++ reading) ≡ Done
  -- the address is the memory's, and the first byte that differs is named
  with_offset : ends_after (at_offset 100 true false) (loading ++ Alter 0 120 0 ∷ Alter 0 127 1 ∷ reading) ≡ Differs 0 120 3 0
  -- an alteration of a drone that isn't there, and of an address past the memory, changes nothing
  altered_nothing : ends_after (with_readback false) (loading ++ Alter 1 3 7 ∷ Alter 0 4096 7 ∷ reading) ≡ Done
  -- where starts are wanted, a drone has to be started
  not_started_yet : ends_after (with_readback true) (loading ++ reading) ≡ Going
  started_end : ends_after (with_readback true) (loading ++ reading ++ Take 0 5 ∷ Hear 0 5 ∷ []) ≡ Done
  started_after_reads : started_after (with_readback true) (loading ++ reading ++ Take 0 5 ∷ Hear 0 5 ∷ []) ≡ Some 0
  -- no start is sent before all reads are right
  no_start_yet : started_after (with_readback true) (loading ++ Take 0 3 ∷ Take 0 4 ∷ Hear 0 3 ∷ Take 0 5 ∷ []) ≡ None
  -- twenty ticks end a silent read, and a silent start
  silent_read : ends_after (with_readback false) (loading ++ replicate 20 Tick) ≡ GaveUp 0 3
  nineteen_reads : ends_after (with_readback false) (loading ++ replicate 19 Tick) ≡ Going
  silent_start : ends_after (with_readback true) (loading ++ reading ++ replicate 20 Tick) ≡ GaveUp 0 5
  -- a tick sends the reads again, and either copy is answered
  again : ends_after (with_readback false) (loading ++ Tick ∷ Take 0 6 ∷ Take 0 5 ∷ Hear 0 3 ∷ Hear 0 4 ∷ []) ≡ Done
  -- the first phase ends as an upload does
  first_phase : ends_after (with_readback true) (replicate 20 Tick) ≡ GaveUp 0 0
  -- a read that is refused, one that brings too few bytes, and the answer of another drone
  read_refused : heard_next (0x4D ∷ 2 ∷ 0 ∷ 0 ∷ 0 ∷ 0 ∷ 5 ∷ []) 0 ≡ Refused 0 3 5
  too_few : heard_next (0x4D ∷ 2 ∷ 0 ∷ 0 ∷ 0 ∷ 0 ∷ 0 ∷ take 19 path) 0 ≡ Going
  read_of_another : heard_next (0x4D ∷ 2 ∷ 0 ∷ 0 ∷ 0 ∷ 0 ∷ 5 ∷ []) 1 ≡ Going
  -- a start that is refused before it was sent, and one that is answered well
  start_refused_early : heard_next (0x8C ∷ 5 ∷ 0 ∷ 0 ∷ 2 ∷ []) 0 ≡ Refused 0 5 2
  start_answered_early : heard_next (0x8C ∷ 5 ∷ 0 ∷ 0 ∷ 0 ∷ []) 0 ≡ Going
  -- before all is loaded answers to reads and starts count for nothing, left over as they may be
  reads_left_over : ends (with_readback true) (event.Up 0 (0x4D ∷ 2 ∷ 0 ∷ 0 ∷ 0 ∷ 0 ∷ 5 ∷ []) ∷ []) ≡ Going
  starts_left_over : ends (with_readback true) (event.Up 0 (0x8C ∷ 5 ∷ 0 ∷ 0 ∷ 2 ∷ []) ∷ []) ≡ Going
  define_refused_first : ends (with_readback true) (event.Up 0 (0x8C ∷ 6 ∷ 0 ∷ 1 ∷ 2 ∷ []) ∷ []) ≡ Refused 0 2 2

with_read_back : WithReadBack
unfolding ends ends_after memory_after started_after sends heard_next handled part_count write_count read_count packet_at packet_count reply_in reply_to all_settled phase_of flight_in flight_at acknowledges acked_from acked ticks all_packets ending progress_within progress out start_world host_event happens
with_read_back = record { done = refl; reads_sent = refl; differs = refl; altered_late = refl; altered_memory = refl; altered_early = refl; with_offset = refl; altered_nothing = refl; not_started_yet = refl; started_end = refl; started_after_reads = refl; no_start_yet = refl; silent_read = refl; nineteen_reads = refl; silent_start = refl; again = refl; first_phase = refl; read_refused = refl; too_few = refl; read_of_another = refl; start_refused_early = refl; start_answered_early = refl; reads_left_over = refl; starts_left_over = refl; define_refused_first = refl }
