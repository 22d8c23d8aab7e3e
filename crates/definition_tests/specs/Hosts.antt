-- What the definitions of an upload's host say of two drones with a load of three bytes each.
use Rattle.std.specs.Prelude.{◌≡◌, ℕ, ◌∷◌, [], List, Bool, false, true, map, nat_lt, ◌==◌, if◌then◌else◌, replicate}
use Rattle.std.specs.Prelude.{Option, Some, None, Ok, Err}
use Rattle.crtp_packets.specs.Chunks.{chunk_count_of}
use Rattle.crtp_packets.specs.Reading.{up_of}
use Rattle.crtp_packets.specs.declared.reading.PacketFault.TheVariants.{Empty, Short}
use Rattle.crtp_packets.specs.declared.reading.Up.TheVariants.{WriteAnswer, ReadAnswer, CommandAnswer}
use Rattle.upload_model.specs.declared.events.Event.{Event}
use Rattle.upload_model.specs.declared.events.Event.TheVariants as event
use Rattle.upload_model.specs.declared.events.Phase.TheVariants.{Loading, Reading, Starting}
use Rattle.upload_model.specs.declared.events.Progress.{Progress}
use Rattle.upload_model.specs.declared.events.Progress.TheVariants.{Going, Done, GaveUp, Refused, Differs}
use Rattle.upload_model.specs.declared.events.Reply.TheVariants.{Silent, Good, Ends}
use Rattle.upload_model.specs.declared.events.Sent.{Sent}
use Rattle.upload_model.specs.Hosts.{Packets, acknowledges, all_packets, all_settled, allowed, counts, ending}
use Rattle.upload_model.specs.Hosts.{ends_for, flight_after, flight_in, gave_up, if_going, includes, is_tick, joined}
use Rattle.upload_model.specs.Hosts.{or_else, out, phase_of, ticks}
use Rattle.upload_model.specs.Replies.{compared, end_of, is_end, is_good, read_in, read_reply, reply_to, status_in}
use Rattle.upload_model.specs.Replies.{status_reply}
use Rattle.upload_model.specs.Sessions.{Upload, count_of, first_of, load_count}
use Rattle.definition_tests.specs.Begins.{session}
use Rattle.definition_tests.specs.Pairs.{both_reading}

-- packet k of drone d
abbrev pub packet : ℕ → ℕ → Sent
packet d k = record { drone = d; packet = k }

-- of the first drone so many packets are acknowledged, and of each other one so many
abbrev pub acked_to : ℕ → ℕ → Packets
acked_to first other d k = if d == 0 then nat_lt k first else nat_lt k other

-- a drone's answer to its write of three bytes, and to its read of them, with this status
abbrev pub to_write : ℕ → ℕ → Event
to_write d status = event.Up d (0x4E ∷ 0 ∷ 0 ∷ 0 ∷ 0 ∷ 0 ∷ status ∷ [])

abbrev pub to_read : ℕ → ℕ → Event
to_read d status = event.Up d (0x4D ∷ 0 ∷ 0 ∷ 0 ∷ 0 ∷ 0 ∷ status ∷ [])

-- its answer to the start
abbrev pub to_start : ℕ → ℕ → Event
to_start d status = event.Up d (0x8C ∷ 5 ∷ 0 ∷ 0 ∷ status ∷ [])

-- one drone with a hundred bytes: five writes, the define and five reads
abbrev pub long : Upload
long = record both_reading { loads = record { bytes = replicate 100 7; pieces = 1 } ∷ [] }

-- Packets 0 and 1 of each drone are the write and the define, 2 is its read, and 3 its start.
pub record HostRows : Type 0 where
  pub all : all_packets both_reading ≡ packet 0 0 ∷ packet 0 1 ∷ packet 0 2 ∷ packet 0 3
      ∷ packet 1 0 ∷ packet 1 1 ∷ packet 1 2 ∷ packet 1 3 ∷ []
  pub firsts : first_of both_reading Loading 0 ∷ first_of both_reading Reading 0 ∷ first_of both_reading Starting 0
      ∷ [] ≡ 0 ∷ 2 ∷ 3 ∷ []
  pub many : count_of both_reading Loading 0 ∷ count_of both_reading Reading 0 ∷ count_of both_reading Starting 0
      ∷ [] ≡ 2 ∷ 1 ∷ 1 ∷ []
  pub no_start : count_of both_reading Starting 0 ∷ count_of (record session { start = false }) Starting 0 ∷ []
      ≡ 1 ∷ 0 ∷ []
  -- a phase is over once nothing of it lacks, of neither drone
  pub settled : all_settled both_reading Loading (acked_to 2 2) ≡ true
  pub first_lacks : all_settled both_reading Loading (acked_to 1 2) ≡ false
  pub other_lacks : all_settled both_reading Loading (acked_to 2 1) ≡ false
  pub phases : phase_of both_reading (acked_to 1 4) ∷ phase_of both_reading (acked_to 2 2)
      ∷ phase_of both_reading (acked_to 3 3) ∷ [] ≡ Loading ∷ Reading ∷ Starting ∷ []
  -- the define may go once the write is acknowledged
  pub before_write : allowed both_reading Loading (acked_to 0 0) 0 ≡ 1
  pub after_write : allowed both_reading Loading (acked_to 1 0) 0 ≡ 2
  pub reads : allowed both_reading Reading (acked_to 2 2) 0 ≡ 1
  pub starts : allowed both_reading Starting (acked_to 3 3) 0 ≡ 1
  -- four packets of a drone at once, and each drone's own
  pub four : flight_in long Loading (acked_to 0 0) 0 ≡ 0 ∷ 1 ∷ 2 ∷ 3 ∷ []
  pub four_reads : flight_in long Reading (acked_to 6 0) 0 ≡ 6 ∷ 7 ∷ 8 ∷ 9 ∷ []
  pub both : flight_after both_reading (acked_to 1 0) ≡ packet 0 1 ∷ packet 1 0 ∷ []
  -- a good answer acknowledges the packet in flight that it names
  pub acknowledged : acknowledges both_reading (acked_to 0 0) (to_write 1 0) ≡ Some (packet 1 0)
  pub not_good : acknowledges both_reading (acked_to 0 0) (to_write 1 5) ≡ None
  pub again : acknowledges both_reading (acked_to 0 1) (to_write 1 0) ≡ None
  pub joins : joined (acked_to 0 0) (Some (packet 1 2)) 1 2 ∷ joined (acked_to 0 0) (Some (packet 1 2)) 1 3
      ∷ joined (acked_to 0 0) (Some (packet 1 2)) 0 2 ∷ joined (acked_to 0 0) None 1 2 ∷ []
      ≡ true ∷ false ∷ false ∷ false ∷ []
  -- only a tick is one, and it counts where the packet was in flight
  pub ticking : map is_tick (Some event.Tick ∷ Some (to_write 0 0) ∷ None ∷ []) ≡ true ∷ false ∷ false ∷ []
  pub among : map (includes (packet 1 2 ∷ [])) (packet 1 2 ∷ packet 1 3 ∷ packet 0 2 ∷ []) ≡ true ∷ false ∷ false ∷ []
  pub two_ticks : map (ticks both_reading (event.Tick ∷ to_write 1 5 ∷ event.Tick ∷ [])) (packet 0 0 ∷ packet 0 1 ∷ [])
      ≡ 2 ∷ 0 ∷ []
  -- An answer to a read counts once both loads are there; without read-back, at once. A refusal ends the upload while
  -- its packet isn't acknowledged.
  pub counted : counts both_reading (acked_to 0 0) 0 1 ∷ counts both_reading (acked_to 0 0) 0 2
      ∷ counts both_reading (acked_to 2 1) 0 2 ∷ counts both_reading (acked_to 2 2) 0 2
      ∷ counts session (acked_to 0 0) 0 2 ∷ [] ≡ true ∷ false ∷ false ∷ true ∷ true ∷ []
  pub ends : ends_for both_reading (acked_to 0 0) (to_write 1 5) (packet 1 0) ≡ true
  pub ends_late : ends_for both_reading (acked_to 0 1) (to_write 1 5) (packet 1 0) ≡ false
  pub ends_early : ends_for both_reading (acked_to 0 0) (to_read 1 5) (packet 1 2) ≡ false
  pub no_end : ends_for both_reading (acked_to 0 0) (to_write 1 0) (packet 1 0) ≡ false
  pub last_event : ending both_reading (event.Tick ∷ to_write 1 5 ∷ []) ≡ Refused 1 0 5
  pub not_the_last : ending both_reading (to_write 1 5 ∷ event.Tick ∷ []) ≡ Going
  pub gives_up : map gave_up (Some (packet 1 2) ∷ None ∷ []) ≡ GaveUp 1 2 ∷ Going ∷ []
  pub first_end : map (λ (p : Progress). or_else p (Refused 1 2 5))
      (Going ∷ Done ∷ GaveUp 0 1 ∷ Refused 0 1 2 ∷ Differs 0 1 2 3 ∷ [])
      ≡ Refused 1 2 5 ∷ Done ∷ GaveUp 0 1 ∷ Refused 0 1 2 ∷ Differs 0 1 2 3 ∷ []
  -- a tick sends what is in flight, an answer what is so now and wasn't before, and after the end nothing is sent
  pub on_tick : out both_reading [] event.Tick ≡ packet 0 0 ∷ packet 1 0 ∷ []
  pub on_answer : out both_reading [] (to_write 1 0) ≡ packet 1 1 ∷ []
  pub on_end : out both_reading [] (to_write 1 5) ≡ []
  pub none_sent : map (λ (p : Progress). if_going p (packet 0 0 ∷ []))
      (Going ∷ Done ∷ GaveUp 0 1 ∷ Refused 0 1 2 ∷ Differs 0 1 2 3 ∷ [])
      ≡ (packet 0 0 ∷ []) ∷ [] ∷ [] ∷ [] ∷ [] ∷ []

-- one drone whose load begins at place 10 of memory 2
abbrev pub far : Upload
far = record session { memory_id = 2; offset = 10 }

pub record ReplyRows : Type 0 where
  -- 24 bytes a write
  pub chunks : map chunk_count_of (0 ∷ 1 ∷ 24 ∷ 25 ∷ 48 ∷ 49 ∷ []) ≡ 0 ∷ 1 ∷ 1 ∷ 2 ∷ 2 ∷ 3 ∷ []
  -- what an answer is: its kind, memory, address and status, the bytes of a read; and one that is too short
  pub wrote : up_of (0x4E ∷ 1 ∷ 2 ∷ 3 ∷ 4 ∷ 0 ∷ 5 ∷ []) ≡ Ok (WriteAnswer 1 262914 5)
  pub found : up_of (0x4D ∷ 1 ∷ 2 ∷ 3 ∷ 4 ∷ 0 ∷ 5 ∷ 8 ∷ 9 ∷ [])
      ≡ Ok (ReadAnswer 1 262914 5 (record { items = 8 ∷ 9 ∷ [] }))
  pub commanded : up_of (0x8C ∷ 5 ∷ 6 ∷ 7 ∷ 8 ∷ 9 ∷ []) ≡ Ok (CommandAnswer (5 ∷ 6 ∷ 7 ∷ []) 8)
  pub short : map up_of ((0x4E ∷ 1 ∷ 2 ∷ 3 ∷ 4 ∷ 0 ∷ [])
      ∷ (0x4D ∷ 1 ∷ 2 ∷ 3 ∷ 4 ∷ 0 ∷ []) ∷ (0x8C ∷ 5 ∷ 6 ∷ 7 ∷ []) ∷ [] ∷ [])
      ≡ Err Short ∷ Err Short ∷ Err Short ∷ Err Empty ∷ []
  -- an answer to a write has its memory and its address, and one to a command the first three bytes of that
  pub its_write : status_in far 0 0 (Ok (WriteAnswer 2 10 5)) ≡ Some 5
  pub other_memory : status_in far 0 0 (Ok (WriteAnswer 1 10 5)) ≡ None
  pub other_place : status_in far 0 0 (Ok (WriteAnswer 2 11 5)) ≡ None
  pub no_write : status_in far 0 1 (Ok (WriteAnswer 2 34 5)) ≡ None
  pub its_define : status_in far 0 1 (Ok (CommandAnswer (6 ∷ 0 ∷ 1 ∷ []) 5)) ≡ Some 5
  pub other_define : status_in far 0 1 (Ok (CommandAnswer (6 ∷ 0 ∷ 2 ∷ []) 5)) ≡ None
  pub no_command : status_in far 0 0 (Ok (CommandAnswer (2 ∷ 10 ∷ 0 ∷ []) 5)) ≡ None
  -- one to a read has its memory and its address, and at status 0 as many bytes as are asked for
  pub its_read : read_in far 0 0 (Ok (ReadAnswer 2 10 0 (record { items = 7 ∷ 8 ∷ 9 ∷ [] })))
      ≡ Some (record { status = 0; bytes = 7 ∷ 8 ∷ 9 ∷ [] })
  pub refused_read : read_in far 0 0 (Ok (ReadAnswer 2 10 5 (record { items = [] })))
      ≡ Some (record { status = 5; bytes = [] })
  pub fewer_bytes : read_in far 0 0 (Ok (ReadAnswer 2 10 0 (record { items = 7 ∷ 8 ∷ [] }))) ≡ None
  pub read_elsewhere : read_in far 0 0 (Ok (ReadAnswer 2 11 0 (record { items = 7 ∷ 8 ∷ 9 ∷ [] }))) ≡ None
  pub read_of_other : read_in far 0 0 (Ok (ReadAnswer 1 10 0 (record { items = 7 ∷ 8 ∷ 9 ∷ [] }))) ≡ None
  -- what that says of the packet
  pub statuses : map (status_reply 1 2) (Some 0 ∷ Some 5 ∷ None ∷ []) ≡ Good ∷ Ends (Refused 1 2 5) ∷ Silent ∷ []
  pub differs : compared 1 10 (4 ∷ 5 ∷ []) (4 ∷ 6 ∷ []) (Some 1) ≡ Ends (Differs 1 11 5 6)
  pub same : compared 1 10 (4 ∷ 5 ∷ []) (4 ∷ 5 ∷ []) None ≡ Good
  pub readings : map (read_reply both_reading 1 2 0) (Some (record { status = 0; bytes = 4 ∷ 5 ∷ 6 ∷ [] })
      ∷ Some (record { status = 0; bytes = 4 ∷ 5 ∷ 7 ∷ [] }) ∷ Some (record { status = 5; bytes = [] }) ∷ None ∷ [])
      ≡ Good ∷ Ends (Differs 1 2 6 7) ∷ Ends (Refused 1 2 5) ∷ Silent ∷ []
  pub of_reads : reply_to both_reading 1 2 (to_read 1 5) ≡ Ends (Refused 1 2 5)
  pub of_starts : reply_to both_reading 1 3 (to_start 1 5) ≡ Ends (Refused 1 3 5)
  -- nothing of another drone's packet, of a packet past the start, of a drone that isn't there, or on a tick
  pub of_other : reply_to both_reading 1 3 (to_start 0 5) ≡ Silent
  pub past_the_start : reply_to both_reading 1 4 (to_start 1 5) ≡ Silent
  pub nobody : reply_to both_reading 2 1 (to_start 2 5) ≡ Silent
  pub on_a_tick : reply_to both_reading 1 3 event.Tick ≡ Silent
  pub good : map is_good (Silent ∷ Good ∷ Ends Done ∷ []) ≡ false ∷ true ∷ false ∷ []
  pub ends : map is_end (Silent ∷ Good ∷ Ends Done ∷ []) ≡ false ∷ false ∷ true ∷ []
  pub finished : map end_of (Silent ∷ Good ∷ Ends Done ∷ []) ≡ Going ∷ Going ∷ Done ∷ []
