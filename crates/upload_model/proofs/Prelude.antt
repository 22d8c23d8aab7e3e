-- What the proofs of this crate cite from elsewhere, passed on from one place. Declares nothing.
pub use Rattle.std.proofs.Common.{Bool, IfSome, List, None, Ok, Option, Result, Some, [], ap, arith, cond, drop, eqb, ext_get_or, false, get_or, inl, inr, length, ltb, min, not, refl, replicate, set, subst, suc, sym, take, true, zero, ℕ, ◌%◌, ◌&&◌, ◌*◌, ◌++◌, ◌+◌, ◌-◌, ◌/◌, ◌<◌, ◌^◌, ◌∙◌, ◌∷◌, ◌≡◌, ◌≢◌, ◌≤◌, ◌⊎◌}
pub use Rattle.std.proofs.lemmas.Bool.{and_parts, cases_Bool, cases_eq, cases_lt, cond-false, cond-true, cond_both, eq-eqb, eqb-true, false≢true, le-leb, le-ltb, lt-leb, lt-ltb, ltb-true, ne_eqb, not-true, or_cases, or_left}
pub use Rattle.std.proofs.lemmas.Grind.{common_steps}
pub use Rattle.std.proofs.lemmas.List.{append-nil, append_assoc, get_or-drop, get_or-take, length-append, length-drop, length-set, length-take, length_push, places, take-append-drop, take-append-le, take_all}
pub use Rattle.std.proofs.lemmas.List.Elements.{All-append, All-cons, All-contains, All-filter, All-head, All-map, All-nil, All-tail, All-take, All-weaker, Contains-append_left, filter-append}
pub use Rattle.std.proofs.lemmas.Option.{get_or_from_slice_get, slice_get_within}
pub use Rattle.std.specs.List.{flat_map, list_all, range_with_len}
pub use Rattle.std.specs.Prelude.{All, Contains, count_by, filter, find, map, slice_get, slice_set}
pub use Rattle.std.specs.Str.{bytes_eq}
pub use Rattle.crtp_packets.specs.Chunks.{chunk_of}
pub use Rattle.crtp_packets.specs.Commands.{answer_of, command_of, define_of, start_of}
pub use Rattle.crtp_packets.specs.Packets.{read_answer_of, read_request_of, write_answer_of, write_request_of}
pub use Rattle.crtp_packets.specs.Reading.{down_of, up_of}
pub use Rattle.crtp_packets.specs.declared.reading.PacketFault.{PacketFault}
pub use Rattle.crtp_packets.specs.declared.reading.Up.{Up}
unfoldable pub use Rattle.upload_model.specs.Drones.{handled}
pub use Rattle.upload_model.specs.Drones.{DroneState, Handled, answers, has_entry, message_taken, read_taken, stored, write_taken}
unfoldable pub use Rattle.upload_model.specs.Hosts.{acked, acked_from, acknowledges, all_packets, all_settled, ending, flight_at, flight_in, out, phase_of, progress, progress_within, ticks}
pub use Rattle.upload_model.specs.Hosts.{Packets, allowed, ended_by, ended_for, ends_for, flight, flight_after, gave_up, if_going, includes, is_tick, joined, or_else, sent_at, sent_to}
pub use Rattle.upload_model.specs.Memories.{HasEntry, HasLoad, HasPiece, IsDrone, IsInside, OnlyLoads}
pub use Rattle.upload_model.specs.Readback.{HasRange, ReadsCover, StartsLastLaw, VerifiedLaw, WasRight, is_right}
unfoldable pub use Rattle.upload_model.specs.Replies.{reply_in, reply_to}
pub use Rattle.upload_model.specs.Replies.{ReadBack, compared, end_of, first_other, is_end, is_good, read_in, read_reply, status_in, status_reply}
unfoldable pub use Rattle.upload_model.specs.Sessions.{packet_at, packet_count, part_count, read_count, write_count}
pub use Rattle.upload_model.specs.Sessions.{IsLoad, IsSession, Upload, count_of, drone_count, first_of, is_read, load_count, load_of, packets_of, read_address, read_at, start_number, wanted}
pub use Rattle.upload_model.specs.Taking.{AreOwn, IsAccepted, TakingLaw, accepting, taken}
pub use Rattle.upload_model.specs.Theorem.{IsCase, IsSafe, IsUnaltered, LastingLaw, StartLaw, StaysSentLaw, TakenLaw, TakesStart, UnstartedLaw, UploadLaw}
unfoldable pub use Rattle.upload_model.specs.Worlds.{happens, host_event, start_world}
pub use Rattle.upload_model.specs.Worlds.{World, altered, changed, hear_named, option_list, packets_for, run, take_named, took, world}
pub use Rattle.upload_model.specs.declared.events.Event.{Event}
pub use Rattle.upload_model.specs.declared.events.Phase.{Phase}
pub use Rattle.upload_model.specs.declared.events.Phase.TheVariants.{Loading, Reading, Starting}
pub use Rattle.upload_model.specs.declared.events.Progress.{Progress}
pub use Rattle.upload_model.specs.declared.events.Progress.TheVariants.{Differs, Done, GaveUp, Going, Refused}
pub use Rattle.upload_model.specs.declared.events.Reply.{Reply}
pub use Rattle.upload_model.specs.declared.events.Reply.TheVariants.{Ends, Good, Silent}
pub use Rattle.upload_model.specs.declared.events.Sent.{Sent}
pub use Rattle.upload_model.specs.declared.events.WorldEvent.{WorldEvent}
pub use Rattle.upload_model.specs.declared.events.WorldEvent.TheVariants.{Alter, Hear, Take, Tick}
