-- What the proofs of this crate cite from elsewhere, passed on from one place. Declares nothing.
pub use Rattle.std.proofs.Common.{Bool, Err, List, None, Ok, Option, Result, Some, [], ap, arith, cond, drop, eqb, false, filter, get_or, inl, inr, leb, length, ltb, map, not, refl, rules, set, subst, suc, sym, take, true, w64, zero, ℕ, ◌%◌, ◌&&◌, ◌*◌, ◌++◌, ◌+◌, ◌-◌, ◌<◌, ◌==◌, ◌^◌, ◌||◌, ◌∙◌, ◌∷◌, ◌≡◌, ◌≢◌, ◌≤◌, ◌⊎◌}
pub use Rattle.std.proofs.lemmas.Bool.{and_from, and_left, and_parts, and_right, cases_Bool, cases_eq, cases_lt, eq-eqb, eqb-false, eqb-true, false_from_ne_true, false≢true, le-ltb, leb-true, lt-ltb, ltb-true, ne_eqb, not-true, or_left, or_parts, or_right}
pub use Rattle.std.proofs.lemmas.Grind.{common_steps, flat_map-append}
pub use Rattle.std.proofs.lemmas.List.{append-nil, append_assoc, get_or-set_other, get_or-set_same, length-append, length-map, length-set, map-append, take_all, take_at, take_more, with_items_is}
pub use Rattle.std.proofs.lemmas.List.Elements.{All-append, All-cons, All-filter, All-from_get_or, All-head, All-map, All-nil, All-set, All-tail, All-weaker, filter-append, filter_agree}
pub use Rattle.std.proofs.lemmas.List.Folds.{find-append, list_any-append}
pub use Rattle.std.specs.List.{flat_map, list_all, list_any, range_with_len}
pub use Rattle.std.specs.Option.{option_copied, option_or}
pub use Rattle.std.specs.Prelude.{All, bit_or, find, nat_lt, slice_get}
pub use Rattle.std.specs.Vec.{with_items}
pub use Rattle.crtp_packets.specs.Reading.{up_of}
pub use Rattle.crtp_packets.specs.declared.reading.PacketFault.{PacketFault}
pub use Rattle.upload_model.proofs.Answers.{reply-by, reply-of_read, reply-plain}
pub use Rattle.upload_model.proofs.HostLaws.{All-flat_map_range, All-range, IsFlight, Settled-from, acked-done, acked-more, acked-nil, acked-push, all_packets-each, allowed-few, flight-fits, if_going-fits, list_all-range}
pub use Rattle.upload_model.proofs.HostSteps.{Agree, acked-tick, all_settled-agree, filter-range-agree, flat_map-range-agree, flight-tick, flight_after-agree, list_all-range-agree, phase-inside, phase_of-agree, progress-next, progress-nil, progress-stays, progress-tick, range-more, ticks-nil, ticks-push}
pub use Rattle.upload_model.proofs.OneRead.{length-wanted, wanted-at}
pub use Rattle.upload_model.proofs.Readings.{Kind, a_define, a_read, a_start, a_write, count-loads, is_read-at, packet_at-define, packet_at-start, packet_kind}
unfoldable pub use Rattle.upload_model.specs.Hosts.{acknowledges, all_packets, all_settled, flight_at, flight_in, out, phase_of}
pub use Rattle.upload_model.specs.Hosts.{Packets, acked, allowed, counts, ended_by, ended_for, ends_for, flight, flight_after, gave_up, if_going, includes, is_tick, joined, progress, sent_at, sent_to, ticks}
unfoldable pub use Rattle.upload_model.specs.Replies.{reply_in, reply_to}
pub use Rattle.upload_model.specs.Replies.{end_of, is_end, is_good, read_reply, status_reply}
unfoldable pub use Rattle.upload_model.specs.Sessions.{packet_count}
pub use Rattle.upload_model.specs.Sessions.{IsSession, Upload, count_of, drone_count, first_of, is_read, load_count, packet_at, read_address, read_count, start_number, wanted, write_count}
pub use Rattle.upload_model.specs.declared.events.Event.{Event}
pub use Rattle.upload_model.specs.declared.events.Phase.{Phase}
pub use Rattle.upload_model.specs.declared.events.Phase.TheVariants.{Loading, Reading, Starting}
pub use Rattle.upload_model.specs.declared.events.Progress.{Progress}
pub use Rattle.upload_model.specs.declared.events.Progress.TheVariants.{Done, Going}
pub use Rattle.upload_model.specs.declared.events.Reply.{Reply}
pub use Rattle.upload_model.specs.declared.events.Reply.TheVariants.{Ends, Good, Silent}
pub use Rattle.upload_model.specs.declared.events.Sent.{Sent}
pub use Rattle.upload_core.specs.HostStandsFor.{HostStandsFor}
pub use Rattle.upload_core.specs.HostState.{HostState, HostView, IsPacketOf, view_of}
pub use Rattle.upload_core.specs.Rows.{IsWord, among, bit, count_in, counted, cursor_of, first_open, is_marked, is_past, marked, packets_in, row_at, window_at}
pub use Rattle.upload_core.specs.Steps.{Hears, IsBegun, IsBetween, IsFor, IsLow, IsReady, IsRow, IsStarting, RowStands, RowsStand, fresh, in_windows, older, older_row, tired_in}
pub use Rattle.upload_core.specs.declared.row.InFlight.{InFlight}
pub use Rattle.upload_core.specs.declared.row.Row.{Row}
