-- What the proofs of this crate cite from elsewhere, passed on from one place. Declares nothing.
pub use Rattle.std.proofs.Common.{Bool, Err, List, None, Ok, Option, Result, Some, [], ap, arith, codes, cond, drop, false, filter, get_or, inl, inr, length, ltb, map, refl, replicate, set, subst, suc, sym, take, true, zero, ℕ, ◌*◌, ◌++◌, ◌+◌, ◌-◌, ◌<◌, ◌==◌, ◌∙◌, ◌∷◌, ◌≡◌, ◌≢◌, ◌≤◌, ◌⊎◌}
pub use Rattle.std.proofs.lemmas.Bool.{and_from, and_left, and_parts, and_right, cases_eq, cond-false, cond-true, eq-eqb, le-leb, le-ltb, leb-true, lt-ltb, ne_eqb}
pub use Rattle.std.proofs.lemmas.Grind.{common_steps}
pub use Rattle.std.proofs.lemmas.List.{append-nil, append_assoc, drop-append-le, get_or-map, get_or-set_other, get_or-set_same, get_or-take, length-append, length-drop, length-map, length-set, length-take, map-append, map-set, set-get_or, take-append-le, take_all, take_more, take_more_set, with_items_is}
pub use Rattle.std.proofs.lemmas.List.Elements.{All-append, All-cons, All-head, All-nil, All-push, All-tail, All-weaker, filter-append}
pub use Rattle.std.proofs.lemmas.Option.{slice_get_past, slice_get_read}
pub use Rattle.std.specs.Prelude.{All, IfOk, OnOk, min, nat_le, nat_lt, option_map, slice_get, slice_range, slice_set, vec_capacity, vec_len}
pub use Rattle.std.specs.Vec.{with_items}
pub use Rattle.firmware_memory.specs.Shown.{shown}
pub use Rattle.text_lines.specs.Lines.{is_line_feed, lines_of}
pub use Rattle.text_lines.specs.Words.{Line, line_with, numbered, words_of}
pub use Rattle.text_lines.specs.declared.token.Comments.TheVariants.{Absent}
pub use Rattle.upload_core.specs.HostState.{HostState, IsPacketOf, view_of}
pub use Rattle.upload_model.specs.Drones.{DroneState, handled}
pub use Rattle.upload_model.specs.Hosts.{flight, out, progress}
pub use Rattle.upload_model.specs.Sessions.{IsSession, Upload, drone_count, packet_at, packet_count}
unfoldable pub use Rattle.upload_model.specs.Worlds.{happens, host_event, start_world}
pub use Rattle.upload_model.specs.Worlds.{altered, changed, hear_named, option_list, packets_for, take_named, took}
pub use Rattle.upload_model.specs.declared.events.Progress.TheVariants.{Going}
pub use Rattle.upload_model.specs.declared.events.Sent.{Sent}
pub use Rattle.upload_model.specs.declared.events.WorldEvent.{WorldEvent}
pub use Rattle.upload_model.specs.declared.events.WorldEvent.TheVariants.{Alter, Hear, Take, Tick}
pub use Rattle.fleet_world.specs.Schedules.{ScheduleLaw, counted_from_0, event_of, event_with, events_by, events_of, number_of, place_from, put_event, schedule_of}
pub use Rattle.fleet_world.specs.Steps.{AreEnds, begin_of, cut, prepended}
pub use Rattle.fleet_world.specs.Traffics.{AreNumbersOf, HasRoom, given_of, numbers_for, packets_at, row_of, sent_of}
pub use Rattle.fleet_world.specs.WorldState.{WorldStandsAt, WorldState, state_at, state_of}
pub use Rattle.fleet_world.specs.declared.traffic.Traffic.{Traffic}
