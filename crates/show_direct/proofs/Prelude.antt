-- What the proofs of this crate cite from elsewhere, passed on from one place. Declares nothing.
pub use Rattle.std.proofs.Common.{Bool, Contains, Err, List, None, Ok, Option, Result, Some, [], ap, append-nil, append_assoc, arith, cond, drop, false, get_or, inl, inr, length, length-append, map, max, min, nat_lt, not, refl, subst, suc, sym, true, w16, zero, ℕ, ◌%◌, ◌*◌, ◌++◌, ◌+◌, ◌/◌, ◌<◌, ◌==◌, ◌||◌, ◌∙◌, ◌∷◌, ◌≡◌, ◌≢◌, ◌≤◌, ◌⊎◌}
pub use Rattle.std.proofs.lemmas.List.{append_cancel_left, append_cancel_right, length-map}
pub use Rattle.std.proofs.lemmas.List.Elements.{All-cons, All-contains, All-head, All-nil, All-tail, All-weaker}
pub use Rattle.std.proofs.lemmas.List.Sums.{sum_by-cons}
pub use Rattle.std.specs.Io.KnownBytes.{Appends}
pub use Rattle.std.specs.List.{flat_map, join_with_byte, range_with_len, sum}
pub use Rattle.std.specs.Option.{option_map, option_or}
pub use Rattle.std.specs.Prelude.{All, IfSome, IsTrue, bytes_eq, codes, nat_le, negsuc, pos, ℤ}
pub use Rattle.choreo_reader.specs.Laws.{ShowLaw}
pub use Rattle.choreo_show.specs.Name.{Name}
pub use Rattle.choreo_show.specs.Plain.{PlainShow}
pub use Rattle.choreo_show.specs.declared.show.DroneLine.{DroneLine}
pub use Rattle.cue_grid.specs.Cues.{grid_of}
pub use Rattle.cue_grid.specs.Grids.{FitCues, IsGrid}
pub use Rattle.byte_streams.proofs.ToldLemmas.{IsInput-now, Went-trans, back, comes, comes_before, consumed, of_source, takes_at_most, takes_front}
pub use Rattle.byte_streams.specs.Causes.{Rose}
pub use Rattle.byte_streams.specs.Held.{Asked, Held, buffer_bytes, has_whole_marker, stream, without_last}
pub use Rattle.byte_streams.specs.Parts.{MarkerLaw, TakesFewAfter, TakesPart, TookMarked}
pub use Rattle.byte_streams.specs.Taken.{AppendsFront, TakesFront}
pub use Rattle.byte_streams.specs.Told.{Gives, MayGive, Told, Took, Went, to_come}
pub use Rattle.whole_numbers.specs.Limits.{most_text}
pub use Rattle.flight_link.specs.Flights.{FlightGives, FlightLinkLaw, dialogue_of}
unfoldable pub use Rattle.flight_link.specs.Sends.{ended, sent_over}
pub use Rattle.flight_link.specs.Sends.{end_in}
pub use Rattle.flight_model.specs.Directors.{drones, most_ms, sent, start}
pub use Rattle.flight_model.specs.Kept.{HasShow, KeptLaw}
unfoldable pub use Rattle.flight_model.specs.Legs.{steps_of}
pub use Rattle.flight_model.specs.Legs.{Routes, after_segment, arm_step, down_step, first_move, last_move, last_step, lasts, leg_count, legs_of, start_step, up_step, way_begins, way_ends}
pub use Rattle.flight_model.specs.declared.flights.Flight.{Flight}
pub use Rattle.flight_steps.proofs.Judged.{fault-of, flight-of}
pub use Rattle.flight_steps.specs.Faults.{StepsGive, down_fault, downs_fault, first_other, flight_fault, gap, is_straight, narrow, other_drone, other_ellipsoid, restless, restless_from, rests_in, route_fault, same_ellipsoid, same_place, seam_fault, seams_fault, size_fault, up_fault, ups_fault, way_fault}
pub use Rattle.flight_steps.specs.Ways.{AreFitted, routes}
pub use Rattle.flight_steps.specs.declared.faults.FlightFault.{FlightFault}
pub use Rattle.flight_steps.specs.declared.faults.StepsError.{StepsError}
pub use Rattle.flight_steps.specs.declared.ways.Crew.{Crew}
pub use Rattle.flight_steps.specs.declared.ways.Crews.{Crews}
pub use Rattle.flight_steps.specs.declared.ways.Ellipsoid.{Ellipsoid}
pub use Rattle.flight_steps.specs.declared.ways.Ways.{Ways}
pub use Rattle.link_dialogue.specs.Dialogues.{EndsWith, RunGives, item_limit}
pub use Rattle.link_frames.specs.Frames.{end_byte, end_frame}
pub use Rattle.refusals.specs.declared.refusal.Refusal.{Refusal}
pub use Rattle.show_judge.proofs.AnswerLemmas.{accepted_outcome, refused_outcome, refused_some}
pub use Rattle.show_judge.proofs.HeadlineLemmas.{behaves_of, flies_text}
pub use Rattle.show_judge.proofs.VerbLemmas.{outcomes}
pub use Rattle.show_judge.specs.Answers.{IsAccepted, IsRefusedBy, Wrote}
pub use Rattle.show_judge.specs.Outcome.{IsOutcomeOf, IsSafe, IsVerb, OutcomeLaw, ShowGives, said}
pub use Rattle.show_judge.specs.Refused.{IsOfInput, faulty, no_plan, show_refusal, text_refusal}
pub use Rattle.show_judge.specs.Shows.{Cut, cut_of, names_of, sent_of, trajectories_of}
pub use Rattle.show_judge.specs.Verb.{IsJudged, IsSafeShow, Outcome, Run, Span, during, outcome, run_of}
pub use Rattle.show_judge.specs.declared.judging.Accepted.{Accepted}
pub use Rattle.show_plan.proofs.Flight.{by_cue_counted, flight_lasts}
pub use Rattle.show_plan.specs.Fitting.{IsFitted, IsFlown, IsValidFitted, in_order}
unfoldable pub use Rattle.text_lines.specs.Marker.{rest_of}
pub use Rattle.text_lines.specs.Marker.{has_marker, is_marker, lines_after, part_of}
pub use Rattle.traj_codec.specs.Joined.{JoinLaw, joined}
pub use Rattle.traj_codec.specs.Positions.{durations}
pub use Rattle.traj_codec.specs.declared.traj.Segment.{Segment}
pub use Rattle.traj_codec.specs.declared.traj.Traj.{Traj}
pub use Rattle.show_direct.specs.Direct.{DirectLaw, FliesWhole, FlyAsOne, HasBegun, direct_verb, down_exchange, exchange_by, flight_exchange, show_exchange, up_exchange}
pub use Rattle.show_direct.specs.Exchanges.{Accepts, Exchange, IsExchange, TextStops, text_exchange, text_verb, text_ways}
pub use Rattle.show_direct.specs.Flights.{AreFlight, course_of, ellipsoid_in, ellipsoid_of, fault_of, flight_of, most_silence, order_ms, room_in, room_mm, routes_of}
pub use Rattle.show_direct.specs.Frames.{FaultFrameLaw, IsNamed, fault_frame, fault_in, no_flight_byte, no_flight_bytes}
pub use Rattle.show_direct.specs.Steps.{AreMarked, Carries, FlightMade, FlightRead, IsCut, IsRead, IsUnread, JudgeGives, LeadsTo, ReadGives, StepsMade, coming, direct_statuses, left_of, since, unflown_by}
pub use Rattle.command_words.specs.declared.flight.FlightOptions.{FlightOptions}
pub use Rattle.show_direct.specs.declared.reading.Unflown.{Unflown}
