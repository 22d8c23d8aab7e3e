-- What the proofs of this crate cite from elsewhere, passed on from one place. Declares nothing.
pub use Rattle.std.proofs.Common.{All, Bool, List, None, Option, Some, [], ap, append-nil, arith, codes, drop, eqb, false, fold, get_or, inl, inr, leb, length, length-append, map, min, nat_le, neg_ℤ, negsuc, not, pos, refl, replicate, slice_get, slice_index, slice_index_or, subst, suc, sum, sym, take, true, zero, ℕ, ℤ, ◌&&◌, ◌*ℤ◌, ◌*◌, ◌++◌, ◌+ℤ◌, ◌+◌, ◌-ℤ◌, ◌-◌, ◌<ℤ◌, ◌<◌, ◌^◌, ◌||◌, ◌∙◌, ◌∷◌, ◌≡◌, ◌≢◌, ◌≤ℤ◌, ◌≤◌, ◌⊎◌}
pub use Rattle.std.proofs.lemmas.Bool.{and_parts, eq-eqb, eqb-true, le-leb, not-true}
pub use Rattle.std.proofs.lemmas.Grind.{common_steps}
pub use Rattle.std.proofs.lemmas.Int.{by_lt_z, ints}
pub use Rattle.std.proofs.lemmas.List.{append_assoc, length-map, length-replicate}
pub use Rattle.std.proofs.lemmas.List.Elements.{All-cons, All-head, All-nil, All-tail}
unfoldable pub use Rattle.std.specs.Fmt.{digits}
pub use Rattle.std.specs.List.{flat_map, list_any}
pub use Rattle.std.specs.Prelude.{Contains, MatchOption, String, string_bytes}
unfoldable pub use Rattle.bezier_core.specs.Part.{polar}
unfoldable pub use Rattle.bezier_core.specs.Raised.{raised_value}
unfoldable pub use Rattle.choreo_lines.specs.Fields.{act_in, act_line, names_in, row_line, values_in}
pub use Rattle.choreo_lines.specs.declared.table.Form.TheVariants.{Units, Whole}
pub use Rattle.choreo_reader.specs.Context.{fault}
pub use Rattle.choreo_reader.specs.Grammar.{IsItem, Item, StandsFor, header_of}
pub use Rattle.choreo_reader.specs.Grammar.Item.{Blocks, Drone, Figured, Formed, Late, Memory, Stray, Trajectory}
pub use Rattle.choreo_reader.specs.Laws.{ShowLaw}
pub use Rattle.choreo_reader.specs.Text.{Fault, fault_at, show_lines}
pub use Rattle.choreo_show.specs.Plain.{PlainShow}
pub use Rattle.choreo_show.specs.Valid.{AreNames, FitsBody, FitsDuration, FitsFigure, FitsPoint, FitsSettings, FitsTimes}
pub use Rattle.choreo_show.specs.declared.show.DroneLine.{DroneLine}
pub use Rattle.choreo_show.specs.declared.show.Settings.{Settings}
pub use Rattle.cue_grid.specs.Cues.{grid_of}
pub use Rattle.cue_grid.specs.Grids.{IsGrid}
unfoldable pub use Rattle.dynamics_bound.specs.Accelerations.{acceleration, acceleration_of, segment_acceleration, widest_bend, widest_bend_part}
unfoldable pub use Rattle.dynamics_bound.specs.Edges.{jump, jump_between}
pub use Rattle.figure_expand.specs.Acts.{arc_points, eased_point, eased_points, handle, millionths, shares}
unfoldable pub use Rattle.figure_expand.specs.Expanded.{expanded}
pub use Rattle.firmware_memory.specs.Decoded.{Carries, DecodesTo, last_value}
unfoldable pub use Rattle.fleet_curves.specs.Raised.{difference, raised_of}
pub use Rattle.fleet_curves.specs.Raised.{AreOneShow, CurvesStandFor, curves_at}
pub use Rattle.flight_model.proofs.Beginning.{fit-true, implied}
pub use Rattle.flight_model.proofs.Kept.{kept_law, sent-append}
pub use Rattle.flight_model.specs.Directors.{State, after, all_answered, all_fit, are_aloft, is_off, is_off_hold, is_outside, is_silent, next_step, sent, start}
pub use Rattle.flight_model.specs.Example.{down_at, routes, show_at, up_at}
pub use Rattle.flight_model.specs.Kept.{HasShow, IsHeard, IsKeptShow, time}
pub use Rattle.flight_model.specs.Law.{AllQuiet, IsFit, IsQuiet, orders_to}
pub use Rattle.flight_model.specs.Legs.{IsFlight, IsWay, IsWayDown, IsWayUp, goes_down, goes_up, leg, legs_of, moves, way_begins, way_ends}
pub use Rattle.flight_model.specs.declared.events.Event.{Event}
pub use Rattle.flight_model.specs.declared.events.Event.TheVariants.{Answered, Clock, Said, Seen}
pub use Rattle.flight_model.specs.declared.events.Frame.TheVariants.{Over, ToAll}
pub use Rattle.flight_model.specs.declared.events.Sample.{Sample}
pub use Rattle.link_dialogue.specs.Dialogues.{BeginsNone, DialogueGives, StopsAtEnd, Takes, items_bytes}
unfoldable pub use Rattle.pair_search.specs.Search.{blocked_place, first_direction}
pub use Rattle.pair_search.specs.Search.{IsClear}
pub use Rattle.sep_parts.specs.Apart.{AreTogether, KeepReach, MovesWithin}
unfoldable pub use Rattle.sep_parts.specs.Directions.{root_above}
pub use Rattle.sep_parts.specs.Directions.{AreSmall, direction_of}
pub use Rattle.sep_parts.specs.Levels.{left_half, right_half, root}
unfoldable pub use Rattle.sep_parts.specs.Separates.{first_low}
pub use Rattle.sep_parts.specs.Separates.{Separates}
unfoldable pub use Rattle.sep_parts.specs.Slots.{slots}
pub use Rattle.show_judge.specs.Shows.{Cut, cut_of, names_of, sent_of, trajectories_of}
pub use Rattle.show_looks.specs.Compile.{Headline}
pub use Rattle.show_plan.proofs.Flight.{keeps_near_show}
pub use Rattle.show_plan.specs.Fitting.{IsSendable, size}
pub use Rattle.show_plan.specs.Landing.{AreUploadable, session_for}
unfoldable pub use Rattle.show_plan.specs.Separation.{measure_of}
pub use Rattle.show_plan.specs.Separation.{FlyApart}
unfoldable pub use Rattle.show_plan.specs.Texts.{plan_text}
pub use Rattle.show_plan.specs.Texts.{IsPlan, PlanLaw}
pub use Rattle.show_plan.specs.Uploading.{FlyTheirOwn, Uploads, UploadsLaw}
pub use Rattle.show_studies.specs.Explained.{BlockedLines, Explains, TellsTouches, blocked_of}
pub use Rattle.speed_bound.proofs.Reaches.{formed_of, moves_reach}
pub use Rattle.speed_bound.proofs.Rests.{keeps_speed, pieces_formed}
unfoldable pub use Rattle.speed_bound.specs.Reach.{reach, reach_of}
pub use Rattle.speed_bound.specs.Reach.{IsMoving, ReachLaw}
unfoldable pub use Rattle.speed_bound.specs.Speed.{segment_speed, speed, speed_of, widest_part, widest_step}
unfoldable pub use Rattle.text_lines.specs.Marker.{part_of, rest_of}
pub use Rattle.text_lines.specs.Words.{Line}
pub use Rattle.touch_witness.specs.Sites.{AreDisjoint, DisjointAt, IsBefore, IsClosest, IsClosestIn, IsFirstTouch, IsListed, LeftAbove, LeftFrom, NoTouch, SharePoint, instant_of, left_of, listed}
unfoldable pub use Rattle.traj_codec.specs.Joined.{joined_from}
pub use Rattle.traj_codec.specs.Joined.{FromTheLeft, GroupLaw, IsGroup, hold, is_hold, one_of, own}
pub use Rattle.traj_codec.specs.Positions.{durations, element_on, piece_on, pieces_on, value_after}
pub use Rattle.traj_codec.specs.Spelling.{HasDuration, IsTrajectory, spelling}
pub use Rattle.traj_codec.specs.declared.traj.Segment.{Segment}
pub use Rattle.traj_codec.specs.declared.traj.Traj.{Traj}
unfoldable pub use Rattle.upload_model.specs.Drones.{handled}
pub use Rattle.upload_model.specs.Drones.{DroneState}
unfoldable pub use Rattle.upload_model.specs.Hosts.{acked, acked_from, acknowledges, all_packets, all_settled, ending, flight_at, flight_in, out, phase_of, progress, progress_within, ticks}
pub use Rattle.upload_model.specs.Memories.{IsDrone}
pub use Rattle.upload_model.specs.Readback.{WasRight, is_right}
unfoldable pub use Rattle.upload_model.specs.Replies.{reply_in, reply_to}
unfoldable pub use Rattle.upload_model.specs.Sessions.{packet_at, packet_count, part_count, read_count, write_count}
pub use Rattle.upload_model.specs.Sessions.{is_read}
pub use Rattle.upload_model.specs.Taking.{AcceptsLoad, IsAccepted}
pub use Rattle.upload_model.specs.Theorem.{IsUnaltered, TakesStart}
unfoldable pub use Rattle.upload_model.specs.Worlds.{happens, host_event, start_world}
pub use Rattle.upload_model.specs.Worlds.{world}
pub use Rattle.upload_model.specs.declared.events.WorldEvent.{WorldEvent}
pub use Rattle.upload_model.specs.declared.events.WorldEvent.TheVariants.{Alter, Hear, Take, Tick}
pub use Rattle.upload_model.specs.declared.loads.Def.{Def}
pub use Rattle.whole_numbers.proofs.BernsteinLemmas.{bernstein-mix, bernstein-same, bernstein-suc, bernstein-zero}
pub use Rattle.whole_numbers.proofs.RingLemmas.{le_mul_ℤ, linear, mul_assoc_ℤ, mul_comm_ℤ, mul_not_negative, mul_zero_ℤ, one_mul_ℤ, ring, zero_mul_ℤ}
unfoldable pub use Rattle.whole_numbers.specs.Bernstein.{bernstein}
pub use Rattle.whole_numbers.specs.Bernstein.{at, bern}
unfoldable pub use Rattle.whole_numbers.specs.Decoded.{decoded}
pub use Rattle.whole_numbers.specs.Decoded.{IsPiece}
unfoldable pub use Rattle.whole_numbers.specs.Moments.{moment}
pub use Rattle.whole_numbers.specs.Moments.{Moment, moment_from, time_before}
pub use Rattle.whole_numbers.specs.Sums.{power}
pub use Rattle.definition_tests.specs.Apart.{ApartRows, LateRows, MarginRows, StrayRows, TouchRows, behind, beside}
pub use Rattle.definition_tests.specs.Carried.{CarriesRows, loaded_with}
pub use Rattle.definition_tests.specs.FlightRejected.{DownRows, KeptRows, NearRows, RejectedLaw, SureRows, at_origin, begun, brief, flown_by, flown_unsure, heard_at, late_news, on_its_pad, sample_at, standing, turning, unhurried}
pub use Rattle.definition_tests.specs.Flights.{flight}
pub use Rattle.definition_tests.specs.Headlines.{HeadlineRows, WrittenRows, aside_plan, second_byte, second_entry, stay, stay_plan, stay_text, staying}
pub use Rattle.definition_tests.specs.Meetings.{ExplainRows, MeetRows, close, level_at, meeting, only_slot, site, solo, solo_text, two_apart}
pub use Rattle.definition_tests.specs.Near.{ShowRows, begins_at, half_off, spot}
pub use Rattle.definition_tests.specs.Places.{place}
pub use Rattle.definition_tests.specs.Radius.{KeepsRadius, RoundsTable, arc_shares, circle, exact_point, exact_points, square, square_distance}
pub use Rattle.definition_tests.specs.Small.{SmallRows, over}
pub use Rattle.definition_tests.specs.Stands.{StandsRows, line_of, nobody}
pub use Rattle.definition_tests.specs.Stored.{LandedRows, UploadRows, no_time, settings}
pub use Rattle.definition_tests.specs.Wholes.{FlyAsOneRows, no_text}
