-- What the proofs of this crate cite from elsewhere, passed on from one place. Declares nothing.
pub use Rattle.std.proofs.Common.{All, Bool, Err, FitsSigned, IfOk, IsOk, List, None, Ok, OnOk, Option, Result, Some, [], ap, append-nil, append_assoc, arith, codes, cond, decimal, drop, eqb, false, get_or, inl, inr, length, length-append, map, pos, refl, rules, subst, suc, sum, sym, take, true, zero, ℕ, ◌*ℤ◌, ◌*◌, ◌++◌, ◌+◌, ◌-◌, ◌<◌, ◌↔◌, ◌∙◌, ◌∷◌, ◌≡◌, ◌≤◌, ◌⊎◌}
pub use Rattle.std.proofs.lemmas.Grind.{common_steps}
pub use Rattle.std.proofs.lemmas.List.{drop_all, drop_more, flat_map_more, get_or-map, get_or_default, length-map, take_all, take_more}
pub use Rattle.std.proofs.lemmas.List.Elements.{All-append, All-cons, All-from_get_or, All-get_or, All-head, All-nil, All-push, All-tail}
pub use Rattle.std.specs.List.{flat_map, list_all, range_with_len}
pub use Rattle.std.specs.Option.{option_and_then, option_map, option_or}
pub use Rattle.std.specs.Prelude.{MatchOption, if◌then◌else◌, nat_le, nat_lt, not, ℤ, ◌%◌, ◌&&◌, ◌/◌, ◌==◌, ◌^◌, ◌||◌}
pub use Rattle.choreo_show.specs.Name.{Name, begins_lower, goes_in_name, is_name}
pub use Rattle.choreo_show.specs.Plain.{PlainShow, plain}
pub use Rattle.choreo_show.specs.Valid.{FitDroneLines, FitsSettings}
pub use Rattle.choreo_show.specs.declared.parts.Point.{Point}
pub use Rattle.choreo_show.specs.declared.show.DroneLine.{DroneLine}
pub use Rattle.choreo_show.specs.declared.show.Settings.{Settings}
pub use Rattle.cue_grid.specs.Cues.{grid_of}
pub use Rattle.cue_grid.specs.Faults.{grid_fault}
pub use Rattle.cue_grid.specs.Frames.{IsPointUpTo}
pub use Rattle.cue_grid.specs.Grids.{FitCues, IsGrid}
pub use Rattle.cue_grid.specs.declared.grid.Cue.{Cue}
pub use Rattle.cue_grid.specs.declared.grid.Grid.{Grid}
pub use Rattle.figure_expand.specs.Acts.{act_of, on_axis}
pub use Rattle.figure_expand.specs.Bounds.{reach}
pub use Rattle.figure_expand.specs.Controls.{axes_of, piece_of}
unfoldable pub use Rattle.figure_expand.specs.Expanded.{expanded}
pub use Rattle.figure_expand.specs.Expanded.{expanded_from, job_in, no_job, pieces_from, range_fault}
pub use Rattle.figure_expand.specs.Flown.{FitsWell, RoundsWell, StartsWell, job_at, jobs_in, piece_at, point_before, start_of, written_at}
pub use Rattle.figure_expand.specs.Written.{end_of, point_after}
pub use Rattle.firmware_memory.specs.Decoded.{Carries, CurveLaw, load_for}
pub use Rattle.fleet_curves.specs.Raised.{CurvesStandFor, Raised, difference, raised_of}
pub use Rattle.byte_streams.specs.Words.{IsWord, hex_digit, hex_word, line}
pub use Rattle.mm_rounding.specs.Rounding.{axis_on, controls, counted, element_of, first_control, fits, is_short, millimetres, rounded, rounding, segment_of, short}
pub use Rattle.mm_rounding.specs.declared.piece.MicroPiece.{MicroPiece}
pub use Rattle.pair_search.specs.Laws.{IsFirstBlocked, SearchLaw}
pub use Rattle.pair_search.specs.Search.{best_tree, blocked_place, split_of}
pub use Rattle.sep_parts.specs.Apart.{KeepReach, KeepsApart, SentLaw}
pub use Rattle.sep_parts.specs.Directions.{IsClearance}
unfoldable pub use Rattle.sep_parts.specs.Versions.{table_of}
pub use Rattle.sep_parts.specs.declared.clearance.Clearance.{Clearance}
pub use Rattle.sep_parts.specs.declared.slot.Slot.{Slot}
pub use Rattle.speed_bound.specs.Reach.{IsMoving, ReachLaw, reach_of}
pub use Rattle.traj_codec.proofs.JoinedLemmas.{durations_of, join_holds_law, lasting_of}
pub use Rattle.traj_codec.specs.Joined.{IsLasting, JoinLaw, SameCurve, joined, own}
pub use Rattle.traj_codec.specs.Positions.{decoded, durations, element_on, piece_on, value_after}
pub use Rattle.traj_codec.specs.Spelling.{HasDuration, IsEncoding, IsSegment, IsTrajectory, SpellingLaw, ending, spelling, stored}
pub use Rattle.traj_codec.specs.declared.traj.Segment.{Segment}
pub use Rattle.traj_codec.specs.declared.traj.Traj.{Traj}
pub use Rattle.upload_model.proofs.Taking.{accepted_later}
unfoldable pub use Rattle.upload_model.specs.Sessions.{packet_at, packet_count, read_count, write_count}
pub use Rattle.upload_model.specs.Sessions.{IsLoad, IsSession, Upload, drone_count, is_read, load_of, read_start, start_number}
pub use Rattle.upload_model.specs.Taking.{IsAccepted, IsTaken, TakingLaw, taken}
pub use Rattle.upload_model.specs.Theorem.{IsCase, IsSafe, LastingLaw, StaysSentLaw, UnstartedLaw, UploadLaw}
pub use Rattle.upload_model.specs.Worlds.{world}
pub use Rattle.upload_model.specs.declared.loads.Load.{Load}
pub use Rattle.show_plan.specs.Fitting.{FitGives, IsFitted, IsFlown, IsSendable, IsValidFitted, StandsAsWord, first_unsendable, in_order, plan_fault, room, send_fault, size, unsendable}
pub use Rattle.show_plan.specs.Flight.{AtEachInstant, FliesNear, FliesNearOn, KeepsNearShow, no_trajectory, written}
pub use Rattle.show_plan.specs.Landing.{AreUploadable, IsLanded, LandingLaw, OrderLaw, session_for}
unfoldable pub use Rattle.show_plan.specs.Separation.{clearance_of, measure_of}
pub use Rattle.show_plan.specs.Separation.{CountGives, FailsBy, FlyApart, IsShowClear, IsSlotClear, best_certificate, best_nodes, blocked_at, blocked_in, blocked_part, direction_at, reach_depth, searched, slots_of}
pub use Rattle.show_plan.specs.Steps.{FindsNodes, FindsTrees, FitsDrone, blocked_slot, flight, separation_fault}
unfoldable pub use Rattle.show_plan.specs.Texts.{plan_text}
pub use Rattle.show_plan.specs.Texts.{IsPlan, PlanLaw, drone_line, drone_part, drone_parts, packet_line, packet_lines, packet_word}
pub use Rattle.show_plan.specs.Trajectories.{by_cue, cue_times, sent, start_at, trajectories_of, trajectory_of}
pub use Rattle.show_plan.specs.declared.fitted.FitError.{FitError}
pub use Rattle.show_plan.specs.declared.fitted.Fitted.{Fitted}
pub use Rattle.show_plan.specs.declared.fitted.PlanFault.{PlanFault}
pub use Rattle.show_plan.specs.declared.separation.BlockedPart.{BlockedPart}
