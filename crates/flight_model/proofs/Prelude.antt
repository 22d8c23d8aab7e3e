-- What the proofs of this crate cite from elsewhere, passed on from one place. Declares nothing.
pub use Rattle.std.proofs.Common.{Bool, List, None, Option, Some, [], ap, arith, cond, drop, eqb, false, inl, inr, leb, length, ltb, min, not, refl, subst, suc, sym, take, true, zero, ℕ, ◌&&◌, ◌++◌, ◌+◌, ◌-◌, ◌<◌, ◌||◌, ◌∙◌, ◌∷◌, ◌≡◌, ◌≢◌, ◌≤◌, ◌⊎◌}
pub use Rattle.std.proofs.Math.Bool.{and-false, and_assoc}
pub use Rattle.std.proofs.lemmas.Bool.{and_parts, eq-eqb, eqb-false, eqb-true, le-leb, le-ltb, leb-false, leb-true, lt-leb, lt-ltb, ltb-false, ltb-true, ne_eqb, not-true}
pub use Rattle.std.proofs.lemmas.Grind.{common_steps, flat_map-append}
pub use Rattle.std.proofs.lemmas.Int.{ints}
pub use Rattle.std.proofs.lemmas.List.{append-nil, append_assoc, length-map, length-set, take_all}
pub use Rattle.std.proofs.lemmas.List.Elements.{All-append, All-cons, All-contains, All-head, All-nil, All-tail, Contains-append_cases, Contains-append_left, Contains-append_right, Contains-push}
pub use Rattle.std.proofs.lemmas.Option.{slice_get_within}
pub use Rattle.std.specs.List.{flat_map, list_all, list_any, range_with_len}
pub use Rattle.std.specs.Option.{option_map}
pub use Rattle.std.specs.Prelude.{All, Contains, int_le, int_lt, map, pos, replicate, slice_get, slice_set, ℤ, ◌*ℤ◌, ◌+ℤ◌, ◌-ℤ◌, ◌≤ℤ◌}
unfoldable pub use Rattle.whole_numbers.specs.Bernstein.{bernstein}
pub use Rattle.whole_numbers.specs.Bernstein.{at, bern}
pub use Rattle.traj_codec.specs.Positions.{element_on, piece_on}
pub use Rattle.traj_codec.specs.Spelling.{stored}
pub use Rattle.traj_codec.specs.declared.traj.Segment.{Segment}
pub use Rattle.traj_codec.specs.declared.traj.Traj.{Traj}
pub use Rattle.flight_model.specs.Alarms.{AlarmLaw, Alarms, HasLasted, IsToLand, note_of}
unfoldable pub use Rattle.flight_model.specs.Directors.{choice, is_due, is_fault, may_land, notes, says, tracks_after}
pub use Rattle.flight_model.specs.Directors.{Begin, Choice, Cut, Descend, Ended, Finish, Halted, Landing, Off, Phase, Quit, Rest, State, Steps, Track, Wait, after, aged, all_answered, all_down, all_fit, answered_after, any_risen, are_aloft, are_down, are_listed, awaited, awaits, chosen, covers, deaf_from, drones, end_step, falls_silent, fits, frames_from, frames_of, frames_of_step, harms, has_landed, has_risen, has_window, held_by, in_show, is_airborne, is_astray, is_covered, is_down, is_due_step, is_flown, is_flying, is_go, is_grave, is_land, is_late_step, is_lost, is_off_hold, is_off_phase, is_outside, is_over, is_rise, is_same, is_silent, is_stop, is_window, keeps_hold, land_order, landings, last_hold, later, may_be_deaf, most_ms, next_step, note_if, noticed, off_with, older, on_landing, one_if, order_in, overdue, passed, renewed, sample_notes, seen_notes, sent, silent_from, start, starts, starts_with, track_with, tracked, unanswered, unfit_in}
pub use Rattle.flight_model.specs.Hears.{HasWindow, IsCovered, MayBeDeaf, MayLand}
pub use Rattle.flight_model.specs.Kept.{HasShow, IsHeard, IsKeptShow, KeptLaw, time}
pub use Rattle.flight_model.specs.Law.{AllQuiet, Arms, DueLaw, FaultLaw, HaltLaw, IsFit, IsLast, IsNear, IsOnward, IsQuiet, LandLaw, Lands, LandsOrWaits, MayBegin, OnlyLaw, OnlyOrders, OverLaw, QuietLaw, Rises, StandsAt, Starts, Waits, in_step, is_on_course, noted_by, notes_in, only_if, ordered, orders_to, told_by}
pub use Rattle.flight_model.specs.Legs.{IsFlight, IsWay, IsWayDown, IsWayUp, Leg, RestsOn, Routes, after_segment, arm_condition, arm_order, arm_step, down_bound, down_condition, down_order, down_step, first_move, go_to, group_step, has_moved, hold_in, is_vertical, last_condition, last_move, last_step, lasts, leg, leg_count, leg_ms, legs_from, legs_of, moves, ms_before, ms_until, position_of, same_on, start_condition, start_step, up_bound, up_condition, up_order, up_step, way_begins, will_move}
pub use Rattle.flight_model.specs.Ours.{Drone, HasJoined, OursLaw, does, flight_group, is_for, obeys, obeys_all, overheard, overheard_by}
pub use Rattle.flight_model.specs.Outside.{HasRisen, IsHeardOutside, OutsideLaw}
pub use Rattle.flight_model.specs.Rooms.{IsInRoom, IsSpanOf, RoomOfLaw, all_values, is_in_room, is_in_span, span_of, with_value, with_values}
pub use Rattle.flight_model.specs.Samples.{is_at, is_fit, is_short, square, stands_at}
pub use Rattle.flight_model.specs.Turns.{AllDown, AtPads, HoldsUntil, IsDownBound, IsSeenDown, IsUpBound, MayArm, MayGoOn, MayRise, MayStart, TurnLaw, twice}
pub use Rattle.flight_model.specs.declared.events.Event.{Event}
pub use Rattle.flight_model.specs.declared.events.Event.TheVariants.{Answered, Clock, Said, Seen}
pub use Rattle.flight_model.specs.declared.events.Fault.{Fault}
pub use Rattle.flight_model.specs.declared.events.Fault.TheVariants.{Astray, Late, Lost, Outside, Refused, Silent, Unsure}
pub use Rattle.flight_model.specs.declared.events.Frame.{Frame}
pub use Rattle.flight_model.specs.declared.events.Frame.TheVariants.{Noted, Over, To, ToAll}
pub use Rattle.flight_model.specs.declared.events.Note.{Note}
pub use Rattle.flight_model.specs.declared.events.Order.{Order}
pub use Rattle.flight_model.specs.declared.events.Sample.{Sample}
pub use Rattle.flight_model.specs.declared.flights.Condition.{Condition}
pub use Rattle.flight_model.specs.declared.flights.Flight.{Flight}
pub use Rattle.flight_model.specs.declared.flights.Orders.{Orders}
pub use Rattle.flight_model.specs.declared.flights.Orders.TheVariants.{Each}
pub use Rattle.flight_model.specs.declared.flights.Position.{Position}
pub use Rattle.flight_model.specs.declared.flights.Step.{Step}
pub use Rattle.flight_model.specs.declared.flights.Window.{Window}
