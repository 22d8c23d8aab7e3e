-- What the proofs of this crate cite from elsewhere, passed on from one place. Declares nothing.
pub use Rattle.std.proofs.Common.{Bool, List, None, Option, Some, [], ap, arith, cond, drop, drop-cons, false, get_or, inl, inr, length, map, nat_le, refl, rules, subst, suc, sym, take, true, zero, ℕ, ◌&&◌, ◌++◌, ◌+◌, ◌<◌, ◌==◌, ◌||◌, ◌∙◌, ◌∷◌, ◌≡◌, ◌≤◌}
pub use Rattle.std.proofs.lemmas.List.{append_assoc, flat_map_more, length-map, map-id}
pub use Rattle.std.proofs.lemmas.List.Elements.{All-append, All-cons, All-head, All-map, All-nil, All-tail}
pub use Rattle.std.specs.List.{flat_map, list_any, range_with_len}
pub use Rattle.std.specs.Option.{option_or, unwrap_or}
pub use Rattle.std.specs.Prelude.{All, bytes_eq, pos, slice_get, slice_index_or, ℤ}
pub use Rattle.arrayvec.specs.ArrayVec.{ArrayVec}
pub use Rattle.whole_numbers.specs.Bernstein.{at}
pub use Rattle.flight_model.specs.Legs.{IsFlight, IsWayDown, IsWayUp, RestsOn, Routes, after_segment, arm_condition, arm_order, arm_step, down_condition, down_order, down_step, ends_from, first_move, group_step, last_condition, last_move, last_step, lasts, leg_count, legs_from, legs_of, moves, ms_until, start_condition, start_step, steps_between, up_condition, up_order, up_step, way_begins, way_ends}
pub use Rattle.flight_model.specs.Rooms.{all_values, span_of, values_on, with_values}
pub use Rattle.flight_model.specs.declared.flights.Leg.{Leg}
pub use Rattle.flight_model.specs.declared.flights.Step.{Step}
pub use Rattle.traj_codec.specs.Positions.{element_on, piece_on, value_after}
pub use Rattle.traj_codec.specs.Spelling.{stored}
pub use Rattle.traj_codec.specs.declared.traj.Segment.{Segment}
pub use Rattle.traj_codec.specs.declared.traj.Traj.{Traj}
pub use Rattle.flight_steps.specs.Faults.{AreFlight, GivesFault, crew_fault, down_fault, downs_fault, first_other, flight_fault, gap, is_straight, name_fault, narrow, other_drone, other_ellipsoid, restless, restless_from, rests_by, rests_in, rests_on, route_fault, same_ellipsoid, same_place, seam_fault, seams_fault, size_fault, spelled, up_fault, ups_fault, way_fault}
pub use Rattle.flight_steps.specs.Sizes.{AreConditionsOf, IsStepOf, SizeRows, anywhere}
pub use Rattle.flight_steps.specs.Steps.{with_more, with_one}
pub use Rattle.flight_steps.specs.Ways.{AreFitted, routes}
pub use Rattle.flight_steps.specs.declared.faults.FlightFault.{FlightFault}
