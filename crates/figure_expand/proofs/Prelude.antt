-- What the proofs of this crate cite from elsewhere, passed on from one place. Declares nothing.
pub use Rattle.std.proofs.Common.{Bool, FitsSigned, List, None, Option, Some, [], ap, append_assoc, arith, cond, drop, drop-cons, false, get_or, length, map, nat_le, of_z, pos, refl, rules, set, subst, suc, sym, take, to_z, true, w64, zero, ℕ, ℤ, ◌&&◌, ◌*ℤ◌, ◌*◌, ◌++◌, ◌+ℤ◌, ◌+◌, ◌-ℤ◌, ◌<◌, ◌^◌, ◌∙◌, ◌∷◌, ◌≡◌, ◌≤◌}
pub use Rattle.std.proofs.lemmas.Grind.{common_steps}
pub use Rattle.std.proofs.lemmas.Int.{ints, to_z-of_z}
pub use Rattle.std.proofs.lemmas.List.{append-nil, drop_all, drop_more, length-set, take_all}
pub use Rattle.std.proofs.lemmas.List.Elements.{All-append, All-cons, All-from_recursion, All-get_or, All-head, All-nil, All-tail}
pub use Rattle.std.specs.List.{All, list_all}
pub use Rattle.std.specs.Prelude.{IfSome, neg_ℤ, negsuc, reverse, ◌<ℤ◌, ◌≤ℤ◌}
pub use Rattle.choreo_show.specs.Valid.{FitsAct, FitsCoordinate, FitsFrame, FitsPoint, FitsTriple, FitsYaw}
pub use Rattle.choreo_show.specs.declared.parts.Act.{Act}
pub use Rattle.choreo_show.specs.declared.parts.Ease.{Ease}
pub use Rattle.choreo_show.specs.declared.parts.Point.{Point}
pub use Rattle.choreo_show.specs.declared.show.DroneLine.{DroneLine}
pub use Rattle.cue_grid.specs.Frames.{IsPointUpTo, IsShiftUpTo, IsUpTo, mirrored, no_frame, turned, turned_once}
pub use Rattle.cue_grid.specs.Grids.{FitCues, FitJobs, FitsCue, FitsJob, IsGrid}
pub use Rattle.cue_grid.specs.declared.grid.Cue.{Cue}
pub use Rattle.cue_grid.specs.declared.grid.Grid.{Grid}
pub use Rattle.cue_grid.specs.declared.grid.Job.{Job}
pub use Rattle.whole_numbers.proofs.BernsteinLemmas.{bernstein-mix, bernstein-same, bernstein-suc, bernstein-zero, cong_add}
pub use Rattle.whole_numbers.proofs.RingLemmas.{add_mul_ℤ, le_mul_pos, linear, mul_add_ℤ, mul_assoc_ℤ, mul_comm_ℤ, mul_zero_ℤ, one_mul_ℤ, ring}
unfoldable pub use Rattle.whole_numbers.specs.Bernstein.{bernstein}
pub use Rattle.whole_numbers.specs.Bernstein.{at, bern, weight}
pub use Rattle.whole_numbers.specs.Sums.{power}
pub use Rattle.mm_rounding.specs.Rounding.{axis_on, controls, counted, first_control, is_short, millimetres, rounded, segment_of, short}
pub use Rattle.mm_rounding.specs.declared.piece.Axis.{Axis}
pub use Rattle.mm_rounding.specs.declared.piece.Axis.TheVariants.{Eight, Four, One, Two}
pub use Rattle.mm_rounding.specs.declared.piece.MicroPiece.{MicroPiece}
pub use Rattle.figure_expand.specs.Acts.{act_in, act_of, arc_points, control_in, eased_on, eased_point, eased_points, handle, millionths, on_axis, shares}
pub use Rattle.figure_expand.specs.Bounds.{AreInReach, AreSmall, IsActUpTo, reach}
pub use Rattle.figure_expand.specs.Controls.{axes_of, axis_with, piece_of}
unfoldable pub use Rattle.figure_expand.specs.Expanded.{expanded, range_fault}
pub use Rattle.figure_expand.specs.Expanded.{cue_values, expanded_from, first_unfit, fits, fits_axis, job_in, no_job, pieces_from, point_values, points_after, start_points, start_values, values, values_from, values_of, values_on}
pub use Rattle.figure_expand.specs.Flown.{FitsWell, FliesAsWritten, RoundsWell, StartsWell, job_at, jobs_in, point_before, start_of}
unfoldable pub use Rattle.figure_expand.specs.Written.{end_of}
pub use Rattle.figure_expand.specs.Written.{ClosedForms, eased_yaw, forty_seconds, from_rest, point_after, squares, squares_left, written_points, yaw_in, yaw_out}
pub use Rattle.figure_expand.specs.declared.fault.AxisValue.{AxisValue}
