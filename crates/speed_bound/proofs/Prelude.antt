-- What the proofs of this crate cite from elsewhere, passed on from one place. Declares nothing.
pub use Rattle.std.proofs.Common.{All, FitsSigned, List, [], ap, arith, drop, get_or, length, lit<, map, max, min, neg_ℤ, negsuc, pos, refl, rules, subst, suc, sum, sym, take, to_z, unsigned_abs, zero, zero-add, ℕ, ℤ, ◌*ℤ◌, ◌*◌, ◌++◌, ◌+ℤ◌, ◌+◌, ◌-ℤ◌, ◌-◌, ◌/◌, ◌<ℤ◌, ◌<◌, ◌^◌, ◌∙◌, ◌∷◌, ◌≡◌, ◌≢◌, ◌≤ℤ◌, ◌≤◌}
pub use Rattle.std.proofs.Math.Nat.{mul-div-le, pow-le-pow_right, pow-suc, pow-zero}
pub use Rattle.std.proofs.lemmas.Grind.{common_steps, div_ceil_times}
pub use Rattle.std.proofs.lemmas.Int.{by_lt_z, ints, to_z-of_z, to_z_pos}
pub use Rattle.std.proofs.lemmas.List.{drop_all, get_or_past, length-map, take_all}
pub use Rattle.std.proofs.lemmas.List.Elements.{All-cons, All-from_get_or, All-get_or, All-head, All-nil, All-tail}
pub use Rattle.std.proofs.lemmas.Nat.{mul-le, pow-add, pow_pos}
pub use Rattle.std.specs.Int.{div_ceil}
pub use Rattle.bezier_core.proofs.BlendLemmas.{bound_positive, within_mul}
pub use Rattle.bezier_core.proofs.CurveLemmas.{at-eight, raise, raised-level}
pub use Rattle.bezier_core.specs.Raised.{eight, raised}
pub use Rattle.bezier_core.specs.Steps.{IsWithin}
pub use Rattle.fleet_curves.specs.Steps.{IsFormed}
pub use Rattle.whole_numbers.proofs.BernsteinLemmas.{bernstein-same, bernstein-zero, by_lt}
pub use Rattle.whole_numbers.proofs.EdgeLemmas.{decoded-at_end, decoded-at_start, points-count, points-joined}
pub use Rattle.whole_numbers.proofs.Instants.{Lies, moment-lies, time_before-suc}
pub use Rattle.whole_numbers.proofs.RingLemmas.{add_mul_ℤ, le_from_mul_ℤ, le_mul_pos, le_mul_ℤ, linear, mul_add_ℤ, mul_assoc_ℤ, mul_comm_ℤ, mul_neg_ℤ, mul_not_negative, mul_positive, neg_mul_ℤ, one_mul_ℤ, ring, zero_mul_ℤ}
pub use Rattle.whole_numbers.proofs.SumLemmas.{power-add}
pub use Rattle.whole_numbers.specs.Bernstein.{at, bern, bernstein}
pub use Rattle.whole_numbers.specs.Decoded.{IsPiece, Piece, last_value, points_from}
pub use Rattle.whole_numbers.specs.Moments.{Moment, moment, time_before}
pub use Rattle.whole_numbers.specs.Numbers.{IsBelow, IsIn}
pub use Rattle.whole_numbers.specs.Sums.{power}
pub use Rattle.bezier_core.proofs.HalfLemmas.{bernstein-within}
pub use Rattle.bezier_core.proofs.PartBounds.{bernstein-scaled, part-half, part-within}
pub use Rattle.bezier_core.proofs.PolarLemmas.{blossom, left_half, part-whole, polar-first, polar-mix, polar-same, polar-suc_first, polar-suc_second, right_half, step}
unfoldable pub use Rattle.bezier_core.specs.Part.{polar}
pub use Rattle.bezier_core.specs.Part.{part_value}
pub use Rattle.sep_parts.specs.Apart.{AreApart, AreTogether, MovesWithin, aside, between, gap, square, way}
pub use Rattle.traj_codec.specs.Joined.{IsLasting, own}
pub use Rattle.traj_codec.specs.Positions.{decoded, durations, element_on, piece_on, pieces_on, points, value_after}
pub use Rattle.traj_codec.specs.Spelling.{HasDuration, IsElement, IsNumber, IsSegment, IsTrajectory, stored}
pub use Rattle.traj_codec.specs.declared.traj.Element.{Element}
pub use Rattle.traj_codec.specs.declared.traj.Element.TheVariants.{Constant, Cubic, Linear, Seven}
pub use Rattle.traj_codec.specs.declared.traj.Segment.{Segment}
pub use Rattle.traj_codec.specs.declared.traj.Traj.{Traj}
pub use mir.Syntax.{w128, w16, w64}
unfoldable pub use Rattle.speed_bound.specs.Differences.{rate_of, time, units, widest, widest_in}
pub use Rattle.speed_bound.specs.Differences.{differences, limit, rate, segment_rate}
unfoldable pub use Rattle.speed_bound.specs.Reach.{reach, reach_of}
pub use Rattle.speed_bound.specs.Reach.{IsMoving, ReachLaw, StillLaw, farthest, traj_at}
unfoldable pub use Rattle.speed_bound.specs.Speed.{segment_speed, speed, speed_of, widest_part, widest_step}
pub use Rattle.speed_bound.specs.Speed.{KeepsSpeed, duration, greatest_below}
pub use Rattle.speed_bound.specs.Steps.{value_at, value_before}
