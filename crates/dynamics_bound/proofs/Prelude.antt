-- What the proofs of this crate cite from elsewhere, passed on from one place. Declares nothing.
pub use Rattle.std.proofs.Common.{All, Bool, Fits, FitsSigned, IfNone, IfSome, List, None, Option, Some, [], ap, arith, cond, drop, false, get_or, inl, inr, length, lit<, map, max, nat_lt, neg_ℤ, of_z, pos, refl, rules, suc, sum, sym, take, to_z, true, unsigned_abs, zero, ℕ, ℤ, ◌*ℤ◌, ◌*◌, ◌+ℤ◌, ◌+◌, ◌-ℤ◌, ◌-◌, ◌/◌, ◌<ℤ◌, ◌<◌, ◌^◌, ◌∙◌, ◌∷◌, ◌≡◌, ◌≤ℤ◌, ◌≤◌, ◌⊎◌}
pub use Rattle.std.proofs.Math.Nat.{div-mul-le_self, pow-le-pow_right, pow-suc, pow-zero}
pub use Rattle.std.proofs.lemmas.Bool.Decides.{nat_tests}
pub use Rattle.std.proofs.lemmas.Grind.{common_steps, div_ceil_times}
pub use Rattle.std.proofs.lemmas.Int.{by_lt_z, ints, to_z-of_z, to_z_pos, unsigned_abs-mul}
pub use Rattle.std.proofs.lemmas.List.{drop_more, length-map}
pub use Rattle.std.proofs.lemmas.List.Elements.{All-cons, All-get_or, All-head, All-nil, All-tail}
pub use Rattle.std.proofs.lemmas.Nat.{mul-le, pow-add, pow_pos}
pub use Rattle.std.specs.Int.{div_ceil}
pub use Rattle.bezier_core.proofs.BlendLemmas.{within_mul}
unfoldable pub use Rattle.bezier_core.specs.Raised.{raised_value}
pub use Rattle.bezier_core.specs.Raised.{raised}
pub use Rattle.bezier_core.specs.Steps.{IsWithin}
pub use Rattle.bezier_core.specs.declared.Bez.{Bez}
pub use Rattle.whole_numbers.proofs.BernsteinLemmas.{bernstein-at_end, bernstein-at_zero, bernstein-same, by_lt}
pub use Rattle.whole_numbers.proofs.RingLemmas.{le_mul_ℤ, linear, mul_assoc_ℤ, mul_comm_ℤ, mul_not_negative, one_mul_ℤ, ring, zero_mul_ℤ}
unfoldable pub use Rattle.whole_numbers.specs.Bernstein.{bernstein}
pub use Rattle.whole_numbers.specs.Bernstein.{at}
pub use Rattle.whole_numbers.specs.Decoded.{IsPiece, points_from}
pub use Rattle.whole_numbers.specs.Numbers.{IsBelow}
pub use Rattle.whole_numbers.specs.Sums.{power}
pub use Rattle.bezier_core.proofs.PolarLemmas.{bernstein-blossom, blossom, left_half, part-whole, polar-first, right_half}
unfoldable pub use Rattle.bezier_core.specs.Part.{polar}
pub use Rattle.bezier_core.specs.Part.{part_value}
pub use Rattle.speed_bound.proofs.Differences.{AreWithin, all_within, differences-part, within-half, within-whole}
pub use Rattle.speed_bound.proofs.RateLemmas.{some_product, some_time}
pub use Rattle.speed_bound.proofs.Rests.{pieces_formed}
pub use Rattle.speed_bound.proofs.Slopes.{count_more, exchange, exchanged, minus_same, next_scale, polar-second, steps, within_add, within_product, within_same}
pub use Rattle.speed_bound.proofs.Speeds.{piece_value, power_low}
pub use Rattle.speed_bound.proofs.Units.{in_units}
pub use Rattle.speed_bound.proofs.Walks.{duration-at, lasts-at, points-at, rate-at, three_told, value-next}
pub use Rattle.speed_bound.proofs.Widths.{greatest-at, greatest-most, greatest-same}
unfoldable pub use Rattle.speed_bound.specs.Differences.{rate_of, time, units, widest, widest_in}
pub use Rattle.speed_bound.specs.Differences.{differences, limit, rate, segment_rate}
pub use Rattle.speed_bound.specs.Speed.{duration, greatest_below}
pub use Rattle.speed_bound.specs.Steps.{value_at}
pub use Rattle.traj_codec.specs.Positions.{durations, element_on, piece_on, pieces_on, points, value_after}
pub use Rattle.traj_codec.specs.Spelling.{HasDuration, stored}
pub use Rattle.traj_codec.specs.declared.traj.Segment.{Segment}
pub use Rattle.traj_codec.specs.declared.traj.Traj.{Traj}
pub use mir.Syntax.{w128, w16, w32, w64}
unfoldable pub use Rattle.dynamics_bound.specs.Accelerations.{acceleration, acceleration_of, segment_acceleration, widest_bend, widest_bend_part}
pub use Rattle.dynamics_bound.specs.Accelerations.{KeepsAcceleration, acceleration_in, after, bend}
unfoldable pub use Rattle.dynamics_bound.specs.Edges.{jump, jump_between}
pub use Rattle.dynamics_bound.specs.Edges.{AreSame, HasVelocities, IsGreatestJump, arrival, departure, first_greatest, first_step, first_velocity, greatest_jump, is_rest_at, last_step, rest}
pub use Rattle.dynamics_bound.specs.Excesses.{IsWithinLimits, above, excess_before, first_excess, jumps_at, sharp_at}
pub use Rattle.dynamics_bound.specs.Motions.{cue_from, extremes, extremes_of, greater}
pub use Rattle.dynamics_bound.specs.Steps.{greatest_before, reached_at, three, walk_at}
pub use Rattle.dynamics_bound.specs.declared.excess.Excess.{Excess}
pub use Rattle.dynamics_bound.specs.declared.excess.Limits.{Limits}
pub use Rattle.dynamics_bound.specs.declared.walk.Reached.{Reached}
pub use Rattle.dynamics_bound.specs.declared.walk.Walk.{Walk}
