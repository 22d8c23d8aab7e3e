-- What the proofs of this crate cite from elsewhere, passed on from one place. Declares nothing.
pub use Rattle.std.proofs.Common.{All, Err, FitsSigned, IfSome, List, None, Ok, OnErr, Option, Result, Some, [], ap, append_assoc, arith, below_more, drop, drop-cons, false, get_or, get_or-set_other, get_or-set_same, if◌then◌else◌, length, lit<, lit≤, map, nat_le, nat_lt, neg_ℤ, negsuc, of_z, pos, refl, replicate, rules, slice_index, slice_set, subst, suc, sum, sym, take, to_z, true, zero, ℕ, ℤ, ◌%◌, ◌*ℤ◌, ◌*◌, ◌++◌, ◌+ℤ◌, ◌+◌, ◌-ℤ◌, ◌-◌, ◌/◌, ◌<ℤ◌, ◌<◌, ◌==◌, ◌^◌, ◌∙◌, ◌∷◌, ◌≡◌, ◌≤ℤ◌, ◌≤◌}
pub use Rattle.std.proofs.Math.ListN.{length-set}
pub use Rattle.std.proofs.Math.Nat.{div-add-mod, div-le_of_le-mul, div-mul-le_self, lt-div-mul-add, mul-add, mul-add-div, mul-le-mul_left, mul-le-mul_right, mul_left_comm, one-le-pow, pow-le-pow_left, pow-le-pow_right, pow-suc, pow-zero, two-pow-succ}
pub use Rattle.std.proofs.lemmas.Bool.Decides.{nat_tests}
pub use Rattle.std.proofs.lemmas.Grind.{common_steps, flat_map-append}
pub use Rattle.std.proofs.lemmas.Int.{ints, to_z-of_z, to_z_pos}
pub use Rattle.std.proofs.lemmas.List.{append-nil, length-replicate, take-append-drop}
pub use Rattle.std.proofs.lemmas.Nat.{leading_length, mul-le, pow-add}
pub use Rattle.std.specs.Fmt.{decimal, signed_decimal}
pub use Rattle.std.specs.List.{flat_map, range_with_len}
pub use Rattle.whole_numbers.proofs.BernsteinLemmas.{bernstein-add, bernstein-suc, bernstein-zero, by_lt, cong_add}
pub use Rattle.whole_numbers.proofs.RingLemmas.{add_mul_ℤ, le_mul_pos, linear, mul_add_ℤ, mul_assoc_ℤ, mul_comm_ℤ, mul_neg_ℤ, neg_mul_ℤ, one_mul_ℤ, ring}
unfoldable pub use Rattle.whole_numbers.specs.Bernstein.{bernstein}
pub use Rattle.whole_numbers.specs.Bernstein.{at, bern, choose, weight}
unfoldable pub use Rattle.whole_numbers.specs.Moments.{moment}
pub use Rattle.whole_numbers.specs.Moments.{Moment, moment_from, time_before}
pub use Rattle.whole_numbers.specs.Numbers.{IsBelow}
pub use Rattle.traj_codec.specs.Spelling.{HasDuration, stored}
pub use Rattle.traj_codec.specs.declared.traj.Segment.{Segment}
pub use Rattle.traj_codec.specs.declared.traj.Traj.{Traj}
pub use mir.Syntax.{w128, w16, w64}
pub use Rattle.integer_player.specs.Floors.{IsFloor, floor_of}
pub use Rattle.integer_player.specs.Places.{ArePlaces, IsNotPast, IsPlaceAt, IsPlaceIn, Place}
unfoldable pub use Rattle.integer_player.specs.Played.{play_text}
pub use Rattle.integer_player.specs.Played.{curve_floor, played, played_on, row, rows_at, scale_on}
pub use Rattle.integer_player.specs.Steps.{Passes}
pub use Rattle.integer_player.specs.Weights.{AreWeights, IsNarrowed, dot_below, shift}
