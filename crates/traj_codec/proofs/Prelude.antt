-- What the proofs of this crate cite from elsewhere, passed on from one place. Declares nothing.
pub use Rattle.std.proofs.Common.{Bool, Err, FitsSigned, List, None, Ok, Option, Result, Some, [], ap, append_assoc, arith, cond, drop, false, get_or, if◌then◌else◌, inl, inr, length, length-append, length-drop, map, nat_le, pos, refl, rules, slice_index, subst, suc, sym, take, to_z, true, zero, ℕ, ℤ, ◌%◌, ◌&&◌, ◌*ℤ◌, ◌*◌, ◌++◌, ◌+◌, ◌-◌, ◌/◌, ◌<◌, ◌==◌, ◌^◌, ◌∙◌, ◌∷◌, ◌≡◌, ◌≤◌, ◌⊎◌}
pub use Rattle.std.proofs.lemmas.Bool.Decides.{nat_tests}
pub use Rattle.std.proofs.lemmas.Grind.{common_steps, flat_map-append}
pub use Rattle.std.proofs.lemmas.Int.{ints, to_z-of_z}
pub use Rattle.std.proofs.lemmas.List.{append-nil, append_cancel_left, drop-drop, drop_all, drop_at, get_or-drop, take_all, take_more}
pub use Rattle.std.proofs.lemmas.List.Elements.{All-append, All-cons, All-head, All-nil, All-tail}
pub use Rattle.std.proofs.lemmas.List.Sums.{sum_by-cons}
pub use Rattle.std.proofs.lemmas.Result.{err_from_is_err_and}
pub use Rattle.std.specs.List.{All, flat_map, list_all, sum}
pub use Rattle.std.specs.Option.{option_or}
pub use Rattle.byteorder.specs.Endian.{little_bytes, little_number}
pub use Rattle.byteorder.specs.Numbers.{little_number-reads_back}
pub use Rattle.whole_numbers.specs.Bernstein.{at, bern}
pub use Rattle.whole_numbers.specs.Decoded.{last_value, points_from}
unfoldable pub use Rattle.whole_numbers.specs.Moments.{moment}
pub use Rattle.whole_numbers.specs.Moments.{Moment, moment_from}
pub use Rattle.whole_numbers.specs.Sums.{power}
unfoldable pub use Rattle.traj_codec.specs.Joined.{joined_from}
pub use Rattle.traj_codec.specs.Joined.{FromTheLeft, GroupLaw, IsGroup, IsLasting, JoinLaw, SameCurve, first_ms, hold, is_hold, joined, most_ms, next_held, one_of, own, put_held, put_next, stays}
pub use Rattle.traj_codec.specs.Positions.{decoded, durations, element_on, piece_on, points, value_after}
pub use Rattle.traj_codec.specs.Reading.{BeginsWith, DecodeGives, ElementStands, IsDecoded, NumbersStand, SegmentsGive, SegmentsStand, Spans, count_of_kind, count_under, decode_fault, duration_fault, field_fault, numbers_fault, segment_fault, segment_length, segments_fault}
pub use Rattle.traj_codec.specs.Spelling.{HasDuration, IsElement, IsNumber, IsSegment, SpellingLaw, bodies, header, kind, number, numbers, segment, spelling, stored}
pub use Rattle.traj_codec.specs.declared.reading.CodecFault.{CodecFault}
pub use Rattle.traj_codec.specs.declared.reading.CodecFault.TheVariants.{Memory, Short, ZeroDuration}
pub use Rattle.traj_codec.specs.declared.traj.Element.{Element}
pub use Rattle.traj_codec.specs.declared.traj.Element.TheVariants.{Constant, Cubic, Linear, Seven}
pub use Rattle.traj_codec.specs.declared.traj.Segment.{Segment}
pub use Rattle.traj_codec.specs.declared.traj.Traj.{Traj}
