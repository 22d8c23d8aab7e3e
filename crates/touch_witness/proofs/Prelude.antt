-- What the proofs of this crate cite from elsewhere, passed on from one place. Declares nothing.
pub use Rattle.std.proofs.Common.{All, FitsSigned, List, OnOk, Some, [], ap, arith, below_more, codes, decimal, false, get_or, get_or-set_other, get_or-set_same, inl, inr, length, length-set, lit<, map, neg_ℤ, of_z, pos, pow-add, refl, replicate, rules, set, slice_get, subst, suc, sum, sym, take, to_z, true, unsigned_abs, zero, ℕ, ℤ, ◌%◌, ◌*ℤ◌, ◌*◌, ◌++◌, ◌+ℤ◌, ◌+◌, ◌-ℤ◌, ◌-◌, ◌/◌, ◌<ℤ◌, ◌<◌, ◌^◌, ◌∙◌, ◌∷◌, ◌≡◌, ◌≤ℤ◌, ◌≤◌}
pub use Rattle.std.proofs.Math.Nat.{div-le_of_le-mul, pow-le-pow_left, pow-le-pow_right, pow-suc, pow-zero}
pub use Rattle.std.proofs.lemmas.Grind.{common_steps}
pub use Rattle.std.proofs.lemmas.Int.{by_lt_z, fits_signed_mul, ints, to_z-of_z, to_z_pos, unsigned_abs-mul}
pub use Rattle.std.proofs.lemmas.List.{get_or-replicate, get_or_past, length-map, length-replicate, take_all}
pub use Rattle.std.proofs.lemmas.List.Elements.{All-cons, All-get_or, All-head, All-nil, All-set, All-tail}
pub use Rattle.std.proofs.lemmas.Nat.{mul-le, pow_pos}
pub use Rattle.std.proofs.lemmas.Option.{slice_get_within}
pub use Rattle.std.specs.Prelude.{MatchOption, None, Option, slice_index_or, ◌⊎◌}
pub use Rattle.bezier_core.proofs.BlendLemmas.{length_bounds, power_pos, within_mul}
pub use Rattle.bezier_core.specs.Steps.{IsWithin}
pub use Rattle.fleet_curves.proofs.Differences.{eight_all, list_of_seven, same_default, same_eight_numbers}
pub use Rattle.fleet_curves.proofs.Standing.{at_place, item_there, same_item, segments_of}
pub use Rattle.fleet_curves.specs.Raised.{IsOneShow, cues_in}
pub use Rattle.fleet_curves.specs.Steps.{IsFormed}
pub use Rattle.byte_streams.specs.Words.{line}
pub use Rattle.whole_numbers.proofs.BernsteinLemmas.{by_lt}
pub use Rattle.whole_numbers.proofs.RingLemmas.{le_mul_pos, le_mul_ℤ, linear, mul_add_ℤ, mul_assoc_ℤ, mul_comm_ℤ, mul_left_comm_ℤ, mul_positive, one_mul_ℤ, ring}
pub use Rattle.whole_numbers.proofs.SumLemmas.{power-add, power-mul, power_positive}
pub use Rattle.whole_numbers.specs.Bernstein.{at, bern, bernstein}
pub use Rattle.whole_numbers.specs.Decoded.{IsPiece, Piece, durations, points, points_from}
pub use Rattle.whole_numbers.specs.Numbers.{IsIn}
pub use Rattle.whole_numbers.specs.Sums.{power}
pub use Rattle.sep_parts.proofs.Cauchy.{square_positive}
pub use Rattle.sep_parts.specs.Apart.{AreApart, FlyApartExactly, gap}
pub use Rattle.traj_codec.proofs.PositionLemmas.{decoded-points, durations_on}
pub use Rattle.traj_codec.specs.Joined.{own}
pub use Rattle.traj_codec.specs.Positions.{decoded, element_on, piece_on, pieces_on, value_after}
pub use Rattle.traj_codec.specs.Spelling.{IsNumber, stored}
pub use Rattle.traj_codec.specs.declared.traj.Element.{Element}
pub use Rattle.traj_codec.specs.declared.traj.Segment.{Segment}
pub use Rattle.traj_codec.specs.declared.traj.Traj.{Traj}
pub use mir.Syntax.{w128, w16, w64}
pub use Rattle.touch_witness.specs.Sites.{AreDisjoint, DisjointAt, IsBefore, IsClosest, IsClosestIn, IsFirstTouch, IsListed, IsOf, LeftAbove, LeftFrom, LeftIs, NoTouch, SharePoint, TouchAt, from_centre, gap_at, instant_of, left_of, listed, over, right_of}
unfoldable pub use Rattle.touch_witness.specs.Steps.{left_side, position, right_side}
pub use Rattle.touch_witness.specs.Steps.{AllDisjoint, AllDisjointFrom, ArePlaces, AreStarts, DisjointInCue, IsBest, IsFirstPair, IsFirstSite, IsLeastOf, IsLeastPair, IsLeftAt, IsNear, IsNearestAt, IsPlace, IsShort, IsStart, NoneTouch, PairBefore, PairDisjoint, PairTouches, SidesDisjoint, SidesTouch, begin_of, left_at, most_ratio, no_point, no_start, point_at, reach}
pub use Rattle.touch_witness.specs.declared.nearest.Best.{Best}
pub use Rattle.touch_witness.specs.declared.nearest.Pair.{Pair}
pub use Rattle.touch_witness.specs.declared.places.Point.{Point}
pub use Rattle.touch_witness.specs.declared.places.Start.{Start}
pub use Rattle.touch_witness.specs.declared.site.Touch.{Touch}
