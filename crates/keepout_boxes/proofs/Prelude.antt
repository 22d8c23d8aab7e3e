-- What the proofs of this crate cite from elsewhere, passed on from one place. Declares nothing.
pub use Rattle.std.proofs.Common.{All, Bool, FitsSigned, IsTrue, List, MatchOption, None, Option, Result, Some, [], ap, arith, below_more, cond, drop, eqb, false, get_or, inl, inr, length, length-append, lit<, neg_ℤ, negsuc, of_z, pos, refl, rules, slice_get, subst, suc, sym, take, to_z, true, unsigned_abs, zero, ℕ, ℤ, ◌*ℤ◌, ◌*◌, ◌++◌, ◌+ℤ◌, ◌+◌, ◌-ℤ◌, ◌-◌, ◌<ℤ◌, ◌<◌, ◌^◌, ◌∙◌, ◌∷◌, ◌≡◌, ◌≤ℤ◌, ◌≤◌}
pub use Rattle.std.proofs.lemmas.Bool.{eqb-true, ne_eqb}
pub use Rattle.std.proofs.lemmas.Grind.{common_steps}
pub use Rattle.std.proofs.lemmas.Int.{by_lt_z, ints, to_z-of_z, unsigned_abs-mul}
pub use Rattle.std.proofs.lemmas.List.{append-nil, append_assoc, get_or_past, length-map, take_rest}
pub use Rattle.std.proofs.lemmas.List.Elements.{All-from_get_or, All-get_or, All-nil}
pub use Rattle.std.proofs.lemmas.Nat.{mul-le, pow-add, pow_pos}
pub use Rattle.std.specs.Prelude.{Err, IfSome, Ok, bytes_eq, codes, is_some, ◌↔◌, ◌⊎◌}
pub use Rattle.bezier_core.specs.Along.{controls}
pub use Rattle.bezier_core.specs.declared.Bez.{Bez}
pub use Rattle.fleet_curves.proofs.Standing.{at_place, item_there, same_item, segments_of}
pub use Rattle.fleet_curves.specs.Raised.{HasFewPoints, Raised, curves_at, raised_in}
pub use Rattle.whole_numbers.proofs.BernsteinLemmas.{bernstein-at_least, by_lt}
pub use Rattle.whole_numbers.proofs.RingLemmas.{le_from_mul_ℤ, le_mul_ℤ, linear, lt_mul_ℤ, mul_add_ℤ, mul_assoc_ℤ, mul_comm_ℤ, mul_left_comm_ℤ, neg_mul_ℤ, one_mul_ℤ, ring}
pub use Rattle.whole_numbers.specs.Bernstein.{at, bernstein}
pub use Rattle.whole_numbers.specs.Numbers.{IsBelow, IsIn}
pub use Rattle.whole_numbers.specs.Sums.{power}
pub use Rattle.bezier_core.proofs.PartBounds.{bernstein-at_most, part-at_least, part-at_most, part-half, part-instant, part-within, power_seven}
pub use Rattle.bezier_core.specs.Part.{part_value}
pub use Rattle.text_lines.specs.Tokens.{first_token, lines_in, word_in, words_in}
pub use Rattle.text_lines.specs.declared.token.Token.{Token}
pub use Rattle.traj_codec.specs.Positions.{decoded, durations}
pub use Rattle.traj_codec.specs.declared.traj.Traj.{Traj}
pub use mir.Syntax.{w128, w32}
pub use Rattle.keepout_boxes.specs.Kept.{AllAbove, AllBelow, AllBetween, AreEnds, IsBefore, IsFirstEntry, IsKept, IsNear, IsSpot, KeepsLaw, KeepsTo, KeptAt, SentLaw, Spot, StaysClear, extent, farthest, most_regions, part_of}
pub use Rattle.keepout_boxes.specs.Regions.{are_ordered, coordinate, corner, put_region, region_of, region_with, regions_from, regions_of, three}
pub use Rattle.keepout_boxes.specs.Steps.{AllKeptIn, CoverAll, Covers, CueKept, DroneKept, IsCoordinate, IsFirstIn, IsFirstOfCue, IsFirstOfRegion, IsWider, KeptHere, KeptIn, RegionKept, RegionsKept, values_of}
pub use Rattle.keepout_boxes.specs.declared.region.Region.{Region}
pub use Rattle.keepout_boxes.specs.declared.region.Region.TheVariants.{Keepout, Volume}
