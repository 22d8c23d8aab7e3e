-- What the proofs of this crate cite from elsewhere, passed on from one place. Declares nothing.
pub use Rattle.std.proofs.Common.{All, Bool, Err, FitsSigned, IfOk, IfSome, List, None, Ok, Option, Result, Some, [], ap, append-nil, append_assoc, arith, below_more, bit_and, bit_or, cond, drop, false, get_or, get_or-set_other, get_or-set_same, inl, inr, is_none, leb, length, length-append, lit<, map, nat_lt, neg_ℤ, negsuc, not, of_z, pos, pow_mono, refl, replicate, rules, slice_set, subst, suc, sym, take, to_z, true, unsigned_abs, w8, zero, ℕ, ℤ, ◌%◌, ◌*ℤ◌, ◌*◌, ◌++◌, ◌+ℤ◌, ◌+◌, ◌-ℤ◌, ◌-◌, ◌/◌, ◌<ℤ◌, ◌<◌, ◌^◌, ◌↔◌, ◌∙◌, ◌∷◌, ◌≡◌, ◌≢◌, ◌≤ℤ◌, ◌≤◌, ◌⊎◌}
pub use Rattle.std.proofs.Math.ListN.{get_or-map}
pub use Rattle.std.proofs.Math.Nat.{pow-le-pow_right, pow-suc, two-pow-succ}
pub use Rattle.std.proofs.lemmas.Bool.Decides.{nat_tests}
pub use Rattle.std.proofs.lemmas.Grind.{common_steps}
pub use Rattle.std.proofs.lemmas.Int.{int_wrap_fits, ints, to_z-of_z, unsigned_abs-mul, wrapping_add_onto}
pub use Rattle.std.proofs.lemmas.List.{drop-drop, get_or_default, length-map}
pub use Rattle.std.proofs.lemmas.List.Quantifiers.{position-Some}
pub use Rattle.std.proofs.lemmas.List.Sums.{position_or_len_is, sum_by-cons}
pub use Rattle.std.proofs.lemmas.Nat.{and-not, and_comm, div_below, le-div, leading_top, mul-le, pow-add, pow_pos}
pub use Rattle.std.proofs.lemmas.Nat.Bits.{and_pow, bit_at-lt, bit_at-trailing_zeros, bit_at-zero, bit_at_above, bit_at_and, bit_at_clear_other, bit_at_or}
pub use Rattle.std.proofs.lemmas.Result.{err_from_is_err_and}
pub use Rattle.std.proofs.lemmas.Simd.{bit_mask_l, bitmask_splat, get_or-chunk, length-chunk}
pub use Rattle.std.specs.Int.{bit_at, int_wrap}
pub use Rattle.std.specs.Int.Signed.{shr_z}
pub use Rattle.std.specs.Option.{is_some, option_map, option_or}
pub use Rattle.std.specs.Simd.Lanes.{chunk, mask_l}
pub use Rattle.bezier_core.proofs.CurveLemmas.{at-eight}
pub use Rattle.bezier_core.proofs.EightLemmas.{below_at}
pub use Rattle.bezier_core.specs.Along.{controls}
pub use Rattle.bezier_core.specs.Steps.{IsWithin}
pub use Rattle.bezier_core.specs.declared.Bez.{Bez}
pub use Rattle.fleet_curves.proofs.Rows.{controls_row, set_below, small_row}
unfoldable pub use Rattle.fleet_curves.specs.Raised.{difference}
pub use Rattle.fleet_curves.specs.Raised.{Raised, curves_at, curves_of}
pub use Rattle.whole_numbers.proofs.BernsteinLemmas.{bernstein-zero, by_lt}
pub use Rattle.whole_numbers.proofs.RingLemmas.{le_mul_pos, linear, mul_add_ℤ, mul_assoc_ℤ, mul_comm_ℤ, mul_left_comm_ℤ, mul_neg_ℤ, neg_mul_ℤ, one_mul_ℤ, zero_mul_ℤ}
pub use Rattle.whole_numbers.specs.Bernstein.{at}
pub use Rattle.whole_numbers.specs.Numbers.{IsBelow}
pub use Rattle.bezier_core.proofs.PolarLemmas.{part-part, part-whole, polar-mix, polar-same}
pub use Rattle.bezier_core.specs.Part.{part_value}
pub use Rattle.bezier_core.specs.declared.halves.Place.{Place}
pub use Rattle.sep_parts.proofs.Lows.{first_low-none, first_low-values}
pub use Rattle.sep_parts.proofs.Orders.{IsAhead, first_ahead, next_ahead, pair_ahead, some_ahead}
pub use Rattle.sep_parts.proofs.Parts.{level_below, raised_level}
pub use Rattle.sep_parts.proofs.Stacks.{first_stack, next_same, some_next}
pub use Rattle.sep_parts.specs.Directions.{IsAxis, IsClearance, Stands, direction_of, for_reach, length_squared, limit_along, reach_on, root_above, stray_limit, threshold, weights}
pub use Rattle.sep_parts.specs.Levels.{IsLevel, IsStack, left_half, places_of, right_half, root}
pub use Rattle.sep_parts.specs.Rulers.{Measure}
pub use Rattle.sep_parts.specs.Separates.{Separates, least_value, low_value, part_along}
unfoldable pub use Rattle.sep_parts.specs.Slots.{slots}
pub use Rattle.sep_parts.specs.Slots.{cues_from, drones_from, following, following_pair, pairs_from, slot_at}
pub use Rattle.sep_parts.specs.Trees.{IsShallow, IsValidTree, Tree, leaf, places_below, preorder, split}
pub use Rattle.sep_parts.specs.declared.clearance.Clearance.{Clearance}
pub use Rattle.sep_parts.specs.declared.node.Node.{Node}
pub use Rattle.sep_parts.specs.declared.node.Node.TheVariants.{Leaf, Split}
pub use Rattle.sep_parts.specs.declared.slot.Slot.{Slot}
pub use Rattle.sep_parts.specs.declared.stack.Level.{Level}
pub use mir.Syntax.{w128, w16, w32, w64}
pub use Rattle.pair_search.specs.Extents.{HasAxes, HasExtents, HaveFlights, IsExtent, IsFar, IsFarOn, IsFlight, least_distance, no_extent, room_on}
unfoldable pub use Rattle.pair_search.specs.Fleets.{direction_at}
pub use Rattle.pair_search.specs.Fleets.{StopsBy, best_nodes, blocked_in, nodes_in, nodes_of, slots_in}
pub use Rattle.pair_search.specs.Lanes.{IsFloor, IsLane, IsPoint, IsSmallLane, lane_value, slack_of, slack_on, steps_of}
pub use Rattle.pair_search.specs.Marks.{AnswersBit, AreEarly, AreEnds, AreLeft, AreWeighed, FindsBit, FindsEarliest, FindsEarly, FindsMarked, IsLowEnd, IsMarked, IsMarkedIn, IsOut, MarkTells, MarksAt, TellAll, TellsEnds, TellsOf, dir_of}
pub use Rattle.pair_search.specs.Opposites.{AreOpposites, AreSmallHighs, CancelAt, IsHigh, IsSmallHigh}
unfoldable pub use Rattle.pair_search.specs.Search.{blocked_place, first_direction}
pub use Rattle.pair_search.specs.Search.{HasDirection, IsClear, SearchGives, best_tree, first_by, first_without, place_at, split_of}
pub use Rattle.pair_search.specs.Short.{AreShort, AreShortMarks, FitsShort, HasSmallWeights, IsRough, IsShortPoint, MarksOf, TellsShort, short_lane_at, short_low, short_steps_of, short_value}
pub use Rattle.pair_search.specs.Steps.{CountGives, FindsCount, FindsFirst, IsPairFar, WalkGives, blocked_slot, does_separate, marked, node_for}
pub use Rattle.pair_search.specs.declared.ends.Ends.{Ends}
pub use Rattle.pair_search.specs.declared.extents.Extent.{Extent}
pub use Rattle.pair_search.specs.declared.lanes.Lanes.{Lanes}
pub use Rattle.pair_search.specs.declared.lanes.Point.{Point}
pub use Rattle.pair_search.specs.declared.marking.Marks.{Marks}
pub use Rattle.pair_search.specs.declared.opposites.Opposites.{Opposites}
pub use Rattle.pair_search.specs.declared.short.ShortLane.{ShortLane}
pub use Rattle.pair_search.specs.declared.short.ShortLanes.{ShortLanes}
pub use Rattle.pair_search.specs.declared.short.ShortPoint.{ShortPoint}
pub use Rattle.pair_search.specs.declared.walk.Found.{Found}
