-- What the proofs of this crate cite from elsewhere, passed on from one place. Declares nothing.
pub use Rattle.std.proofs.Common.{All, Bool, List, None, Option, Some, [], ap, append-nil, append_assoc, arith, cond, false, get_or, inl, inr, length, map, nat_le, nat_lt, neg_ℤ, negsuc, not, pos, refl, rules, slice_get, slice_index, subst, suc, sum, sym, take, true, unsigned_abs, zero, ℕ, ℤ, ◌%◌, ◌&&◌, ◌*ℤ◌, ◌*◌, ◌++◌, ◌+ℤ◌, ◌+◌, ◌-ℤ◌, ◌-◌, ◌/◌, ◌<ℤ◌, ◌<◌, ◌==◌, ◌^◌, ◌∙◌, ◌∷◌, ◌≡◌, ◌≤ℤ◌, ◌≤◌, ◌⊎◌}
pub use Rattle.std.proofs.lemmas.Bool.Decides.{nat_tests}
pub use Rattle.std.proofs.lemmas.Grind.{common_steps}
pub use Rattle.std.proofs.lemmas.Int.{by_lt_z, ints}
pub use Rattle.std.proofs.lemmas.List.{length-map, take_all}
pub use Rattle.std.proofs.lemmas.List.Elements.{All-cons, All-get_or, All-head, All-nil, All-tail}
pub use Rattle.std.proofs.lemmas.List.Splits.{length-slice_split, slice_split_at}
pub use Rattle.std.specs.List.{flat_map, slice_split}
pub use Rattle.std.specs.Option.{is_some, option_flatten, option_map, option_or}
pub use Rattle.std.specs.Str.{bytes_eq}
pub use Rattle.std.specs.Str.Lines.{lines, lines_of_parts, strip_carriage_return}
pub use Rattle.bezier_core.specs.declared.Bez.{Bez}
pub use Rattle.fleet_curves.proofs.Standing.{at_place, segments_of}
unfoldable pub use Rattle.fleet_curves.specs.Raised.{difference}
pub use Rattle.fleet_curves.specs.Raised.{CurvesStandFor, HasFewPoints, Raised, curves_at, less, raised_in}
pub use Rattle.whole_numbers.proofs.BernsteinLemmas.{bernstein-mix, bernstein-same, by_lt, cong_add}
pub use Rattle.whole_numbers.proofs.MomentLemmas.{IsInside, moment-inside}
pub use Rattle.whole_numbers.proofs.RingLemmas.{le_from_mul_ℤ, le_mul_ℤ, linear, mul_assoc_ℤ, mul_comm_ℤ, mul_not_negative, mul_positive, neg_mul_ℤ, one_mul_ℤ, ring}
pub use Rattle.whole_numbers.specs.Bernstein.{at, bernstein}
pub use Rattle.whole_numbers.specs.Moments.{Moment, moment}
pub use Rattle.whole_numbers.specs.Sums.{power}
pub use Rattle.bezier_core.specs.declared.halves.Place.{Place}
pub use Rattle.sep_parts.proofs.Directed.{Cue, IsSeenRaised, cue_of, direction}
pub use Rattle.sep_parts.proofs.Lifts.{near_gap, own_some, seventh_positive}
pub use Rattle.sep_parts.proofs.Lows.{first_low-none, first_low-small, first_low-values}
pub use Rattle.sep_parts.proofs.Positions.{IsSeenAt, curve_value, decoded_seen}
pub use Rattle.sep_parts.proofs.Seen.{above_from, seen_apart, share_none_turned, together_turned}
pub use Rattle.sep_parts.proofs.Trees.{tree_back, tree_told}
pub use Rattle.sep_parts.specs.Apart.{AreTogether, KeepReach, KeepsApart, MayBeAt, MovesWithin, Point, ShareNoPoint, between, square, way}
pub use Rattle.sep_parts.specs.Directions.{AreSmall, direction_of, for_ellipsoids, for_reach, for_strays, length_squared, limit_along, reach_on, threshold, weights}
pub use Rattle.sep_parts.specs.Levels.{left_half, right_half, root}
pub use Rattle.sep_parts.specs.Separates.{first_low, least_value, low_value, part_along}
unfoldable pub use Rattle.sep_parts.specs.Slots.{slots}
pub use Rattle.sep_parts.specs.Slots.{IsSlot, cues_from, drones_from, pairs_from, slot_at}
pub use Rattle.sep_parts.specs.Trees.{IsKnown, IsTree, IsValidTree, Tree, preorder, spelled_tree}
pub use Rattle.sep_parts.specs.Trees.Tree.{leaf, split}
pub use Rattle.sep_parts.specs.Versions.{IsVersion, known_in}
pub use Rattle.sep_parts.specs.declared.clearance.Clearance.{Clearance}
pub use Rattle.sep_parts.specs.declared.node.Node.{Node}
pub use Rattle.sep_parts.specs.declared.node.Node.TheVariants.{Leaf, Split}
pub use Rattle.sep_parts.specs.declared.rules.Rules.{Rules}
pub use Rattle.sep_parts.specs.declared.slot.Slot.{Slot}
pub use Rattle.traj_codec.specs.Joined.{IsLasting, own}
pub use Rattle.traj_codec.specs.Positions.{decoded, durations, points}
pub use Rattle.traj_codec.specs.declared.traj.Traj.{Traj}
unfoldable pub use Rattle.sep_certificate.specs.Certificates.{first_fault_of, spelled_fault}
pub use Rattle.sep_certificate.specs.Certificates.{AreValid, IsFaultOf, IsWhole, node_fault, rules_of, tree_fault}
unfoldable pub use Rattle.sep_certificate.specs.Steps.{first_fault}
pub use Rattle.sep_certificate.specs.Steps.{IsControl, is_spelled, is_spelled_wide, node_of_byte, wide_nodes}
unfoldable pub use Rattle.sep_certificate.specs.Texts.{is_tree_line, text_of}
pub use Rattle.sep_certificate.specs.Texts.{IsTreeLine, Says, bad_from, bad_line, bad_tree, depth_line, digit_nodes, fed, head_lines, is_depth_line, is_digit, is_letter, is_wide_leaf, letter_nodes, node_text, tree_line, two_digits, version_line}
pub use Rattle.sep_certificate.specs.declared.certificate.CertFault.{CertFault}
pub use Rattle.sep_certificate.specs.declared.certificate.CertFault.TheVariants.{Extra, Fails, Missing, TooDeep}
pub use Rattle.sep_certificate.specs.declared.certificate.Certificate.{Certificate}
