-- What the proofs of this crate cite from elsewhere, passed on from one place. Declares nothing.
pub use Rattle.std.proofs.Common.{All, Bool, FitsSigned, IsTrue, List, None, Option, Some, [], ap, append-nil, append_assoc, arith, cond, drop, false, get_or, inl, inr, int_le, int_lt, is_none, length, lit<, map, nat_le, nat_lt, neg_ℤ, negsuc, not, of_z, pos, refl, rules, slice_get, subst, suc, sym, take, tests, to_z, true, unsigned_abs, zero, ℕ, ℤ, ◌%◌, ◌&&◌, ◌*ℤ◌, ◌*◌, ◌++◌, ◌+ℤ◌, ◌+◌, ◌-ℤ◌, ◌-◌, ◌<ℤ◌, ◌<◌, ◌^◌, ◌↔◌, ◌∙◌, ◌∷◌, ◌≡◌, ◌≤ℤ◌, ◌≤◌, ◌⊎◌}
pub use Rattle.std.proofs.Math.Nat.{pow-le-pow_right, pow-suc}
pub use Rattle.std.proofs.lemmas.Bool.Decides.{nat_tests}
pub use Rattle.std.proofs.lemmas.Grind.{common_steps}
pub use Rattle.std.proofs.lemmas.Int.{by_lt_z, ints, to_z-of_z, to_z_pos, unsigned_abs-mul}
pub use Rattle.std.proofs.lemmas.List.{drop-append-le, drop-drop, get_or-map, length-append, length-drop, length-map, take-append-le, take_all}
pub use Rattle.std.proofs.lemmas.List.Elements.{All-append, All-cons, All-from_get_or, All-get_or, All-head, All-nil, All-tail}
pub use Rattle.std.proofs.lemmas.Nat.{mul-le, pow_pos}
pub use Rattle.std.specs.List.{flat_map, list_all, position, position_or_len, sum}
pub use Rattle.bezier_core.proofs.CurveLemmas.{at-eight, linear_sum, raise}
pub use Rattle.bezier_core.proofs.EightLemmas.{below_at, controls_below, list_of_eight, same_eight}
pub use Rattle.bezier_core.specs.Along.{along_value, controls}
pub use Rattle.bezier_core.specs.Raised.{eight, raised}
pub use Rattle.bezier_core.specs.declared.Bez.{Bez}
unfoldable pub use Rattle.fleet_curves.specs.Raised.{difference}
pub use Rattle.fleet_curves.specs.Raised.{AreRaised, Raised, curves_at, curves_of, less, raised_in}
pub use Rattle.whole_numbers.proofs.BernsteinLemmas.{bernstein-at_least, bernstein-mix, bernstein-same, by_lt, cong_add}
pub use Rattle.whole_numbers.proofs.RingLemmas.{add_mul_ℤ, le_from_mul_ℤ, le_mul_ℤ, linear, lt_mul_ℤ, mul_add_ℤ, mul_assoc_ℤ, mul_comm_ℤ, mul_neg_ℤ, mul_not_negative, mul_positive, mul_zero_ℤ, neg_mul_ℤ, one_mul_ℤ, ring, zero_mul_ℤ}
pub use Rattle.whole_numbers.proofs.SumLemmas.{power-add, power-mul, power_positive}
pub use Rattle.whole_numbers.specs.Bernstein.{at, bernstein}
unfoldable pub use Rattle.whole_numbers.specs.Moments.{moment}
pub use Rattle.whole_numbers.specs.Moments.{Moment, moment_from}
pub use Rattle.whole_numbers.specs.Numbers.{IsBelow, IsIn}
pub use Rattle.whole_numbers.specs.Sums.{power}
pub use Rattle.bezier_core.proofs.PartBounds.{part-instant, part-within, power_seven}
pub use Rattle.bezier_core.specs.Part.{part_value}
pub use Rattle.bezier_core.specs.Places.{IsPlace}
pub use Rattle.traj_codec.specs.Joined.{IsLasting, JoinLaw, SameCurve, joined, own}
pub use Rattle.traj_codec.specs.Positions.{decoded, durations, points}
pub use Rattle.traj_codec.specs.declared.traj.Traj.{Traj}
pub use mir.Syntax.{Width, w128, w32, w64, w8}
pub use Rattle.sep_parts.specs.Apart.{ApartLaw, AreTogether, FlyApart, FlyApartExactly, MayBeAt, Point, SentLaw, ShareNoPoint, aside, between, gap, square, way}
unfoldable pub use Rattle.sep_parts.specs.Directions.{root_above}
pub use Rattle.sep_parts.specs.Directions.{AreSmall, IsAxis, IsClearance, IsLeastReaching, IsLeastRoot, IsSquare, IsStill, ThresholdLaw, direction_of, for_ellipsoids, for_reach, for_strays, length_squared, limit_along, reach_on, root_from, root_reaching, stray_limit, threshold, weights}
pub use Rattle.sep_parts.specs.Levels.{IsLevel, IsStack, left_half, right_half, root}
unfoldable pub use Rattle.sep_parts.specs.Separates.{first_low}
pub use Rattle.sep_parts.specs.Separates.{least_value, low_value, part_along}
pub use Rattle.sep_parts.specs.Steps.{AreEnds, begin_of, cut}
pub use Rattle.sep_parts.specs.Trees.{Tree, only_tree, preorder, spelled_tree, spelled_trees, split_before}
pub use Rattle.sep_parts.specs.declared.clearance.Clearance.{Clearance}
pub use Rattle.sep_parts.specs.declared.node.Node.{Node}
pub use Rattle.sep_parts.specs.declared.stack.Level.{Level}
