-- What the proofs of this crate cite from elsewhere, passed on from one place. Declares nothing.
pub use Rattle.std.proofs.Common.{All, FitsSigned, List, Some, [], ap, append-nil, append_assoc, arith, below_more, drop, get_or, get_or-set_other, get_or-set_same, inl, inr, length, length-append, lit<, map, neg_ℤ, of_z, pos, refl, rules, set, slice_get, slice_set, subst, suc, sym, take, to_z, zero, ℕ, ℤ, ◌*ℤ◌, ◌*◌, ◌++◌, ◌+◌, ◌-ℤ◌, ◌-◌, ◌/◌, ◌<◌, ◌^◌, ◌∙◌, ◌∷◌, ◌≡◌, ◌≢◌, ◌≤ℤ◌, ◌≤◌}
pub use Rattle.std.proofs.lemmas.Grind.{common_steps, flat_map-append}
pub use Rattle.std.proofs.lemmas.Int.{ints, to_z-of_z}
pub use Rattle.std.proofs.lemmas.List.{get_or-append-add, length-map, map-append, take_all, take_more}
pub use Rattle.std.proofs.lemmas.List.Elements.{All-append, All-cons, All-from_get_or, All-get_or, All-head, All-tail}
pub use Rattle.std.specs.List.{flat_map}
pub use Rattle.bezier_core.proofs.CurveLemmas.{at-eight}
pub use Rattle.bezier_core.proofs.EightLemmas.{below_at, controls_below, eight_from_entries}
pub use Rattle.bezier_core.specs.Along.{controls}
unfoldable pub use Rattle.bezier_core.specs.Raised.{raised_value}
pub use Rattle.bezier_core.specs.Raised.{eight, raised}
pub use Rattle.bezier_core.specs.declared.Bez.{Bez}
pub use Rattle.whole_numbers.specs.Bernstein.{at, choose}
pub use Rattle.whole_numbers.specs.Numbers.{IsBelow}
pub use Rattle.traj_codec.specs.Positions.{durations, element_on, piece_on, points, value_after}
pub use Rattle.traj_codec.specs.Spelling.{stored}
pub use Rattle.traj_codec.specs.declared.traj.Segment.{Segment}
pub use Rattle.traj_codec.specs.declared.traj.Traj.{Traj}
pub use mir.Syntax.{w128, w16, w32}
unfoldable pub use Rattle.fleet_curves.specs.Raised.{difference, raised_of}
pub use Rattle.fleet_curves.specs.Raised.{AreOneShow, AreRaised, CurvesStandFor, Raised, cues_in, curves_at, curves_of, less, raised_element, raised_from, raised_in, raised_traj}
pub use Rattle.fleet_curves.specs.Steps.{AreHeld, AreSmallCurves, IsFormed, all_curves}
