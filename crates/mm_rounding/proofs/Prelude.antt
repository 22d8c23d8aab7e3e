-- What the proofs of this crate cite from elsewhere, passed on from one place. Declares nothing.
pub use Rattle.std.proofs.Common.{Bool, FitsSigned, List, None, Some, [], ap, arith, cond, false, get_or, if◌then◌else◌, length, map, nat_le, neg_ℤ, negsuc, pos, refl, rules, set, subst, suc, sym, take, true, zero, ℕ, ℤ, ◌&&◌, ◌*ℤ◌, ◌+ℤ◌, ◌+◌, ◌-ℤ◌, ◌-◌, ◌<ℤ◌, ◌<◌, ◌∙◌, ◌∷◌, ◌≡◌, ◌≤ℤ◌, ◌≤◌}
pub use Rattle.std.proofs.lemmas.Int.{ints, to_z-of_z}
pub use Rattle.std.proofs.lemmas.List.{get_or-map, length-map, length-set, take_all}
pub use Rattle.std.specs.List.{All, list_all}
pub use Rattle.whole_numbers.proofs.BernsteinLemmas.{bernstein-at_least, bernstein-mix, bernstein-same, bernstein-suc, bernstein-zero, by_lt, cong_add}
pub use Rattle.whole_numbers.specs.Bernstein.{at, bern, bernstein}
pub use Rattle.whole_numbers.specs.Near.{IsNear}
pub use Rattle.traj_codec.specs.declared.traj.Element.TheVariants.{Constant, Cubic, Linear, Seven}
pub use mir.Syntax.{w16, w64}
pub use Rattle.mm_rounding.specs.Near.{EndsThere, IsAxis, IsPiece, KeepsEqual, KeepsNear, StaysNear, last_control, position}
pub use Rattle.mm_rounding.specs.Rounding.{after_first, all_equal, axis_on, controls, counted, element_of, first_control, fits, fitted, is_short, millimetres, rounded, segment_of, short, shorts}
pub use Rattle.mm_rounding.specs.Steps.{axis_in, number_in}
