-- What the proofs of this crate cite from elsewhere, passed on from one place. Declares nothing.
pub use Rattle.std.proofs.Common.{All, Bool, FitsSigned, List, [], ap, arith, cond, false, get_or, inl, inr, int_div, int_rem, length, lit<, nat_le, neg_ℤ, negsuc, of_z, pos, refl, subst, suc, sum, sym, to_z, true, unsigned_abs, zero, zero-add, ℕ, ℤ, ◌*ℤ◌, ◌*◌, ◌+ℤ◌, ◌+◌, ◌-ℤ◌, ◌-◌, ◌<ℤ◌, ◌<◌, ◌^◌, ◌∙◌, ◌∷◌, ◌≡◌, ◌≢◌, ◌≤ℤ◌, ◌≤◌}
pub use Rattle.std.proofs.lemmas.Bool.Decides.{nat_tests}
pub use Rattle.std.proofs.lemmas.Int.{by_lt_z, fits_signed_mul, ints, quot-rem, quot_fits, quot_is, rem_below, rem_is, to_z-of_z}
pub use Rattle.std.proofs.lemmas.List.Elements.{All-cons, All-head, All-nil, All-tail}
pub use Rattle.std.proofs.lemmas.List.Sums.{sum_by-cons}
pub use lib.Signed.{le_z, lt_z}
pub use mir.Syntax.{w128}
unfoldable pub use Rattle.whole_numbers.specs.Bernstein.{bernstein}
pub use Rattle.whole_numbers.specs.Bernstein.{at, bern, choose, weight}
unfoldable pub use Rattle.whole_numbers.specs.Decoded.{decoded}
pub use Rattle.whole_numbers.specs.Decoded.{IsPiece, IsSamePosition, Piece, durations, last_value, points}
unfoldable pub use Rattle.whole_numbers.specs.Moments.{moment}
pub use Rattle.whole_numbers.specs.Moments.{Moment, edge, moment_from, moment_in, time_before}
pub use Rattle.whole_numbers.specs.Sums.{power, sum_below}
