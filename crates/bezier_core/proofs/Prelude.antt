-- What the proofs of this crate cite from elsewhere, passed on from one place. Declares nothing.
pub use Rattle.std.proofs.Common.{All, FitsSigned, List, [], ap, arith, below_more, get_or, get_or-set_other, get_or-set_same, inl, inr, length, lit<, neg_ℤ, negsuc, of_z, pos, refl, rules, set, subst, suc, sym, to_z, unsigned_abs, zero, zero-add, ℕ, ℤ, ◌%◌, ◌*ℤ◌, ◌*◌, ◌+ℤ◌, ◌+◌, ◌-ℤ◌, ◌-◌, ◌/◌, ◌<ℤ◌, ◌<◌, ◌^◌, ◌∙◌, ◌∷◌, ◌≡◌, ◌≢◌, ◌≤ℤ◌, ◌≤◌}
pub use Rattle.std.proofs.Math.ListN.{length-set}
pub use Rattle.std.proofs.Math.Nat.{mul-le-mul_right, mul_assoc, pow-le-pow_right, pow-suc}
pub use Rattle.std.proofs.lemmas.Grind.{common_steps}
pub use Rattle.std.proofs.lemmas.Int.{ints, to_z-of_z, to_z_pos, unsigned_abs-mul}
pub use Rattle.std.proofs.lemmas.List.Elements.{All-from_get_or, All-get_or}
pub use Rattle.std.proofs.lemmas.Nat.{mul-le, pow-add}
pub use Rattle.whole_numbers.proofs.BernsteinLemmas.{bernstein-add, bernstein-at_end, bernstein-at_least, bernstein-at_zero, bernstein-mix, bernstein-raised_once, bernstein-same, bernstein-scale, bernstein-step, bernstein-suc, bernstein-zero, by_lt, choose_above, raised_once}
pub use Rattle.whole_numbers.proofs.RingLemmas.{add_mul_ℤ, le_mul_ℤ, linear, mul_add_ℤ, mul_assoc_ℤ, mul_comm_ℤ, mul_left_comm_ℤ, mul_neg_ℤ, mul_zero_ℤ, neg_mul_ℤ, one_mul_ℤ, ring, zero_mul_ℤ}
pub use Rattle.whole_numbers.proofs.SumLemmas.{power-add, power-mul}
pub use Rattle.whole_numbers.specs.Bernstein.{at, bern, choose}
unfoldable pub use Rattle.whole_numbers.specs.Bernstein.{bernstein}
pub use Rattle.whole_numbers.specs.Numbers.{IsBelow}
pub use Rattle.whole_numbers.specs.Sums.{power, sum_below}
pub use mir.Syntax.{w128, w64}
pub use Rattle.bezier_core.specs.Along.{along_value, controls}
pub use Rattle.bezier_core.specs.Raised.{eight, fact, raised}
unfoldable pub use Rattle.bezier_core.specs.Raised.{raised_value}
pub use Rattle.bezier_core.specs.Steps.{FitsTimes, HasRoom, IsWithin}
pub use Rattle.bezier_core.specs.declared.Bez.{Bez}
pub use Rattle.bezier_core.specs.Part.{halved_along, part_value}
unfoldable pub use Rattle.bezier_core.specs.Part.{polar}
pub use Rattle.bezier_core.specs.HalvingSteps.{IsWord}
