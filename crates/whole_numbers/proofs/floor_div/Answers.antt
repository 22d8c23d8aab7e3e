use Rattle.whole_numbers.proofs.Prelude.{arith, ◌≡◌, ◌∙◌, ap, sym, subst, ℤ, pos, ◌-ℤ◌, ◌*ℤ◌, ◌<ℤ◌, ◌≤ℤ◌, FitsSigned, to_z, of_z, int_div, int_rem, ints, quot_is, rem_is, quot_fits, to_z-of_z, true, false, lt_z, w128}
use Rattle.whole_numbers.proofs.DivisionLemmas.{floor_below, floor_below_negative, floor_greatest, floor_greatest_negative, fits_less}
use Rattle.whole_numbers.proofs.floor_div.Goals as goal

-- what the code's quotient is
quotient : (a b : ℤ) → FitsSigned w128 a → FitsSigned w128 b → pos 0 <ℤ b → to_z w128 (of_z w128 (int_div (to_z w128 (of_z w128 a)) (to_z w128 (of_z w128 b)))) ≡ int_div a b
quotient a b fa fb positive = quot_is w128 a b fa fb (quot_fits w128 a b fa positive)

less : (a b q : ℤ) → FitsSigned w128 a → pos 0 <ℤ b → int_rem a b <ℤ pos 0 → q ≡ int_div a b → to_z w128 (of_z w128 (q -ℤ pos 1)) ≡ int_div a b -ℤ pos 1
less a b q fa positive negative e = ap (λ (z : ℤ). to_z w128 (of_z w128 (z -ℤ pos 1))) e ∙ to_z-of_z w128 (int_div a b -ℤ pos 1) (fits_less a b fa positive negative)

below_zero : (a b : ℤ) → FitsSigned w128 a → FitsSigned w128 b → pos 0 <ℤ b →
    lt_z (to_z w128 (of_z w128 (int_rem (to_z w128 (of_z w128 a)) (to_z w128 (of_z w128 b))))) (pos 0) ≡ true → int_rem a b <ℤ pos 0
below_zero a b fa fb positive test = omega (arith, ints, sym (ap (λ (z : ℤ). lt_z z (pos 0)) (rem_is w128 a b fa fb)) ∙ test)

not_below_zero : (a b : ℤ) → FitsSigned w128 a → FitsSigned w128 b → pos 0 <ℤ b →
    lt_z (to_z w128 (of_z w128 (int_rem (to_z w128 (of_z w128 a)) (to_z w128 (of_z w128 b))))) (pos 0) ≡ false → pos 0 ≤ℤ int_rem a b
not_below_zero a b fa fb positive test = omega (arith, ints, sym (ap (λ (z : ℤ). lt_z z (pos 0)) (rem_is w128 a b fa fb)) ∙ test)

pub returns-then-a-b-lt0-clause-below : goal.returns-then-a-b-lt0-clause-below
returns-then-a-b-lt0-clause-below c =
    let negative : int_rem c.args.a c.args.b <ℤ pos 0 = below_zero _ _ c.ranges.a c.ranges.b c.requires c.if-a-b-lt0.true in
    subst (λ (z : ℤ). (z *ℤ c.args.b) ≤ℤ c.args.a) (sym (less _ _ _ c.ranges.a c.requires negative (quotient _ _ c.ranges.a c.ranges.b c.requires)))
    (floor_below_negative c.args.a c.args.b c.requires negative)

pub returns-then-a-b-lt0-clause-greatest : goal.returns-then-a-b-lt0-clause-greatest
returns-then-a-b-lt0-clause-greatest c q below =
    let negative : int_rem c.args.a c.args.b <ℤ pos 0 = below_zero _ _ c.ranges.a c.ranges.b c.requires c.if-a-b-lt0.true in
    subst (λ (z : ℤ). q ≤ℤ z) (sym (less _ _ _ c.ranges.a c.requires negative (quotient _ _ c.ranges.a c.ranges.b c.requires)))
    (floor_greatest_negative c.args.a c.args.b c.requires negative q below)

pub returns-else-a-b-lt0-clause-below : goal.returns-else-a-b-lt0-clause-below
returns-else-a-b-lt0-clause-below c =
    subst (λ (z : ℤ). (z *ℤ c.args.b) ≤ℤ c.args.a) (sym (quotient _ _ c.ranges.a c.ranges.b c.requires))
    (floor_below c.args.a c.args.b c.requires (not_below_zero _ _ c.ranges.a c.ranges.b c.requires c.if-a-b-lt0.false))

pub returns-else-a-b-lt0-clause-greatest : goal.returns-else-a-b-lt0-clause-greatest
returns-else-a-b-lt0-clause-greatest c q below =
    subst (λ (z : ℤ). q ≤ℤ z) (sym (quotient _ _ c.ranges.a c.ranges.b c.requires))
    (floor_greatest c.args.a c.args.b c.requires (not_below_zero _ _ c.ranges.a c.ranges.b c.requires c.if-a-b-lt0.false) q below)
