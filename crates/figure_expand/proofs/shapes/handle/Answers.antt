use Rattle.figure_expand.proofs.Prelude.{arith, ints, pos, sym, ap, subst, to_z, of_z, to_z-of_z, w64, ◌≡◌, ◌^◌, ◌+ℤ◌, ◌*ℤ◌, ℤ, IsUpTo, handle}
use Rattle.figure_expand.proofs.Eased.{floor_of_million, million_told, product_fits, share_small, sum_fits, sum_told}
use Rattle.figure_expand.proofs.shapes.handle.Goals as goal

-- a handle is no longer than its coordinate
handle_small : (s : ℤ) → IsUpTo (2 ^ 41) s → IsUpTo (2 ^ 41) (handle s)
handle_small s small =
    let floor = floor_of_million ((pos 552285 *ℤ s) +ℤ pos 500000) in
    (omega (arith, ints, small.0, floor.0, floor.1), omega (arith, ints, small.1, floor.0, floor.1))

-- the sum that is divided, as the program holds it
sum : (s : ℤ) → IsUpTo (2 ^ 41) s → to_z w64 (of_z w64 s) ≡ s
    → to_z w64 (of_z w64 (pos 552285 *ℤ to_z w64 (of_z w64 s))) +ℤ pos 500000 ≡ (pos 552285 *ℤ s) +ℤ pos 500000
sum s small is = sum_told _ (pos 552285 *ℤ s) 500000 (ap (λ (z : ℤ). pos 552285 *ℤ z) is) (share_small 552285 s (omega arith) small)

pub overflow_mul-s : goal.overflow_mul-s
overflow_mul-s c = rw (to_z-of_z w64 c.args.s c.ranges.s) (product_fits _ (share_small 552285 c.args.s (omega arith) c.requires))

pub overflow_add-s : goal.overflow_add-s
overflow_add-s c =
    rw (sum c.args.s c.requires (to_z-of_z w64 c.args.s c.ranges.s)) (sum_fits _ 500000 (share_small 552285 c.args.s (omega arith) c.requires) (omega arith))

pub div_euclid-requires-clause-no_overflow : goal.div_euclid-requires-clause-no_overflow
div_euclid-requires-clause-no_overflow c = λ same _. absurd (omega (arith, same))

pub returns-clause-value : goal.returns-clause-value
returns-clause-value c =
    million_told c.div_euclid.result _ (pos 552285 *ℤ c.args.s) (share_small 552285 c.args.s (omega arith) c.requires)
    (sum c.args.s c.requires (to_z-of_z w64 c.args.s c.ranges.s)) c.div_euclid.ensures

pub returns-clause-small : goal.returns-clause-small
returns-clause-small c = subst (IsUpTo (2 ^ 41)) (sym (returns-clause-value c)) (handle_small c.args.s c.requires)
