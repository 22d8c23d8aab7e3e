use Rattle.bezier_core.proofs.Prelude.{common_steps, arith, ◌*◌, ◌^◌, ℕ, ℤ, ◌-ℤ◌, sym, subst, List, All, FitsSigned, to_z, of_z, lit<, ints, w128, at, IsBelow}
use Rattle.bezier_core.proofs.EightLemmas.{same_eight, below_at, difference}
use Rattle.bezier_core.proofs.SizeLemmas.{eight_below, difference_below}
use Rattle.bezier_core.proofs.Bez+8.minus.Goals as goal

-- a difference of two entries, as the code makes it, fits
fits : (xs ys : List ℤ) (k : ℕ) → All (IsBelow (2 ^ 125)) xs → All (IsBelow (2 ^ 125)) ys →
    FitsSigned w128 (to_z w128 (of_z w128 (at xs k)) -ℤ to_z w128 (of_z w128 (at ys k)))
fits xs ys k first second = grind (arith, common_steps, ints, below_at, lit<)

pub returns-clause-exact : goal.returns-clause-exact
returns-clause-exact c = same_eight _ _ (λ k small. difference c.args.self.now.b c.args.other.now.b k c.requires.own c.requires.others)

pub returns-clause-small : goal.returns-clause-small
returns-clause-small c n some own others =
    subst (λ (xs : List ℤ). All (IsBelow (2 * n)) xs) (sym (returns-clause-exact c))
    (eight_below (2 * n) (λ k. at c.args.self.now.b k -ℤ at c.args.other.now.b k)
    (λ k few. difference_below n k c.args.self.now.b c.args.other.now.b some own others))

pub overflow_sub-result : goal.overflow_sub-result
overflow_sub-result c = fits c.args.self.now.b c.args.other.now.b 0 c.requires.own c.requires.others

pub overflow_sub-result-2 : goal.overflow_sub-result-2
overflow_sub-result-2 c = fits c.args.self.now.b c.args.other.now.b 1 c.requires.own c.requires.others

pub overflow_sub-result-3 : goal.overflow_sub-result-3
overflow_sub-result-3 c = fits c.args.self.now.b c.args.other.now.b 2 c.requires.own c.requires.others

pub overflow_sub-result-4 : goal.overflow_sub-result-4
overflow_sub-result-4 c = fits c.args.self.now.b c.args.other.now.b 3 c.requires.own c.requires.others

pub overflow_sub-result-5 : goal.overflow_sub-result-5
overflow_sub-result-5 c = fits c.args.self.now.b c.args.other.now.b 4 c.requires.own c.requires.others

pub overflow_sub-result-6 : goal.overflow_sub-result-6
overflow_sub-result-6 c = fits c.args.self.now.b c.args.other.now.b 5 c.requires.own c.requires.others

pub overflow_sub-result-7 : goal.overflow_sub-result-7
overflow_sub-result-7 c = fits c.args.self.now.b c.args.other.now.b 6 c.requires.own c.requires.others

pub overflow_sub-result-8 : goal.overflow_sub-result-8
overflow_sub-result-8 c = fits c.args.self.now.b c.args.other.now.b 7 c.requires.own c.requires.others
