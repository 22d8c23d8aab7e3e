use Rattle.bezier_core.proofs.Prelude.{common_steps, arith, rules, ◌≡◌, ◌*◌, ◌^◌, ℤ, sym, subst, List, length, All, at, bernstein-zero, IsBelow, part_value}
use Rattle.bezier_core.proofs.EightLemmas.{eight_from_entries, below_at}
use Rattle.bezier_core.proofs.SizeLemmas.{eight_below}
use Rattle.bezier_core.proofs.HalfLemmas.{half_below}
use Rattle.bezier_core.proofs.halves.halve_by.Goals as goal

pub next_row-requires-clause-before : goal.next_row-requires-clause-before
next_row-requires-clause-before g c = grind (arith, common_steps, bernstein-zero)

pub returns-clause-left : goal.returns-clause-left
returns-clause-left g c =
    let left_length : length c.next_row-8.new.left ≡ 8 = search rules in
    eight_from_entries c.next_row-8.new.left (part_value 1 0 (at c.args.b.now.b)) left_length (λ k small. c.next_row-8.ensures.left_half k small)

pub returns-clause-right : goal.returns-clause-right
returns-clause-right g c =
    let right_length : length c.next_row-8.new.right ≡ 8 = search rules in
    eight_from_entries c.next_row-8.new.right (part_value 1 1 (at c.args.b.now.b)) right_length (λ k small. c.next_row-8.ensures.right_half k (omega arith) (omega arith))

pub returns-clause-left_small : goal.returns-clause-left_small
returns-clause-left_small g c n some below =
    subst (λ (xs : List ℤ). All (IsBelow (2 ^ 7 * n)) xs) (sym (returns-clause-left g c))
    (eight_below (2 ^ 7 * n) (part_value 1 0 (at c.args.b.now.b))
    (λ k few. half_below 0 n k (at c.args.b.now.b) (omega arith) some few (λ i low. below_at n c.args.b.now.b i some below)))

pub returns-clause-right_small : goal.returns-clause-right_small
returns-clause-right_small g c n some below =
    subst (λ (xs : List ℤ). All (IsBelow (2 ^ 7 * n)) xs) (sym (returns-clause-right g c))
    (eight_below (2 ^ 7 * n) (part_value 1 1 (at c.args.b.now.b))
    (λ k few. half_below 1 n k (at c.args.b.now.b) (omega arith) some few (λ i low. below_at n c.args.b.now.b i some below)))
