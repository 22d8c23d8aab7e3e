use Rattle.sep_parts.proofs.Prelude.{rules, arith, ◌≡◌, ◌∙◌, ap, length, List, ℤ, at, eight, part_value}
use Rattle.sep_parts.proofs.Halved.{halves_set, row_small, second_row, third_row}
use Rattle.sep_parts.proofs.rows.halve_rows.Goals as goal

pub halved-requires : goal.halved-requires
halved-requires c =
    let three : length c.args.rows.now ≡ 3 = search rules in
    row_small c.args.rows.now 0 (omega (arith, three)) c.requires

pub halved-requires-2 : goal.halved-requires-2
halved-requires-2 c =
    let three : length c.args.rows.now ≡ 3 = search rules in
    rw (second_row c.args.rows.now c.halved.result.1 three) (row_small c.args.rows.now 1 (omega (arith, three)) c.requires)

pub halved-requires-3 : goal.halved-requires-3
halved-requires-3 c =
    let three : length c.args.rows.now ≡ 3 = search rules in
    rw (third_row c.args.rows.now c.halved.result.1 c.halved-2.result.1 three) (row_small c.args.rows.now 2 (omega (arith, three)) c.requires)

pub returns-clause-left : goal.returns-clause-left
returns-clause-left c =
    let three : length c.args.left.now ≡ 3 = search rules in
    let rows_three : length c.args.rows.now ≡ 3 = search rules in
    halves_set 0 c.args.rows.now c.args.left.now _ _ _ three c.halved.ensures.left
    (c.halved-2.ensures.left ∙ ap (λ (row : List ℤ). eight (part_value 1 0 (at row))) (second_row c.args.rows.now c.halved.result.1 rows_three))
    (c.halved-3.ensures.left ∙ ap (λ (row : List ℤ). eight (part_value 1 0 (at row))) (third_row c.args.rows.now c.halved.result.1 c.halved-2.result.1 rows_three))
