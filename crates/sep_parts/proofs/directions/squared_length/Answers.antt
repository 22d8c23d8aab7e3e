use Rattle.sep_parts.proofs.Prelude.{arith, get_or, pos, to_z-of_z, w8}
use Rattle.sep_parts.proofs.Entries.{entry_fits, high_kept, low_kept, square_kept, squares_told}
use Rattle.sep_parts.proofs.directions.squared_length.Goals as goal

pub squared_entry-requires-clause-low : goal.squared_entry-requires-clause-low
squared_entry-requires-clause-low c = low_kept c.args.n 0 c.requires (omega arith)

pub squared_entry-requires-clause-high : goal.squared_entry-requires-clause-high
squared_entry-requires-clause-high c = high_kept c.args.n 0 c.requires (omega arith)

pub squared_entry-requires-2-clause-low : goal.squared_entry-requires-2-clause-low
squared_entry-requires-2-clause-low c = low_kept c.args.n 1 c.requires (omega arith)

pub squared_entry-requires-2-clause-high : goal.squared_entry-requires-2-clause-high
squared_entry-requires-2-clause-high c = high_kept c.args.n 1 c.requires (omega arith)

pub squared_entry-requires-3-clause-low : goal.squared_entry-requires-3-clause-low
squared_entry-requires-3-clause-low c = low_kept c.args.n 2 c.requires (omega arith)

pub squared_entry-requires-3-clause-high : goal.squared_entry-requires-3-clause-high
squared_entry-requires-3-clause-high c = high_kept c.args.n 2 c.requires (omega arith)

pub sum-requires-clause-x : goal.sum-requires-clause-x
sum-requires-clause-x c = square_kept c.squared_entry.result c.squared_entry.ensures.small

pub sum-requires-clause-y : goal.sum-requires-clause-y
sum-requires-clause-y c = square_kept c.squared_entry-2.result c.squared_entry-2.ensures.small

pub sum-requires-clause-z : goal.sum-requires-clause-z
sum-requires-clause-z c = square_kept c.squared_entry-3.result c.squared_entry-3.ensures.small

pub returns-clause-exact : goal.returns-clause-exact
returns-clause-exact c =
    let n = c.args.n in
    squares_told n _ _ _ _ _ _ _
    (to_z-of_z w8 (get_or n 0 (pos 0)) (entry_fits n 0 c.requires (omega arith)))
    (to_z-of_z w8 (get_or n 1 (pos 0)) (entry_fits n 1 c.requires (omega arith)))
    (to_z-of_z w8 (get_or n 2 (pos 0)) (entry_fits n 2 c.requires (omega arith)))
    c.squared_entry.ensures.small c.squared_entry-2.ensures.small c.squared_entry-3.ensures.small
    c.squared_entry.ensures.exact c.squared_entry-2.ensures.exact c.squared_entry-3.ensures.exact
    c.sum.ensures.exact c.sum.ensures.positive c.sum.ensures.small
