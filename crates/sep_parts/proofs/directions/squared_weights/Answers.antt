use Rattle.sep_parts.proofs.Prelude.{ℕ, ℤ, List, All, lit<, to_z-of_z, w128, at, IsBelow, below_at}
use Rattle.sep_parts.proofs.Entries.{square_kept, squares_told}
use Rattle.sep_parts.proofs.Limits.{weight_fits, weight_kept}
use Rattle.sep_parts.proofs.directions.squared_weights.Goals as goal

-- a weight is small
weight : (w : List ℤ) (i : ℕ) → All (IsBelow 4001) w → IsBelow 4001 (at w i)
weight w i small = below_at 4001 w i (lit< tt) small

pub squared-requires : goal.squared-requires
squared-requires c = weight_kept _ (weight c.args.w 0 c.requires)

pub squared-requires-2 : goal.squared-requires-2
squared-requires-2 c = weight_kept _ (weight c.args.w 1 c.requires)

pub squared-requires-3 : goal.squared-requires-3
squared-requires-3 c = weight_kept _ (weight c.args.w 2 c.requires)

pub sum-requires-clause-x : goal.sum-requires-clause-x
sum-requires-clause-x c = square_kept c.squared.result c.squared.ensures.small

pub sum-requires-clause-y : goal.sum-requires-clause-y
sum-requires-clause-y c = square_kept c.squared-2.result c.squared-2.ensures.small

pub sum-requires-clause-z : goal.sum-requires-clause-z
sum-requires-clause-z c = square_kept c.squared-3.result c.squared-3.ensures.small

pub returns-clause-exact : goal.returns-clause-exact
returns-clause-exact c =
    let w = c.args.w in
    squares_told w _ _ _ _ _ _ _
    (to_z-of_z w128 (at w 0) (weight_fits _ (weight w 0 c.requires)))
    (to_z-of_z w128 (at w 1) (weight_fits _ (weight w 1 c.requires)))
    (to_z-of_z w128 (at w 2) (weight_fits _ (weight w 2 c.requires)))
    c.squared.ensures.small c.squared-2.ensures.small c.squared-3.ensures.small
    c.squared.ensures.exact c.squared-2.ensures.exact c.squared-3.ensures.exact
    c.sum.ensures.exact c.sum.ensures.positive c.sum.ensures.small
