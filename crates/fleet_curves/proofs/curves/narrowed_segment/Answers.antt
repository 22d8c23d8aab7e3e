use Rattle.fleet_curves.proofs.Prelude.{common_steps, ap, length, List, arith, to_z-of_z, Bez}
use Rattle.fleet_curves.proofs.Differences.{same_curves}
use Rattle.fleet_curves.proofs.Small.{three, wider}
use Rattle.fleet_curves.proofs.Rows.{small_among, three_curves}
use Rattle.fleet_curves.proofs.curves.narrowed_segment.Goals as goal

pub narrowed-requires : goal.narrowed-requires
narrowed-requires c = wider _ (small_among c.raised_segment.result 0 (omega (arith, ap (λ (xs : List (Bez 8)). length xs) c.raised_segment.ensures.exact)) c.raised_segment.ensures.small)

pub narrowed-requires-2 : goal.narrowed-requires-2
narrowed-requires-2 c = wider _ (small_among c.raised_segment.result 1 (omega (arith, ap (λ (xs : List (Bez 8)). length xs) c.raised_segment.ensures.exact)) c.raised_segment.ensures.small)

pub narrowed-requires-3 : goal.narrowed-requires-3
narrowed-requires-3 c = wider _ (small_among c.raised_segment.result 2 (omega (arith, ap (λ (xs : List (Bez 8)). length xs) c.raised_segment.ensures.exact)) c.raised_segment.ensures.small)

pub returns-clause-exact : goal.returns-clause-exact
returns-clause-exact c = grind (arith, common_steps, same_curves, three_curves, to_z-of_z)

pub returns-clause-small : goal.returns-clause-small
returns-clause-small c = grind (arith, common_steps, three, small_among)
