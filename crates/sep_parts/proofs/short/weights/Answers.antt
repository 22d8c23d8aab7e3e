use Rattle.sep_parts.proofs.Prelude.{common_steps, rules, arith, pos, FitsSigned, to_z-of_z, w64, IsBelow}
use Rattle.fleet_curves.proofs.Small.{three}
use Rattle.sep_parts.proofs.NarrowLemmas.{narrow_kept}
use Rattle.sep_parts.proofs.Entries.{entry_fits, entry_small, told_three}
use Rattle.sep_parts.proofs.short.weights.Goals as goal

pub weight-requires-clause-entry : goal.weight-requires-clause-entry
weight-requires-clause-entry c = entry_small c.args.n 0 c.requires.entries (omega arith)

pub weight-requires-2-clause-entry : goal.weight-requires-2-clause-entry
weight-requires-2-clause-entry c = entry_small c.args.n 1 c.requires.entries (omega arith)

pub weight-requires-3-clause-entry : goal.weight-requires-3-clause-entry
weight-requires-3-clause-entry c = entry_small c.args.n 2 c.requires.entries (omega arith)

pub returns-clause-exact : goal.returns-clause-exact
returns-clause-exact c = grind (arith, common_steps, pos, entry_fits, told_three, to_z-of_z)

pub returns-clause-small : goal.returns-clause-small
returns-clause-small c =
    let x_fits : FitsSigned w64 c.weight.result = search rules in
    let y_fits : FitsSigned w64 c.weight-2.result = search rules in
    let z_fits : FitsSigned w64 c.weight-3.result = search rules in
    three (IsBelow 4001) _ _ _ (narrow_kept 4001 c.weight.result x_fits c.weight.ensures.small)
    (narrow_kept 4001 c.weight-2.result y_fits c.weight-2.ensures.small) (narrow_kept 4001 c.weight-3.result z_fits c.weight-3.ensures.small)
