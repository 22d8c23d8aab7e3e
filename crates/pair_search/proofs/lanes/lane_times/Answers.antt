use Rattle.pair_search.proofs.Prelude.{◌*ℤ◌, FitsSigned, to_z-of_z, w32}
use Rattle.pair_search.proofs.LaneLemmas.{lane_fits, lane_product}
use Rattle.pair_search.proofs.lanes.lane_times.Goals as goal

pub returns-clause-exact : goal.returns-clause-exact
returns-clause-exact c =
    let fits : FitsSigned w32 (c.args.weight *ℤ c.args.value) = lane_fits _ (lane_product c.args.weight c.args.value c.requires.weight c.requires.value) in
    rw (to_z-of_z w32 c.args.weight c.ranges.weight, to_z-of_z w32 c.args.value c.ranges.value) (to_z-of_z w32 (c.args.weight *ℤ c.args.value) fits)

pub returns-clause-small : goal.returns-clause-small
returns-clause-small c = rw (returns-clause-exact c) (lane_product c.args.weight c.args.value c.requires.weight c.requires.value)
