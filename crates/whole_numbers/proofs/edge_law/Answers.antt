use Rattle.whole_numbers.proofs.Prelude.{arith, ◌≡◌, ◌+◌, suc}
use Rattle.whole_numbers.proofs.EdgeLemmas.{moment-edge, edge-same}
use Rattle.whole_numbers.proofs.edge_law.Goals as goal

pub returns-clause-belongs : goal.returns-clause-belongs
returns-clause-belongs c pieces cue q all inside some = moment-edge pieces cue q all inside some

pub returns-clause-same : goal.returns-clause-same
returns-clause-same c start pieces cue q all inside =
    let next : cue + 1 ≡ suc cue = omega arith in
    rw next (edge-same start pieces cue q all (omega arith))
