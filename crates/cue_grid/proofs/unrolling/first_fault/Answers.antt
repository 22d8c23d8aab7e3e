use Rattle.cue_grid.proofs.Prelude.{shown}
use Rattle.cue_grid.proofs.FirstFault.{name_fault_by, count_fault_by}
use Rattle.cue_grid.proofs.unrolling.first_fault.Goals as goal

pub returns-in-Some-2 : goal.returns-in-Some-2
returns-in-Some-2 c = name_fault_by (shown c.args.show.now) c.requires _ _ _ c.drone_count_fault.ensures c.in_default.is c.in_ok-fault.ensures c.in-Some-2.is

pub returns : goal.returns
returns c = count_fault_by (shown c.args.show.now) c.requires _ _ _ c.drone_count_fault.ensures c.in_default.is c.in_ok-fault.ensures c.in_default-2.is c.cue_count_fault.ensures
