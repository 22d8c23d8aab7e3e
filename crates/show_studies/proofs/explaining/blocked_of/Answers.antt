use Rattle.show_studies.proofs.Prelude.{common_steps, arith}
use Rattle.show_judge.proofs.SlotLemmas.{part_among}
use Rattle.show_studies.proofs.explaining.blocked_of.Goals as goal

pub returns-in-Err-Blocked-clause-among : goal.returns-in-Err-Blocked-clause-among
returns-in-Err-Blocked-clause-among c = grind (arith, common_steps, part_among)
