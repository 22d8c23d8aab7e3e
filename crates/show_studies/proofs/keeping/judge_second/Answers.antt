use Rattle.show_studies.proofs.Prelude.{common_steps, arith}
use Rattle.show_studies.proofs.RegionLemmas.{regions_give, regions_promised}
use Rattle.show_studies.proofs.keeping.judge_second.Goals as goal

pub returns-clause-gives : goal.returns-clause-gives
returns-clause-gives c = grind (arith, common_steps, regions_give)

pub returns-clause-promised : goal.returns-clause-promised
returns-clause-promised c = grind (arith, common_steps, regions_promised)
