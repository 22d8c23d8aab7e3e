use Rattle.show_judge.proofs.Prelude.{common_steps, arith}
use Rattle.show_judge.proofs.SlotLemmas.{part_among}
use Rattle.show_judge.proofs.refusing.unseparated.Goals as goal

pub pair_at-requires-clause-a : goal.pair_at-requires-clause-a
pair_at-requires-clause-a c = grind (arith, common_steps, part_among)

pub pair_at-requires-clause-b : goal.pair_at-requires-clause-b
pair_at-requires-clause-b c = grind (arith, common_steps, part_among)
