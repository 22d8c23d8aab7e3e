use Rattle.sep_parts.proofs.Prelude.{common_steps, lit<, arith, below_at}
use Rattle.sep_parts.proofs.Limits.{weight_kept}
use Rattle.sep_parts.proofs.directions.for_reach.Goals as goal

pub way-on_x-requires : goal.way-on_x-requires
way-on_x-requires c = grind (arith, common_steps, weight_kept, below_at, lit<)

pub way-on_y-requires : goal.way-on_y-requires
way-on_y-requires c = grind (arith, common_steps, weight_kept, below_at, lit<)

pub way-on_z-requires : goal.way-on_z-requires
way-on_z-requires c = grind (arith, common_steps, weight_kept, below_at, lit<)
