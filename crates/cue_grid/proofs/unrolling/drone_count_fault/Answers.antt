use Rattle.cue_grid.proofs.Prelude.{shown, sym, ◌∙◌}
use Rattle.cue_grid.proofs.FirstFault.{few_drones}
use Rattle.cue_grid.proofs.unrolling.drone_count_fault.Goals as goal

pub returns-else-drones-gt-MOST_DRONES : goal.returns-else-drones-gt-MOST_DRONES
returns-else-drones-gt-MOST_DRONES c = few_drones (shown c.args.show.now) _ c.as_slice-drones.ensures (sym c.is_empty.ensures ∙ c.if-is_empty.false) c.if-drones-gt-MOST_DRONES.false
