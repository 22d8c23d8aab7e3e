use Rattle.cue_grid.proofs.Prelude.{refl, sym, ◌∙◌}
use Rattle.cue_grid.proofs.FirstFault.{few_cues}
use Rattle.cue_grid.proofs.unrolling.cue_count_fault.Goals as goal

pub returns-in-None : goal.returns-in-None
returns-in-None c = few_cues _ _ c.args.show.now.show.now.figures _ c.over_line.result c.as_slice-body.ensures.value refl (sym c.is_empty.ensures ∙ c.if-is_empty.false) c.over_line.ensures c.in-None.is
