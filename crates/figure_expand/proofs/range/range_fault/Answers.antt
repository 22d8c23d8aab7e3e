use Rattle.figure_expand.proofs.Prelude.{common_steps, ◌≡◌, Some, sym, ap, ◌∙◌, subst, arith, AreInReach, start_points}
use Rattle.figure_expand.proofs.Reach.{starts_in_reach, length-start_points}
use Rattle.figure_expand.proofs.Unfit.{starts_unfit, cues_unfit}
use Rattle.figure_expand.proofs.Axes.{fault_axis}
use Rattle.figure_expand.proofs.range.range_fault.Goals as goal

pub returns-in-Some-clause-first : goal.returns-in-Some-clause-first
returns-in-Some-clause-first c = starts_unfit c.args.grid.now c.as_slice-starts.result.now c.in-Some.fault c.as_slice-starts.ensures c.in-Some.ensures

pub cues_fault-requires-clause-points : goal.cues_fault-requires-clause-points
cues_fault-requires-clause-points c =
    let points : c.as_mut_slice.result.now ≡ start_points c.args.grid.now.starts = c.as_mut_slice.ensures.value ∙ c.in_ok-points.ensures ∙ ap start_points c.as_slice-starts.ensures in
    subst (AreInReach 0) (sym points) (starts_in_reach c.args.grid.now.starts c.requires.starts)

pub cues_fault-requires-clause-cues : goal.cues_fault-requires-clause-cues
cues_fault-requires-clause-cues c = grind (arith, common_steps, length-start_points)

pub returns-clause-first : goal.returns-clause-first
returns-clause-first c =
    let points : c.as_mut_slice.result.now ≡ start_points c.args.grid.now.starts = c.as_mut_slice.ensures.value ∙ c.in_ok-points.ensures ∙ ap start_points c.as_slice-starts.ensures in
    c.cues_fault.ensures ∙ cues_unfit c.args.grid.now c.as_slice-starts.result.now c.as_mut_slice.result.now c.as_slice.result.now c.as_slice-starts.ensures (sym c.starts_fault.ensures ∙ c.in_default.is) points c.as_slice.ensures

pub returns-in-Some-clause-axis : goal.returns-in-Some-clause-axis
returns-in-Some-clause-axis c = fault_axis c.args.grid.now (Some c.in-Some.fault) (returns-in-Some-clause-first c)

pub returns-clause-axis : goal.returns-clause-axis
returns-clause-axis c = fault_axis c.args.grid.now c.cues_fault.result (returns-clause-first c)
