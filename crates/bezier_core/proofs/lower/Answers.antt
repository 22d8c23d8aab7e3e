use Rattle.bezier_core.proofs.Prelude.{common_steps, arith, pos, FitsSigned, get_or-set_other, get_or-set_same, below_more, length-set, to_z-of_z, w128}
use Rattle.bezier_core.proofs.lower.Goals as goal

pub blend-requires-clause-room : goal.blend-requires-clause-room
blend-requires-clause-room g c = grind (arith, common_steps, pos, to_z-of_z)

pub loop-i-preserved : goal.loop-i-preserved
loop-i-preserved g c = grind (arith, common_steps, pos, to_z-of_z, length-set, below_more, get_or-set_other, get_or-set_same)

pub blend-requires-clause-positive : goal.blend-requires-clause-positive
blend-requires-clause-positive g c =
    let a_fits : FitsSigned w128 c.args.a = c.ranges.a in
    simp to_z-of_z c.requires.positive

pub blend-requires-clause-within : goal.blend-requires-clause-within
blend-requires-clause-within g c = grind (arith, common_steps, to_z-of_z)

pub returns : goal.returns
returns g c = grind (arith, common_steps, to_z-of_z)
