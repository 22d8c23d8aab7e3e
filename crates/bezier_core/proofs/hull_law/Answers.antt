use Rattle.bezier_core.proofs.Prelude.{rules, ◌≡◌, length, bernstein-at_least}
use Rattle.bezier_core.proofs.CurveLemmas.{hull}
use Rattle.bezier_core.proofs.hull_law.Goals as goal

pub returns-clause-here : goal.returns-clause-here
returns-clause-here c =
    let len : length c.args.b.now.b ≡ 8 = search rules in
    hull c.args.b.now.b c.args.low c.args.a c.args.c len c.requires.positive c.requires.within c.requires.above

pub returns-clause-everywhere : goal.returns-clause-everywhere
returns-clause-everywhere c f low a d positive within above = bernstein-at_least 7 f low a d positive within above
