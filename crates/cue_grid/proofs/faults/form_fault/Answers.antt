use Rattle.cue_grid.proofs.Prelude.{true, false, formation_named, shown, place_names}
use Rattle.cue_grid.proofs.Marking.{form_is}
use Rattle.cue_grid.proofs.faults.form_fault.Goals as goal

pub returns-then-has_some_acted : goal.returns-then-has_some_acted
returns-then-has_some_acted c names a = form_is (place_names c.args.show.now) _ _ names c.args.line (formation_named (shown c.args.show.now).formations c.args.formation.now) c.in-Some.numbers.now _ true c.in-Some.ensures c.has_some_acted.ensures c.if-has_some_acted.true a

pub returns-else-has_some_acted : goal.returns-else-has_some_acted
returns-else-has_some_acted c names a = form_is (place_names c.args.show.now) _ _ names c.args.line (formation_named (shown c.args.show.now).formations c.args.formation.now) c.in-Some.numbers.now _ false c.in-Some.ensures c.has_some_acted.ensures c.if-has_some_acted.false a
