use Rattle.cue_grid.proofs.Prelude.{shown, place_names}
use Rattle.cue_grid.proofs.Marking.{one_other, one_marked, form_marked}
use Rattle.cue_grid.proofs.acted.put_acted.Goals as goal

pub returns-in_ok-insert-in-None : goal.returns-in_ok-insert-in-None
returns-in_ok-insert-in-None c names a = one_other (place_names c.args.show.now) _ _ _ names (shown c.args.show.now).formations _ _ c.in-One.name _ _ _ c.in-One.is c.find_number.ensures c.in-None.is c.in_ok-insert-in-None.ensures.keys c.copy_of.ensures a

pub returns-in-Some : goal.returns-in-Some
returns-in-Some c names a = one_marked (place_names c.args.show.now) _ _ _ names (shown c.args.show.now).formations _ _ c.in-One.name _ _ _ c.in-One.is c.find_number.ensures c.in-Some.is c.mark.ensures a

pub returns-in-Some-find_places : goal.returns-in-Some-find_places
returns-in-Some-find_places c names a = form_marked (place_names c.args.show.now) _ _ _ names (shown c.args.show.now).formations _ _ c.in-Form.formation _ _ c.in-Form.is c.in-Some-find_places.ensures c.mark_each.ensures a
