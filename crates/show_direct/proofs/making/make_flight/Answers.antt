use Rattle.show_direct.proofs.Prelude.{w16, ◌∙◌}
use Rattle.std.proofs.lemmas.Int.{to_z-of_z}
use Rattle.show_direct.proofs.MakingLemmas.{flight_made, is_held}
use Rattle.show_direct.proofs.making.make_flight.Goals as goal

pub returns-clause-made : goal.returns-clause-made
returns-clause-made c = λ rise middle return is_up is_show is_down.
    flight_made c.args.options.now _ _ rise middle return c.args.show c.in_ok-steps.steps _ _ _
    (to_z-of_z w16 c.floor_of.result c.floor_of.ensures.fits ∙ c.floor_of.ensures.value) c.silence_of.ensures c.requires.show is_show
    (c.in_ok-steps.ensures.made rise middle return is_up is_show is_down) (c.course_of-up.ensures.value rise is_up) (c.course_of-down.ensures.value return is_down)
    (c.room_in-room.ensures rise middle return is_up is_show is_down)

pub returns-clause-held : goal.returns-clause-held
returns-clause-held c =
    is_held c.join_law.ensures.curve c.args.options.now _ _ c.args.show c.in_ok-steps.steps _ _ _ c.requires.show c.uploadable_law.ensures c.in_ok-steps.ensures.sizes
    c.course_of-up.ensures.held c.course_of-down.ensures.held
