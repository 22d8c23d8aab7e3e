use Rattle.show_direct.proofs.Prelude.{◌∙◌}
use Rattle.show_direct.proofs.MakingLemmas.{room_from, room_is}
use Rattle.show_direct.proofs.making.room_in.Goals as goal

pub returns : goal.returns
returns c = λ rise middle return is_up is_show is_down.
    c.room_of.ensures
    ∙ room_from _ c.args.up.now.settings.stray c.args.show.now.settings.stray c.args.down.now.settings.stray _ _ _ c.args.up.now.sent c.args.show.now.sent c.args.down.now.sent
    c.margin_of-margin.ensures c.as_slice.ensures c.as_slice-2.ensures c.as_slice-3.ensures
    ∙ room_is c.args.up.now c.args.show.now c.args.down.now rise middle return is_up is_show is_down
