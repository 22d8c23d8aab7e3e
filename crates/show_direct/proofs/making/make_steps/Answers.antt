use Rattle.show_direct.proofs.Prelude.{refl, Ways}
use Rattle.show_direct.proofs.MakingLemmas.{are_fitted, steps_fitted}
use Rattle.show_direct.proofs.making.make_steps.Goals as goal

pub steps_of-requires : goal.steps_of-requires
steps_of-requires c =
    are_fitted c.args.up.now c.args.show.now c.args.down.now _ _ c.requires.up c.requires.show c.requires.down c.crew_of.ensures.names c.crew_of-2.ensures.names c.crew_of-3.ensures.names
    c.as_slice.ensures c.as_slice-2.ensures c.as_slice-3.ensures refl

pub returns-clause-made : goal.returns-clause-made
returns-clause-made c = λ rise middle return is_up is_show is_down.
    let ways : Ways = record {
      up = c.as_slice.result;
      show = c.as_slice-2.result;
      down = c.as_slice-3.result;
      show_ms = c.args.show.now.duration;
      stray = c.args.up.now.settings.stray;
      near = c.args.options.now.near;
      at_place = c.args.options.now.at_place;
    } in
    steps_fitted c.args.options.now c.args.up.now c.args.show.now c.args.down.now rise middle return _ ways c.steps_of.result is_up is_show is_down
    (record { names = c.crew_of.ensures.names; ellipsoid = c.crew_of.ensures.ellipsoid }) (record { names = c.crew_of-2.ensures.names; ellipsoid = c.crew_of-2.ensures.ellipsoid })
    (record { names = c.crew_of-3.ensures.names; ellipsoid = c.crew_of-3.ensures.ellipsoid })
    c.as_slice.ensures c.as_slice-2.ensures c.as_slice-3.ensures refl refl refl c.steps_of.ensures
