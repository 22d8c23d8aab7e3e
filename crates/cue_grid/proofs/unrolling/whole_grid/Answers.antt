use Rattle.cue_grid.proofs.Prelude.{◌∙◌, shown}
use Rattle.cue_grid.proofs.Distinct.{names_apart}
use Rattle.cue_grid.proofs.Fits.{grid_by}
use Rattle.cue_grid.proofs.unrolling.whole_grid.Goals as goal

pub cues_of-requires : goal.cues_of-requires
cues_of-requires c = names_apart (shown c.args.show.now) c.requires

pub returns : goal.returns
returns c =
    grid_by (shown c.args.show.now) _ _ (c.from_vec.ensures ∙ c.in_ok-starts.ensures ∙ c.as_slice.ensures) (c.from_vec-2.ensures ∙ c.in_ok-cues.ensures)
