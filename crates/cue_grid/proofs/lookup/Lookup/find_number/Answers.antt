use Rattle.cue_grid.proofs.Prelude.{◌∙◌}
use Rattle.cue_grid.proofs.Numbering.{place_is}
use Rattle.cue_grid.proofs.lookup.Lookup.find_number.Goals as goal

pub returns : goal.returns
returns c = c.get_index_of.ensures.index ∙ place_is c.args.self.now.names.keys c.args.name.now
