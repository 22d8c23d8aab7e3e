use Rattle.traj_codec.proofs.SpellingLemmas.{spelling_is_one}
use Rattle.traj_codec.proofs.law.spelling_law.Goals as goal

pub returns : goal.returns
returns c = spelling_is_one
