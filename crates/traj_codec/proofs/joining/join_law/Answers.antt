use Rattle.traj_codec.proofs.JoinedLemmas.{join_holds_law}
use Rattle.traj_codec.proofs.GroupLemmas.{group_law}
use Rattle.traj_codec.proofs.joining.join_law.Goals as goal

pub returns-clause-curve : goal.returns-clause-curve
returns-clause-curve c = join_holds_law

pub returns-clause-groups : goal.returns-clause-groups
returns-clause-groups c = group_law
