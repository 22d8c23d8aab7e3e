-- Why `bumps` keeps its contract: 255 equal segments.
use Rattle.std.proofs.Common.{arith}
use Rattle.std.proofs.lemmas.List.Elements.{All-replicate}
use Rattle.std.proofs.lemmas.Result.{IfOk-weaker}
use Rattle.traj_codec.specs.Spelling.{HasDuration}
use Rattle.integer_player.specs.Played.{IsPlayable}
use Rattle.curves_tests.proofs.shows.bumps.Goals as goal

pub returns-clause-playable : goal.returns-clause-playable
returns-clause-playable c = IfOk-weaker c.traj.result _ IsPlayable (λ t same. record {
  some = rw same (omega arith);
  few = rw same (omega arith);
  durations = rw same (All-replicate HasDuration 255 _ (omega arith));
}) c.traj.ensures
