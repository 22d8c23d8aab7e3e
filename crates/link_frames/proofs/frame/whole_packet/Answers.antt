use Rattle.std.proofs.lemmas.Grind.{common_steps}
use Rattle.std.proofs.Common.{arith}
use Rattle.link_frames.proofs.FrameLemmas.{front_packet}
use Rattle.link_frames.proofs.frame.whole_packet.Goals as goal

pub returns-clause-some : goal.returns-clause-some
returns-clause-some c = grind (arith, common_steps, front_packet)
