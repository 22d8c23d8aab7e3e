use Rattle.traj_codec.proofs.JoinedLemmas.{join_holds_law}
use Rattle.keepout_boxes.proofs.Lifts.{keeps_lifts, sent_clear}
use Rattle.keepout_boxes.proofs.sent.sent_law.Goals as goal

pub returns-clause-lifts : goal.returns-clause-lifts
returns-clause-lifts c = keeps_lifts

pub returns-clause-sent : goal.returns-clause-sent
returns-clause-sent c = sent_clear join_holds_law
