use Rattle.traj_codec.proofs.JoinedLemmas.{join_holds_law}
use Rattle.sep_parts.proofs.Lifts.{apart_lifts, exactly_apart, sent_apart}
use Rattle.sep_parts.proofs.apart.apart_law.Goals as goal

pub returns-clause-lifts : goal.returns-clause-lifts
returns-clause-lifts c = apart_lifts

pub returns-clause-sent : goal.returns-clause-sent
returns-clause-sent c = sent_apart join_holds_law

pub returns-clause-exact : goal.returns-clause-exact
returns-clause-exact c = record { exact = exactly_apart }
