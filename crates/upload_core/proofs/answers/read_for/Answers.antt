use Rattle.upload_core.proofs.Prelude.{common_steps, arith, packet_count}
use Rattle.upload_core.proofs.Candidates.{read-silent}
use Rattle.upload_core.proofs.answers.read_for.Goals as goal

pub returns-in-Some : goal.returns-in-Some
unfolding packet_count
returns-in-Some c = grind (arith, common_steps, read-silent)

pub returns-in-None : goal.returns-in-None
returns-in-None c j b =
    read-silent c.args.session.now c.args.drone j c.args.id c.args.address c.args.status c.args.piece.now
    (λ i l e f a. c.in-None.ensures.none i l f a)
