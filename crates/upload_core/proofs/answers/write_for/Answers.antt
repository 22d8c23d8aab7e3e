use Rattle.upload_core.proofs.Prelude.{common_steps, arith}
use Rattle.upload_core.proofs.Candidates.{write-silent}
use Rattle.upload_core.proofs.answers.write_for.Goals as goal

pub returns-in-Some : goal.returns-in-Some
returns-in-Some c = grind (arith, common_steps, write-silent)

pub returns-in-None : goal.returns-in-None
returns-in-None c j b =
    write-silent c.args.session.now c.args.drone j c.args.id c.args.address c.args.status (λ l i a. c.in-None.ensures.none j l i a)
