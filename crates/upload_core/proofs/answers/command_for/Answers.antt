use Rattle.upload_core.proofs.Prelude.{common_steps, ◌∙◌, cond, sym, arith, false≢true, packet_count}
use Rattle.upload_core.proofs.Candidates.{command-silent}
use Rattle.upload_core.proofs.answers.command_for.Goals as goal

pub returns-then-first-eq-DEFINE : goal.returns-then-first-eq-DEFINE
returns-then-first-eq-DEFINE c = grind (arith, common_steps, command-silent)

pub returns-then-first-ne-START : goal.returns-then-first-ne-START
returns-then-first-ne-START c j b =
    command-silent c.args.session.now c.args.drone j c.args.first.now c.args.status b (λ e g. omega (arith, g)) (λ e f g. omega (arith, g))

pub returns-then-not-starts : goal.returns-then-not-starts
returns-then-not-starts c j b =
    command-silent c.args.session.now c.args.drone j c.args.first.now c.args.status b (λ e g. omega (arith, g))
    (λ e f g. false≢true (sym c.if-not-starts.true ∙ c.starts.ensures ∙ f))

pub returns : goal.returns
unfolding packet_count
returns c = grind (arith, common_steps, cond, command-silent)
