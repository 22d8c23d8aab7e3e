use Rattle.sep_parts.proofs.Stacks.{first_stack}
use Rattle.certificate_checker.proofs.judging.passes_whole.Goals as goal

pub returns-clause-stack : goal.returns-clause-stack
returns-clause-stack c =
    first_stack c.args.diff.now c.begin.new.self c.raised_law.ensures.axes c.raised_law.ensures.sizes c.begin.ensures
