use Rattle.sep_parts.proofs.Stacks.{first_stack}
use Rattle.safety_tests.proofs.parts_of_cues.halves_wait_in_order.Goals as goal

pub passed-requires : goal.passed-requires
passed-requires g c = first_stack c.make-diff.result c.begin.new.self c.raised_law.ensures.axes c.raised_law.ensures.sizes c.begin.ensures
