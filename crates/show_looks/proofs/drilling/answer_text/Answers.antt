use Rattle.show_looks.proofs.Prelude.{common_steps, arith, answers_accepted, own_verb}
use Rattle.show_looks.proofs.drilling.answer_text.Goals as goal

pub returns-in-Accepted : goal.returns-in-Accepted
returns-in-Accepted c = grind (arith, common_steps, answers_accepted, own_verb)
