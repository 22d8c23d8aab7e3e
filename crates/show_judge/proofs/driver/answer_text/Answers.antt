use Rattle.show_judge.proofs.Prelude.{common_steps, arith}
use Rattle.show_judge.proofs.AnswerLemmas.{answers_accepted, answers_refused}
use Rattle.show_judge.proofs.DriverLemmas.{show_verb}
use Rattle.show_judge.proofs.driver.answer_text.Goals as goal

pub returns-in-Accepted : goal.returns-in-Accepted
returns-in-Accepted g c = grind (arith, common_steps, answers_accepted, show_verb)

pub returns-in-Refused : goal.returns-in-Refused
returns-in-Refused g c = grind (arith, common_steps, answers_refused)
