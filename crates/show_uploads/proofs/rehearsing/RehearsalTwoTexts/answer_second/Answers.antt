use Rattle.show_uploads.proofs.Prelude.{common_steps, arith}
use Rattle.show_uploads.proofs.ScheduleLemmas.{events_of_show, schedule_gives}
use Rattle.show_uploads.proofs.rehearsing.RehearsalTwoTexts.answer_second.Goals as goal

pub returns-clause-gives : goal.returns-clause-gives
returns-clause-gives c = grind (arith, common_steps, schedule_gives, events_of_show)
