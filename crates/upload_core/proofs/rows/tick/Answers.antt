use Rattle.upload_core.proofs.Prelude.{common_steps, ◌≡◌, ◌∙◌, ◌==◌, length, ap, sym, arith, find, length-map, gave_up, counted, in_windows}
use Rattle.upload_core.proofs.Standing.{row_at-older, older-row, older-windows}
use Rattle.upload_core.proofs.rows.tick.Goals as goal
use Rattle.upload_core.proofs.rows.tick.Goals.{After-first_tired}

pub put_flight-requires-clause-windows : goal.put_flight-requires-clause-windows
put_flight-requires-clause-windows c d l = (c.requires.rows d l).few

pub first_tired-requires-clause-few : goal.first_tired-requires-clause-few
first_tired-requires-clause-few c = grind (arith, common_steps, length-map)

pub first_tired-requires-clause-rows : goal.first_tired-requires-clause-rows
first_tired-requires-clause-rows c d l = grind (arith, common_steps, length-map, row_at-older, older-row)

of_rows : (c : After-first_tired) → find (λ x. counted c.age.new.rows x.drone x.packet == 20) (in_windows c.args.rows.now (length c.args.rows.now)) ≡ c.first_tired.result
of_rows c = grind (arith, common_steps, older-windows, length-map)

pub returns-in-Some-clause-answer : goal.returns-in-Some-clause-answer
returns-in-Some-clause-answer c = sym (ap gave_up (of_rows (goal.at.returns-in-Some-clause-answer c).After-first_tired ∙ c.in-Some.is))

pub returns-in-None-clause-answer : goal.returns-in-None-clause-answer
returns-in-None-clause-answer c = sym (ap gave_up (of_rows (goal.at.returns-in-None-clause-answer c).After-first_tired ∙ c.in-None.is))
