use Rattle.fleet_world.proofs.Prelude.{common_steps, ◌∙◌, sym, arith}
use Rattle.fleet_world.proofs.ScheduleLaws.{natural-read, number_of-read}
use Rattle.fleet_world.proofs.schedule.number_of.Goals as goal

pub overflow_cast-result : goal.overflow_cast-result
overflow_cast-result c = grind (arith, common_steps, natural-read)

pub returns-in-Some : goal.returns-in-Some
returns-in-Some c =
    number_of-read c.args.word.now c.in-Some.n (omega arith)
    (natural-read c.args.word.now c.in-Some.n (omega arith) (sym c.natural.ensures ∙ c.in-Some.is)).0 (omega arith)
