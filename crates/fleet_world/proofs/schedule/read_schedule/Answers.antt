use Rattle.fleet_world.proofs.Prelude.{arith}
use Rattle.fleet_world.proofs.schedule.read_schedule.Goals as goal

pub put_line-requires-clause-short : goal.put_line-requires-clause-short
put_line-requires-clause-short c =
    let (cut, place, within, less) = c.in-Some.ensures in
    omega (arith, within, c.lines.invariant.some, c.lines.invariant.counted, c.requires.text)
