use Rattle.std.proofs.Common.{rules, w64}
use Rattle.std.proofs.lemmas.Int.{to_z-of_z}
use Rattle.refusals.proofs.refusal.Refusal.dynamics_line.Goals as goal

pub returns-in-Accelerates : goal.returns-in-Accelerates
returns-in-Accelerates c =
    let same = to_z-of_z w64 c.in-Accelerates.acceleration (search rules) in
    rw c.in-Accelerates.is (simp (c.as_slice.ensures.value, c.from.ensures, c.axis_word.ensures.word, same) at c.of.ensures)
