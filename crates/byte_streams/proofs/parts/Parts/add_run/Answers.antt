use Rattle.byte_streams.proofs.Prelude.{common_steps, refl, [], take, append_assoc, arith, take-append-drop}
use Rattle.byte_streams.proofs.MarkLemmas.{front_whole}
use Rattle.byte_streams.proofs.parts.Parts.add_run.Goals as goal

pub returns-clause-ok : goal.returns-clause-ok
returns-clause-ok c = grind (arith, common_steps, take, take-append-drop, append_assoc, front_whole)

pub returns-then-run-eq0-clause-ok : goal.returns-then-run-eq0-clause-ok
returns-then-run-eq0-clause-ok c = record { run = []; wait = refl; put = c.in_ok-add.ensures.ok; whole = refl }
