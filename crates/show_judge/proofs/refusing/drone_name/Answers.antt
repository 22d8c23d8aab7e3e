use Rattle.show_judge.proofs.Prelude.{◌<◌, ◌∙◌, List, length, ap, sym, arith, DroneLine}
use Rattle.show_judge.proofs.RefusalLemmas.{name_read, word_read}
use Rattle.show_judge.proofs.refusing.drone_name.Goals as goal

pub bounds-as_slice-from : goal.bounds-as_slice-from
bounds-as_slice-from c = omega (arith, c.requires.drone, c.from.ensures, ap (λ (ds : List DroneLine). length ds) c.as_slice.ensures)

pub returns-clause-name : goal.returns-clause-name
returns-clause-name c =
    c.copy_of.ensures ∙ name_read c.args.show.now.drones c.as_slice.result.now c.args.drone c.from.result c.index-as_slice-from.result c.as_slice.ensures c.from.ensures c.requires.drone

pub returns-clause-word : goal.returns-clause-word
returns-clause-word c =
    rw c.copy_of.ensures (word_read c.args.show.now.drones _ c.args.drone _ c.index-as_slice-from.result c.requires.valid.drones c.as_slice.ensures c.from.ensures c.requires.drone)
