use Rattle.drill_show.proofs.Prelude.{◌≡◌, ◌++◌, List, ℕ, string_bytes, OnOk, subst}
use Rattle.drill_show.proofs.DrillLemmas.{drone_made}
use Rattle.drill_show.proofs.show.put_drone_line.Goals as goal

pub returns : goal.returns
returns c =
    subst (λ (t : List ℕ). OnOk c.writeln.result (string_bytes c.writeln.new.self ≡ string_bytes c.args.text.now ++ t)) (drone_made c.args.i)
    (rw (c.x_of-x.ensures, c.y_of-y.ensures) at c.writeln.ensures.bytes)
