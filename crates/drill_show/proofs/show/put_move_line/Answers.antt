use Rattle.drill_show.proofs.Prelude.{◌≡◌, ◌+◌, ◌++◌, ◌∷◌, List, ℕ, codes, decimal, string_bytes, OnOk, subst}
use Rattle.drill_show.proofs.DrillLemmas.{move_made}
use Rattle.drill_show.proofs.show.put_move_line.Goals as goal

pub returns : goal.returns
returns c =
    let written : OnOk c.writeln.result (string_bytes c.writeln.new.self ≡ string_bytes c.args.text.now ++ (codes "d" ++ (decimal (c.args.i + 1) ++ (codes " move "
    ++ (decimal (c.x_of.result + c.shift_in.result) ++ 32 ∷ (decimal c.y_of-y.result ++ 32 ∷ (decimal c.height_in-z.result ++ codes " 0\n"))))))) = c.writeln.ensures.bytes in
    subst (λ (t : List ℕ). OnOk c.writeln.result (string_bytes c.writeln.new.self ≡ string_bytes c.args.text.now ++ t)) (move_made c.args.cue c.args.i)
    (rw (c.x_of.ensures, c.shift_in.ensures, c.y_of-y.ensures, c.height_in-z.ensures) at written)
