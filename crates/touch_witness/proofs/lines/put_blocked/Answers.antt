use Rattle.touch_witness.proofs.Prelude.{◌≡◌, ◌++◌, [], ◌∷◌, OnOk, codes, decimal, line}
use Rattle.touch_witness.proofs.lines.put_blocked.Goals as goal

pub returns : goal.returns
returns c =
    let said : OnOk c.line.result (c.line.new.self ≡ c.args.text.now ++ line (codes "blocked") (codes "pair" ∷ c.args.first.now ∷ c.args.second.now
    ∷ codes "cue" ∷ decimal c.number.result ∷ codes "part" ∷ decimal c.from.result ∷ codes "of" ∷ decimal c.parts.result ∷ [])) = c.line.ensures.ok in
    simp (c.number.ensures, c.from.ensures, c.parts.ensures) at said
