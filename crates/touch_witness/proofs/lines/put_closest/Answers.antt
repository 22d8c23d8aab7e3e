use Rattle.touch_witness.proofs.Prelude.{◌≡◌, ◌++◌, [], ◌∷◌, OnOk, codes, decimal, line}
use Rattle.touch_witness.proofs.lines.put_closest.Goals as goal

pub returns : goal.returns
returns c =
    let said : OnOk c.line.result (c.line.new.self ≡ c.args.text.now ++ line (codes "closest") (codes "pair" ∷ c.args.first.now ∷ c.args.second.now
    ∷ codes "cue" ∷ decimal c.number.result ∷ codes "at" ∷ decimal c.from.result ∷ codes "of" ∷ decimal c.from-2.result
    ∷ codes "level" ∷ decimal c.args.closest.level ∷ [])) = c.line.ensures.ok in
    simp (c.number.ensures, c.from.ensures, c.from-2.ensures, c.parts.ensures.exact) at said
