use Rattle.touch_witness.proofs.Prelude.{◌≡◌, ◌++◌, [], ◌∷◌, OnOk, codes, decimal, line}
use Rattle.touch_witness.proofs.lines.put_blocked_closest.Goals as goal

pub returns : goal.returns
returns c =
    let said : OnOk c.line.result (c.line.new.self ≡ c.args.text.now ++ line (codes "blocked") (codes "pair" ∷ c.args.first.now ∷ c.args.second.now
    ∷ codes "cue" ∷ decimal c.number.result ∷ codes "part" ∷ decimal c.from.result ∷ codes "of" ∷ decimal c.parts.result
    ∷ codes "closest" ∷ codes "at" ∷ decimal c.from-2.result ∷ codes "of" ∷ decimal c.from-3.result ∷ codes "level" ∷ decimal c.args.closest.level ∷ [])) = c.line.ensures.ok in
    simp (c.number.ensures, c.from.ensures, c.parts.ensures, c.from-2.ensures, c.from-3.ensures, c.parts-2.ensures.exact) at said
