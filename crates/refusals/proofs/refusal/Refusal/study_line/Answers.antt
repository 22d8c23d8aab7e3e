use Rattle.std.proofs.Common.{◌≡◌, ◌+◌, [], ◌∷◌, codes, decimal}
use Rattle.refusals.specs.Lines.{refusal}
use Rattle.refusals.proofs.refusal.Refusal.study_line.Goals as goal

pub returns-in-Enters : goal.returns-in-Enters
returns-in-Enters c =
    let said : c.of.result ≡ refusal (codes "15") (codes "region" ∷ decimal (c.from.result + 1) ∷ codes "drone" ∷ c.as_slice.result.now ∷ codes "cue" ∷ decimal (c.from-in-Enters.result + 1)
    ∷ codes "part" ∷ decimal c.from-in-Enters-2.result ∷ codes "of" ∷ decimal c.parts.result ∷ []) = c.of.ensures in
    rw c.in-Enters.is (simp (c.from.ensures, c.as_slice.ensures.value, c.from-in-Enters.ensures, c.from-in-Enters-2.ensures, c.parts.ensures) at said)
