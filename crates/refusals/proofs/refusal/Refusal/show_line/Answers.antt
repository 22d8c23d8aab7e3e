use Rattle.std.proofs.Common.{rules, ◌≡◌, [], ◌∷◌, codes, w64, to_z, of_z}
use Rattle.std.proofs.lemmas.Int.{to_z-of_z}
use Rattle.std.specs.Fmt.{signed_decimal}
use Rattle.refusals.specs.Lines.{show_line}
use Rattle.refusals.proofs.refusal.Refusal.show_line.Goals as goal

pub returns-in-Range : goal.returns-in-Range
returns-in-Range c =
    let said : c.of-in-Range.result ≡ show_line c.in-Range.line (codes "out-of-range" ∷ c.axis_word.result.now ∷ signed_decimal (to_z w64 (of_z w64 c.in-Range.value)) ∷ []) = c.of-in-Range.ensures in
    rw c.in-Range.is (simp (c.axis_word.ensures.word, to_z-of_z w64 c.in-Range.value (search rules)) at said)
