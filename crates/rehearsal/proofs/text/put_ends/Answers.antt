-- Why `put_ends` keeps its contract: its words are those of the last values.
use Rattle.rehearsal.proofs.Prelude.{◌≡◌, ◌∙◌, ◌++◌, [], ◌∷◌, ℤ, get_or, rules, OnOk, codes, lit<, of_z, pos, to_z, w16, w64}
use Rattle.std.proofs.lemmas.Int.{to_z-of_z}
use Rattle.std.specs.Fmt.{signed_decimal}
use Rattle.byte_streams.specs.Words.{line}
use Rattle.firmware_memory.specs.Decoded.{last_value}
use Rattle.rehearsal.proofs.text.put_ends.Goals as goal

pub returns : goal.returns
returns c =
    let ends = c.ends_of-ends.result in
    let last = c.ends_of-ends.ensures in
    let value : ℤ → ℤ = λ z. to_z w64 (of_z w64 z) in
    let x : value c.from.result ≡ last_value c.args.t.now 0 = to_z-of_z w64 c.from.result (search rules) ∙ c.from.ensures ∙ to_z-of_z w16 (get_or ends 0 (pos 0)) (search rules) ∙ last 0 (lit< tt) in
    let y : value c.from-2.result ≡ last_value c.args.t.now 1 = to_z-of_z w64 c.from-2.result (search rules) ∙ c.from-2.ensures ∙ to_z-of_z w16 (get_or ends 1 (pos 0)) (search rules) ∙ last 1 (lit< tt) in
    let z : value c.from-3.result ≡ last_value c.args.t.now 2 = to_z-of_z w64 c.from-3.result (search rules) ∙ c.from-3.ensures ∙ to_z-of_z w16 (get_or ends 2 (pos 0)) (search rules) ∙ last 2 (lit< tt) in
    let yaw : value c.from-4.result ≡ last_value c.args.t.now 3 = to_z-of_z w64 c.from-4.result (search rules) ∙ c.from-4.ensures ∙ to_z-of_z w16 (get_or ends 3 (pos 0)) (search rules) ∙ last 3 (lit< tt) in
    let said : OnOk c.line.result (c.line.new.self ≡ c.args.text.now ++ line (codes "ends")
    (signed_decimal (value c.from.result) ∷ signed_decimal (value c.from-2.result) ∷ signed_decimal (value c.from-3.result) ∷ signed_decimal (value c.from-4.result) ∷ [])) =
    c.line.ensures.ok in
    simp (x, y, z, yaw) at said
