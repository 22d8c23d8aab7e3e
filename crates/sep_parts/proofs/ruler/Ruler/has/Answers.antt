use Rattle.sep_parts.proofs.Prelude.{◌≡◌, ◌<◌, sym, ◌∙◌, ap, subst, arith, length, List, ℤ, get_or, []}
use Rattle.std.specs.Cmp.Rules.{signed_items}
use Rattle.sep_parts.proofs.ruler.Ruler.has.Goals as goal

pub returns-then-eq : goal.returns-then-eq
returns-then-eq g c = λ yes.
    let same : c.as_slice.result.now ≡ c.as_slice-in-loop-dir.result.now = (signed_items c.as_slice.result.now c.as_slice-in-loop-dir.result.now).0 (sym c.if-eq.ensures) in
    let here : get_or c.self.inside.directions.n c.loop-dir.dir [] ≡ c.args.n =
    sym (ap (λ (ns : List (List ℤ)). get_or ns c.loop-dir.dir []) c.as_slice-directions.ensures) ∙ sym c.as_slice.ensures ∙ same ∙ c.as_slice-in-loop-dir.ensures in
    let inside : c.loop-dir.dir < length c.self.inside.directions.n = subst (λ (ns : List (List ℤ)). c.loop-dir.dir < length ns) c.as_slice-directions.ensures (omega (arith, c.loop-dir-test.true)) in
    rw (sym c.self.view_is) (c.loop-dir.dir, inside, here)
