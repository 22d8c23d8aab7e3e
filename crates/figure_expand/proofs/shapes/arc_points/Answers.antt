use Rattle.figure_expand.proofs.Prelude.{◌≡◌, ℤ, ◌^◌, ◌∷◌, [], ◌+ℤ◌, arith, ap, ◌∙◌, handle}
use Rattle.figure_expand.proofs.Reach.{arc_kept, kept, wider}
use Rattle.figure_expand.proofs.shapes.arc_points.Goals as goal

pub returns : goal.returns
returns c =
    let q = c.args.q.now in
    let small = c.requires in
    let first : c.handle-first.result ≡ handle q.last = c.handle-first.ensures.value ∙ ap handle (kept q.last (wider (2 ^ 41) (2 ^ 43) q.last (omega arith) small.last)) in
    let second : c.handle-second.result ≡ handle q.first = c.handle-second.ensures.value ∙ ap handle (kept q.first (wider (2 ^ 41) (2 ^ 43) q.first (omega arith) small.first)) in
    arc_kept q.present q.centre q.last c.handle-first.result c.handle-second.result small.present small.centre small.last c.handle-first.ensures.small c.handle-second.ensures.small
    ∙ ap (λ (s : ℤ). q.present ∷ (q.present +ℤ s) ∷ ((q.centre +ℤ q.last) +ℤ c.handle-second.result) ∷ (q.centre +ℤ q.last) ∷ []) first
    ∙ ap (λ (s : ℤ). q.present ∷ (q.present +ℤ handle q.last) ∷ ((q.centre +ℤ q.last) +ℤ s) ∷ (q.centre +ℤ q.last) ∷ []) second
