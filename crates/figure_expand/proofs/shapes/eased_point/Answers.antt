use Rattle.figure_expand.proofs.Prelude.{◌≡◌, ℤ, ◌^◌, ◌+ℤ◌, arith, ap, ◌∙◌, millionths}
use Rattle.figure_expand.proofs.Reach.{kept, sum_kept, wider}
use Rattle.figure_expand.proofs.shapes.eased_point.Goals as goal

pub returns : goal.returns
returns c =
    let q = c.args.q.now in
    let small = c.requires.quarter in
    let first : c.millionths-first.result ≡ millionths c.args.share.now.0 q.first =
    c.millionths-first.ensures.value ∙ ap (millionths c.args.share.now.0) (kept q.first (wider (2 ^ 41) (2 ^ 43) q.first (omega arith) small.first)) in
    let second : c.millionths-second.result ≡ millionths c.args.share.now.1 q.last =
    c.millionths-second.ensures.value ∙ ap (millionths c.args.share.now.1) (kept q.last (wider (2 ^ 41) (2 ^ 43) q.last (omega arith) small.last)) in
    sum_kept q.centre c.millionths-first.result c.millionths-second.result small.centre c.millionths-first.ensures.small c.millionths-second.ensures.small
    ∙ ap (λ (s : ℤ). (q.centre +ℤ s) +ℤ c.millionths-second.result) first
    ∙ ap (λ (s : ℤ). (q.centre +ℤ millionths c.args.share.now.0 q.first) +ℤ s) second
