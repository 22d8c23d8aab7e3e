use Rattle.figure_expand.proofs.Prelude.{◌≡◌, ◌+◌, ◌<◌, ◌++◌, [], ◌∷◌, List, ℕ, arith, refl, sym, ap, suc, ◌∙◌, drop, get_or, length, Point, DroneLine, start_points, append_assoc, drop-cons, append-nil, drop_all}
use Rattle.figure_expand.proofs.range.points_of.Goals as goal

-- the next start and those after it
next : (starts : List DroneLine) (k : ℕ) (start : DroneLine) → k < length starts → start ≡ get_or starts k start → start ∷ drop (k + 1) starts ≡ drop k starts
next starts k start within is =
    let e : k + 1 ≡ suc k = omega arith in
    rw e (ap (λ (s : DroneLine). s ∷ drop (suc k) starts) is ∙ sym (drop-cons starts k start within))

pub loop-start-init : goal.loop-start-init
loop-start-init c = rw c.new-points.ensures.items refl

pub loop-start-preserved : goal.loop-start-preserved
loop-start-preserved c =
    let points : List Point = c.loop-start.points.items in
    let starts : List DroneLine = c.args.starts.now in
    let k : ℕ = c.loop-start.start-index in
    ap (λ (ps : List Point). ps ++ start_points (drop (k + 1) starts)) c.in_ok-push.ensures.items
    ∙ append_assoc points (c.start-item.result.at ∷ []) (start_points (drop (k + 1) starts))
    ∙ ap (λ (rest : List DroneLine). points ++ start_points rest) (next starts k c.start-item.result c.loop-start-test.true c.start-item.is)
    ∙ c.loop-start.invariant

pub returns : goal.returns
returns c =
    let points : List Point = c.loop-start.points.items in
    sym (append-nil points)
    ∙ ap (λ (rest : List DroneLine). points ++ start_points rest) (sym (drop_all c.loop-start.start-index c.args.starts.now c.loop-start-test.false))
    ∙ c.loop-start.invariant
