use Rattle.cue_grid.proofs.Prelude.{◌≡◌, ℕ, zero, suc, ◌+◌, ◌<◌, List, [], ◌∷◌, ◌++◌, length, take, get_or, arith, ap, ◌∙◌, DroneLine, take_all}
use Rattle.cue_grid.proofs.unrolling.copies_of.Goals as goal

-- one drone more
more : (drones : List DroneLine) (k : ℕ) (drone other : DroneLine) → k < length drones → drone ≡ get_or drones k other → take k drones ++ drone ∷ [] ≡ take (suc k) drones
more [] k drone other within is = absurd (omega arith)
more (d ∷ drones) zero drone other within is = ap (λ (x : DroneLine). x ∷ []) is
more (d ∷ drones) (suc k) drone other within is = ap (λ (xs : List DroneLine). d ∷ xs) (more drones k drone other (omega arith) is)

pub loop-drone-init : goal.loop-drone-init
loop-drone-init c = c.new-copies.ensures.items

pub loop-drone-preserved : goal.loop-drone-preserved
loop-drone-preserved c =
    let k : ℕ = c.loop-drone.drone-index in
    let e : k + 1 ≡ suc k = omega arith in
    let drone : DroneLine = c.drone-item.result in
    rw e (c.in_ok-push.ensures.items
    ∙ ap (λ (name : _). c.loop-drone.copies.items ++ record { line = drone.line; name = name; at = drone.at } ∷ []) c.copy_of.ensures
    ∙ ap (λ (copies : List DroneLine). copies ++ drone ∷ []) c.loop-drone.invariant
    ∙ more c.args.drones.now k drone drone c.loop-drone-test.true c.drone-item.is)

pub returns : goal.returns
returns c = c.loop-drone.invariant ∙ take_all c.loop-drone.drone-index c.args.drones.now c.loop-drone-test.false
