use Rattle.cue_grid.proofs.Prelude.{◌≡◌, ℕ, zero, suc, ◌+◌, ◌<◌, List, [], ◌∷◌, ◌++◌, length, map, take, arith, refl, ap, ◌∙◌, Job, DroneLine, take_all}
use Rattle.cue_grid.proofs.cues.same_job_each.Goals as goal

-- one drone more
more : (drones : List DroneLine) (k : ℕ) (job : Job) → k < length drones → map (λ (d : DroneLine). job) (take k drones) ++ job ∷ [] ≡ map (λ (d : DroneLine). job) (take (suc k) drones)
more [] k job within = absurd (omega arith)
more (d ∷ drones) zero job within = refl
more (d ∷ drones) (suc k) job within = ap (λ (jobs : List Job). job ∷ jobs) (more drones k job (omega arith))

pub loop-drone-init : goal.loop-drone-init
loop-drone-init c = c.in_ok-jobs.ensures.items

pub loop-drone-preserved : goal.loop-drone-preserved
loop-drone-preserved c =
    let k : ℕ = c.loop-drone.drone-index in
    let e : k + 1 ≡ suc k = omega arith in
    rw e (c.in_ok-push.ensures.items ∙ ap (λ (jobs : List Job). jobs ++ c.args.job ∷ []) c.loop-drone.invariant ∙ more c.args.drones.now k c.args.job c.loop-drone-test.true)

pub returns : goal.returns
returns c = c.loop-drone.invariant ∙ ap (λ (drones : List DroneLine). map (λ (d : DroneLine). c.args.job) drones) (take_all c.loop-drone.drone-index c.args.drones.now c.loop-drone-test.false)
