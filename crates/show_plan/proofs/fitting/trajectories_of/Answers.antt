use Rattle.show_plan.proofs.Prelude.{◌≡◌, ◌<◌, List, [], ◌∷◌, ◌++◌, length, take, sym, ap, ◌∙◌, subst, arith, All, take_more, take_all, All-push, DroneLine, Traj, IsTrajectory, no_trajectory, FitsDrone, by_cue}
use Rattle.whole_numbers.proofs.BernsteinLemmas.{by_lt}
use Rattle.show_plan.proofs.Flight.{all_fit, by_cue_counted, drone_fits, flight_at_is}
use Rattle.show_plan.proofs.Sendable.{none_of, some_of}
use Rattle.show_plan.proofs.fitting.trajectories_of.Goals as goal

pub returns-in-None : goal.returns-in-None
returns-in-None c held =
    let drones = ap (λ (starts : List DroneLine). length starts) c.as_slice-drones.ensures in
    none_of c.in_ok-t.field-0 _ _ c.in-None.is c.in_ok-t.ensures
    (drone_fits c.args.grid.now c.loop-d.d (omega (arith, drones)) (c.expansion_law.ensures.fits c.args.grid.now c.requires held))

pub loop-d-preserved : goal.loop-d-preserved
loop-d-preserved c =
    let g = c.args.grid.now in
    let d = c.loop-d.d in
    let drones = ap (λ (starts : List DroneLine). length starts) c.as_slice-drones.ensures in
    let drone : d < length g.starts = omega (arith, drones) in
    let found = some_of c.in_ok-t.field-0 _ _ c.in-Some.t c.in-Some.is c.in_ok-t.ensures in
    record {
      so_far =
          c.in_ok-push-in-Some.ensures.items
          ∙ ap (λ (ts : List Traj). ts ++ c.in-Some.t ∷ []) c.loop-d.invariant.so_far
          ∙ ap (λ (t : Traj). take d (by_cue g) ++ t ∷ []) (found.1 ∙ sym (flight_at_is g d drone))
          ∙ sym (take_more (by_cue g) d no_trajectory (omega (arith, by_cue_counted g)));
      formed = subst (All IsTrajectory) (sym c.in_ok-push-in-Some.ensures.items) (All-push IsTrajectory c.loop-d.trajs.items c.in-Some.t c.loop-d.invariant.formed found.2);
      fit = λ k small. by_lt k d (λ (before : k < d). c.loop-d.invariant.fit k before) (λ above. let e : d ≡ k = omega arith in subst (FitsDrone g) e found.0);
    }

pub returns : goal.returns
returns c =
    let g = c.args.grid.now in
    let drones = ap (λ (starts : List DroneLine). length starts) c.as_slice-drones.ensures in (
      c.expansion_law.ensures.held g c.requires (all_fit g (λ d drone. c.loop-d.invariant.fit d (omega (arith, drones)))),
      c.loop-d.invariant.so_far ∙ take_all c.loop-d.d (by_cue g) (omega (arith, drones, by_cue_counted g)),
      c.loop-d.invariant.formed,
    )
