use Rattle.fleet_curves.proofs.Prelude.{common_steps, ◌≡◌, refl, ℕ, All, length, ap, subst, sym, ◌∙◌, List, arith, flat_map, take_all, Bez, Traj, raised_traj, cues_in, raised_of, IsFormed, all_curves}
use Rattle.fleet_curves.proofs.Fleets.{fleet_more, fleet_held, first_cues, first_cues_in, all_more}
use Rattle.fleet_curves.proofs.Standing.{stands}
use Rattle.fleet_curves.proofs.curves.Curves.of_slice.Goals as goal

pub loop-t-preserved : goal.loop-t-preserved
loop-t-preserved c = record {
  curves = fleet_more raised_traj c.args.trajs.now c.loop-t.t-index c.t-item.result (all_curves c.loop-t.all.items) (all_curves c.add_traj.new.all.items) c.loop-t-test.true c.t-item.is c.loop-t.invariant.curves c.in_ok-add_traj.ensures.curves;
  formed = all_more (λ (t : Traj). All IsFormed t.segments) c.args.trajs.now c.loop-t.t-index c.t-item.result c.loop-t-test.true c.loop-t.invariant.formed
      (subst (λ (t : Traj). All IsFormed t.segments) c.t-item.is c.in_ok-add_traj.ensures.formed);
  small = c.in_ok-add_traj.ensures.small;
}

pub invariant_of-result : goal.invariant_of-result
invariant_of-result c = grind (arith, common_steps, take_all, first_cues, fleet_held)

pub returns-clause-stands : goal.returns-clause-stands
returns-clause-stands c =
    let curves_are : all_curves c.loop-t.all.items ≡ flat_map raised_traj c.args.trajs.now =
    c.loop-t.invariant.curves ∙ ap (λ (ts : List Traj). flat_map raised_traj ts) (take_all c.loop-t.t-index c.args.trajs.now c.loop-t-test.false) in
    let cues : length c.as_slice.result.now ≡ length c.requires.0 = first_cues c.args.trajs.now c.requires.0 c.index-trajs-0.result c.as_slice.result.now c.requires.1 c.index-trajs-0.is (c.as_slice.ensures ∙ sym (ap (λ (t : Traj). t.segments) c.index-trajs-0.is)) in
    stands _ c.args.trajs.now c.requires.0 c.requires.1
    (subst (λ (ts : List Traj). All (λ (t : Traj). All IsFormed t.segments) ts) (take_all c.loop-t.t-index c.args.trajs.now c.loop-t-test.false) c.loop-t.invariant.formed)
    refl cues curves_are

is_raised : (trajs : List Traj) (drones cues : ℕ) (curves : List (List (Bez 8))) → drones ≡ length trajs → cues ≡ cues_in trajs → curves ≡ flat_map raised_traj trajs →
    (record { drones = drones; cues = cues; curves = curves }) ≡ raised_of trajs
unfolding raised_of
is_raised trajs drones cues curves drones_are cues_are curves_are = rw (drones_are, cues_are, curves_are) refl

pub returns-clause-exact : goal.returns-clause-exact
returns-clause-exact c = grind (arith, common_steps, is_raised, first_cues_in, take_all)
