use Rattle.show_plan.proofs.Prelude.{IsOk, List, subst, ◌∙◌, ap, Traj, CurvesStandFor, Raised, raised_of, Clearance, KeepReach, best_certificate, clearance_of, FindsNodes}
use Rattle.show_plan.proofs.Certified.{IsCertified, count_certified, count_gives, sent_flies_apart}
use Rattle.show_plan.proofs.separation.count_nodes.Goals as goal

-- where nodes are counted, their trees are a certificate
counted : (c : goal.After-drop-curves-inside) → IsOk c.nodes_of.result → IsCertified c.args.f.now.settings c.args.depth c.args.f.now.trajs (best_certificate c.args.f.now.settings c.args.depth c.args.f.now.trajs)
counted c ok =
    let reach : KeepReach (clearance_of c.args.f.now.settings c.args.f.now.trajs) c.args.f.now.trajs =
    subst (λ (clear : Clearance). KeepReach clear c.args.f.now.trajs) c.clearance_of-clearance.ensures.exact c.clearance_of-clearance.ensures.reach in
    let finds = subst (λ (clear : Clearance). FindsNodes clear c.args.depth c.in_ok-curves.curves c.nodes_of.result) c.clearance_of-clearance.ensures.exact c.nodes_of.ensures.finds in
    let is = c.in_ok-curves.ensures.exact ∙ ap (λ (ts : List Traj). raised_of ts) c.as_slice.ensures in
    let gives = count_gives c.args.f.now.settings c.args.depth c.args.f.now.trajs c.in_ok-curves.curves c.nodes_of.result is finds in
    let stands =
    subst (λ (curves : Raised). CurvesStandFor curves c.args.f.now.trajs) is
    (subst (λ (ts : List Traj). CurvesStandFor c.in_ok-curves.curves ts) c.as_slice.ensures c.in_ok-curves.ensures.stands) in
    count_certified c.args.f.now.settings c.args.depth c.args.f.now.trajs c.nodes_of.result c.search_law.ensures c.certificate_law.ensures c.nodes_of.ensures.shallow stands reach gives ok

pub returns-clause-clear : goal.returns-clause-clear
returns-clause-clear c ok = (counted c ok).clear

pub returns-clause-apart_by_cue : goal.returns-clause-apart_by_cue
returns-clause-apart_by_cue c ok = (counted c ok).apart

pub returns-clause-apart : goal.returns-clause-apart
returns-clause-apart c ok = sent_flies_apart c.args.f.now c.requires.valid c.apart_law.ensures.sent (counted c ok).apart
