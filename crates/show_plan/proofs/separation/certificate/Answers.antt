use Rattle.show_plan.proofs.Prelude.{List, Ok, subst, ◌∙◌, ap, Traj, CurvesStandFor, raised_of, Clearance, KeepReach, clearance_of, FindsTrees}
use Rattle.show_plan.proofs.Certified.{IsCertified, certified, sent_flies_apart}
use Rattle.show_plan.proofs.separation.certificate.Goals as goal

found : (c : goal.After-drop-curves-inside-2) → IsCertified c.args.f.now.settings c.args.depth c.args.f.now.trajs (record { version = 2; depth = c.args.depth; trees = c.in_ok-trees.trees })
found c =
    let reach : KeepReach (clearance_of c.args.f.now.settings c.args.f.now.trajs) c.args.f.now.trajs =
    subst (λ (clear : Clearance). KeepReach clear c.args.f.now.trajs) c.clearance_of-clearance.ensures.exact c.clearance_of-clearance.ensures.reach in
    certified c.args.f.now.settings c.args.depth c.args.f.now.trajs c.in_ok-curves.curves c.in_ok-trees.trees c.search_law.ensures c.certificate_law.ensures c.in_ok-trees.ensures.shallow
    (subst (λ (ts : List Traj). CurvesStandFor c.in_ok-curves.curves ts) c.as_slice.ensures c.in_ok-curves.ensures.stands)
    reach
    (c.in_ok-curves.ensures.exact ∙ ap (λ (ts : List Traj). raised_of ts) c.as_slice.ensures)
    (subst (λ (clear : Clearance). FindsTrees clear c.args.depth c.in_ok-curves.curves (Ok c.in_ok-trees.trees)) c.clearance_of-clearance.ensures.exact c.in_ok-trees.ensures.finds)

pub returns-clause-whole : goal.returns-clause-whole
returns-clause-whole c = rw c.levels.ensures.same (found c).whole

pub returns-clause-valid : goal.returns-clause-valid
returns-clause-valid c = rw c.levels.ensures.same (found c).valid

pub returns-clause-clear : goal.returns-clause-clear
returns-clause-clear c ok = (found c).clear

pub returns-clause-apart_by_cue : goal.returns-clause-apart_by_cue
returns-clause-apart_by_cue c ok = (found c).apart

pub returns-clause-apart : goal.returns-clause-apart
returns-clause-apart c ok =
    sent_flies_apart c.args.f.now c.requires.valid c.apart_law.ensures.sent (found c).apart
