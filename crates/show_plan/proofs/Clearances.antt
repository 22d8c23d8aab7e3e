-- The clearance of a show that fits.
use Rattle.show_plan.proofs.Prelude.{common_steps, ◌≡◌, ℕ, ◌≤◌, arith, sym, ap, subst, ◌∙◌, List, [], ◌∷◌, length, All, All-nil, All-cons, All-head, All-tail, Traj, IsTrajectory, durations, durations_of, Clearance, KeepReach, IsClearance, IsMoving, ReachLaw, reach_of, Settings, FitsSettings, Fitted, IsValidFitted, clearance_of, reach_depth}
use Rattle.fleet_curves.proofs.Standing.{length-durations}
use Rattle.speed_bound.proofs.Reaches.{reach_few}

all_moving : (times : List ℕ) → 1 ≤ length times → All (λ ms. 1 ≤ ms) times → (ts : List Traj) → All (λ (t : Traj). durations t.segments ≡ times) ts → All IsTrajectory ts → All IsMoving ts
all_moving times some last [] same formed = All-nil IsMoving
all_moving times some last (t ∷ ts) same formed =
    let is : durations t.segments ≡ times = All-head (λ (t : Traj). durations t.segments ≡ times) t ts same in
    All-cons IsMoving t ts
    (record {
      formed = All-head IsTrajectory t ts formed;
      some = omega (arith, some, ap (λ (ns : List ℕ). length ns) is, length-durations t.segments);
      durations = durations_of t (subst (λ (ns : List ℕ). All (λ ms. 1 ≤ ms) ns) (sym is) last);
    })
    (all_moving times some last ts (All-tail (λ (t : Traj). durations t.segments ≡ times) t ts same) (All-tail IsTrajectory t ts formed))

pub moving : (f : Fitted) → IsValidFitted f → All IsMoving f.trajs
moving f valid = all_moving valid.times (omega (arith, valid.times_counted, valid.some_cue)) valid.last f.trajs valid.same_times valid.formed

pub is_clearance : (e : Settings) (trajs : List Traj) → FitsSettings e → IsClearance (clearance_of e trajs)
unfolding clearance_of
is_clearance e trajs fits = grind (arith, common_steps, reach_few)

pub keep_reach : (e : Settings) (trajs : List Traj) → ReachLaw → All IsMoving trajs → KeepReach (clearance_of e trajs) trajs
unfolding clearance_of
keep_reach e trajs law moving = grind (arith, common_steps, moving, All-nil, All-cons, All-head, All-tail)

-- with the reach that is computed
pub exactly : (e : Settings) (trajs ts : List Traj) (rs : List ℕ) → rs ≡ reach_of reach_depth e.late ts 0 ∷ reach_of reach_depth e.late ts 1 ∷ reach_of reach_depth e.late ts 2 ∷ [] → ts ≡ trajs →
    ◌≡◌ {A = Clearance} (record { r = e.r; h = e.h; stray = e.stray; late = e.late; reach = rs }) (clearance_of e trajs)
unfolding clearance_of
exactly e trajs ts rs is same =
    ap (λ (xs : List ℕ). record { r = e.r; h = e.h; stray = e.stray; late = e.late; reach = xs })
    (is ∙ ap (λ (us : List Traj). reach_of reach_depth e.late us 0 ∷ reach_of reach_depth e.late us 1 ∷ reach_of reach_depth e.late us 2 ∷ []) same)
