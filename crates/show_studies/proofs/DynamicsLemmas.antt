-- What `dynamics` answers, drone by drone.
use Rattle.show_studies.proofs.Prelude.{common_steps, ◌≡◌, ℕ, ◌+◌, ◌<◌, ◌≤◌, List, [], ◌∷◌, ◌++◌, All, length, get_or, drop, Option, Some, None, Result, Ok, Err, IfOk, sym, ap, subst, ◌∙◌, arith, append_assoc, AllocError, drop_all, drop_more, All-cons, All-head, All-nil, Name, PlainShow, motion_line, KeepsMotion, motion, Refusal, Traj, durations, Fitted, IsFitted, Answer, outcome_of, sent_of, refused_or, dynamics_of, dynamics_text, excess_by, excess_in, first_excess_of, limits_of, motion_lines, times_of}
use Rattle.dynamics_bound.specs.declared.excess.Limits.{Limits}
use Rattle.cue_grid.specs.declared.grid.Grid.{Grid}
use Rattle.show_plan.specs.Flight.{no_trajectory}
use Rattle.show_plan.specs.Trajectories.{by_cue, cue_times}
use Rattle.show_plan.proofs.Flight.{by_cue_counted, flight_lasts}
use Rattle.show_studies.proofs.SpeedLemmas.{after_none, first_there, left_from}

-- the cues of a show last as long as the segments by cue of each of its drones
pub times_are : (g : Grid) (times : List ℕ) (ts : List Traj) → ts ≡ by_cue g → 1 ≤ length ts → All (λ (t : Traj). durations t.segments ≡ times) ts → times ≡ cue_times g
times_are g times [] is some all = absurd (omega (arith, some))
times_are g times (t ∷ ts) is some all =
    sym (All-head (λ (u : Traj). durations u.segments ≡ times) t ts all)
    ∙ ap (λ (us : List Traj). durations (get_or us 0 no_trajectory).segments) is
    ∙ flight_lasts g 0 (omega (arith, by_cue_counted g, some, ap (λ (us : List Traj). length us) is))

-- what holds of all trajectories holds of the first
pub first_has : (P : Traj → Type 0) (ts : List Traj) (t : Traj) → t ≡ get_or ts 0 t → 1 ≤ length ts → All P ts → P t
first_has P [] t is some all = absurd (omega (arith, some))
first_has P (u ∷ us) t is some all = subst P (sym is) (All-head P u us all)

-- ---- drone by drone

-- one line more: what is to come is less by it
pub motions_next : (depth : ℕ) (times : List ℕ) (text more : List ℕ) (sent : List Traj) (names : List Name) (d : ℕ) (t : Traj) (name : Name) → d < length sent → d < length names →
    t ≡ get_or sent d t → name ≡ get_or names d name → more ≡ text ++ motion_line name.items (motion depth times t) →
    more ++ motion_lines depth times (drop (d + 1) sent) (drop (d + 1) names) ≡ text ++ motion_lines depth times (drop d sent) (drop d names)
motions_next depth times text more sent names d t name within inside t_is name_is more_is =
    ap (λ (xs : List ℕ). xs ++ motion_lines depth times (drop (d + 1) sent) (drop (d + 1) names)) more_is
    ∙ append_assoc text (motion_line name.items (motion depth times t)) (motion_lines depth times (drop (d + 1) sent) (drop (d + 1) names))
    ∙ ap (λ (xs : List ℕ). text ++ xs) (sym (left_from (motion_lines depth times) sent names d t name within inside t_is name_is))

-- a drone with nothing above a limit leaves the refusal to those after it
pub excess_next : (limits : Limits) (depth : ℕ) (times : List ℕ) (sent : List Traj) (names : List Name) (d : ℕ) (t : Traj) (name : Name) → d < length sent → d < length names →
    t ≡ get_or sent d t → name ≡ get_or names d name → excess_by limits depth times t name ≡ None →
    first_excess_of limits depth times (drop (d + 1) sent) (drop (d + 1) names) ≡ first_excess_of limits depth times (drop d sent) (drop d names)
excess_next limits depth times sent names d t name within inside t_is name_is none =
    sym (left_from (first_excess_of limits depth times) sent names d t name within inside t_is name_is
    ∙ after_none (excess_by limits depth times t name) (first_excess_of limits depth times (drop (d + 1) sent) (drop (d + 1) names)) none)

pub excess_here : (limits : Limits) (depth : ℕ) (times : List ℕ) (sent : List Traj) (names : List Name) (d : ℕ) (t : Traj) (name : Name) (r : Refusal) → d < length sent → d < length names →
    t ≡ get_or sent d t → name ≡ get_or names d name → excess_by limits depth times t name ≡ Some r → first_excess_of limits depth times (drop d sent) (drop d names) ≡ Some r
excess_here limits depth times sent names d t name r within inside t_is name_is is =
    left_from (first_excess_of limits depth times) sent names d t name within inside t_is name_is
    ∙ first_there (excess_by limits depth times t name) (first_excess_of limits depth times (drop (d + 1) sent) (drop (d + 1) names)) r is

-- a drone more that keeps to its motion
pub keeps_next : (limits : Limits) (depth : ℕ) (sent : List Traj) (d : ℕ) (t : Traj) → d < length sent → t ≡ get_or sent d t → KeepsMotion limits depth t →
    All (KeepsMotion limits depth) (drop (d + 1) sent) → All (KeepsMotion limits depth) (drop d sent)
keeps_next limits depth sent d t within t_is keeps later =
    subst (All (KeepsMotion limits depth)) (sym (drop_more sent d t within ∙ ap (λ (u : Traj). u ∷ drop (d + 1) sent) (sym t_is)))
    (All-cons (KeepsMotion limits depth) t (drop (d + 1) sent) keeps later)

pub keeps_over : (limits : Limits) (depth : ℕ) (sent : List Traj) (d : ℕ) → length sent ≤ d → All (KeepsMotion limits depth) (drop d sent)
keeps_over limits depth sent d over = subst (All (KeepsMotion limits depth)) (sym (drop_all d sent over)) (All-nil (KeepsMotion limits depth))

-- the answer for what fits is that for its show
pub motions_of_show : (f : Fitted) (s : PlainShow) (depth : ℕ) (accel jump : Option ℕ) (limits : Limits) (times : List ℕ) (sent : List Traj) (names : List Name) (result : Result Answer AllocError) →
    IsFitted f s → limits ≡ limits_of accel jump → times ≡ times_of s → sent ≡ f.sent → names ≡ f.names →
    IfOk result (λ a. outcome_of a ≡ refused_or (first_excess_of limits depth times sent names) (dynamics_text depth times sent names)) →
    IfOk result (λ a. outcome_of a ≡ refused_or (excess_in (limits_of accel jump) depth s) (dynamics_of depth s))
motions_of_show f s depth accel jump limits times sent names (Err e) is limits_are times_are sent_are names_are gives = tt
motions_of_show f s depth accel jump limits times sent names (Ok a) is limits_are times_are sent_are names_are gives =
    grind (arith, common_steps, times_are)

pub keeps_of_show : (f : Fitted) (s : PlainShow) (depth : ℕ) (accel jump : Option ℕ) (limits : Limits) (sent : List Traj) (result : Result Answer AllocError) →
    IsFitted f s → limits ≡ limits_of accel jump → sent ≡ f.sent →
    IfOk result (λ a. (outcome_of a).status ≡ 0 → All (KeepsMotion limits depth) sent) → IfOk result (λ a. (outcome_of a).status ≡ 0 → All (KeepsMotion (limits_of accel jump) depth) (sent_of s))
keeps_of_show f s depth accel jump limits sent (Err e) is limits_are sent_are keeps = tt
keeps_of_show f s depth accel jump limits sent (Ok a) is limits_are sent_are keeps =
    λ done. subst (λ (l : Limits). All (KeepsMotion l depth) (sent_of s)) limits_are (subst (All (KeepsMotion limits depth)) (sent_are ∙ is.sent) (keeps done))
