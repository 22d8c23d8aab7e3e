-- What `speed` answers, drone by drone.
use Rattle.show_studies.proofs.Prelude.{common_steps, ◌≡◌, ℕ, zero, suc, ◌+◌, ◌<◌, ◌≤◌, cond, nat_lt, pos, List, ◌∷◌, ◌++◌, All, length, get_or, drop, Option, Some, None, Result, Ok, Err, IfOk, IfSome, refl, sym, ap, subst, ◌∙◌, arith, append_assoc, option_or, AllocError, drop_all, drop_more, All-cons, All-nil, Name, PlainShow, Refusal, Fitted, IsFitted, Traj, Answer, outcome_of, KeepsBounds, above, first_too_fast, speed_of_drone, speed_text, too_fast_by, sent_of, none_both}
use Rattle.speed_bound.specs.Speed.{speed}
use Rattle.std.proofs.lemmas.Bool.Decides.{nat_tests}

-- what is left of drones and names from a drone on, as that drone and what comes after it
pub left_from : {Y : Type 0} (F : List Traj → List Name → Y) (sent : List Traj) (names : List Name) (d : ℕ) (t : Traj) (name : Name) → d < length sent → d < length names →
    t ≡ get_or sent d t → name ≡ get_or names d name → F (drop d sent) (drop d names) ≡ F (t ∷ drop (d + 1) sent) (name ∷ drop (d + 1) names)
left_from F sent names d t name within inside t_is name_is =
    ap (λ (ts : List Traj). F ts (drop d names)) (drop_more sent d t within ∙ ap (λ (u : Traj). u ∷ drop (d + 1) sent) (sym t_is))
    ∙ ap (λ (ns : List Name). F (t ∷ drop (d + 1) sent) ns) (drop_more names d name inside ∙ ap (λ (n : Name). n ∷ drop (d + 1) names) (sym name_is))

-- one line more: what is to come is less by it
pub speeds_next : (depth : ℕ) (text more : List ℕ) (sent : List Traj) (names : List Name) (d : ℕ) (t : Traj) (name : Name) → d < length sent → d < length names →
    t ≡ get_or sent d t → name ≡ get_or names d name → more ≡ text ++ speed_of_drone depth t name →
    more ++ speed_text depth (drop (d + 1) sent) (drop (d + 1) names) ≡ text ++ speed_text depth (drop d sent) (drop d names)
speeds_next depth text more sent names d t name within inside t_is name_is more_is = grind (arith, common_steps, drop, append_assoc, left_from)

pub after_none : (a b : Option Refusal) → a ≡ None → option_or a b ≡ b
after_none a b none = rw none refl

pub first_there : (a b : Option Refusal) (r : Refusal) → a ≡ Some r → option_or a b ≡ Some r
first_there a b r is = rw is refl

-- a drone whose bounds aren't refused leaves the refusal to those after it
pub refusal_next : (limit : Option ℕ) (depth : ℕ) (sent : List Traj) (names : List Name) (d : ℕ) (t : Traj) (name : Name) → d < length sent → d < length names →
    t ≡ get_or sent d t → name ≡ get_or names d name → too_fast_by limit depth t name ≡ None →
    first_too_fast limit depth (drop (d + 1) sent) (drop (d + 1) names) ≡ first_too_fast limit depth (drop d sent) (drop d names)
refusal_next limit depth sent names d t name within inside t_is name_is none =
    sym (left_from (first_too_fast limit depth) sent names d t name within inside t_is name_is
    ∙ after_none (too_fast_by limit depth t name) (first_too_fast limit depth (drop (d + 1) sent) (drop (d + 1) names)) none)

-- a drone that keeps its bounds more
pub keeps_next : (limit : Option ℕ) (depth : ℕ) (sent : List Traj) (d : ℕ) (t : Traj) → d < length sent → t ≡ get_or sent d t → KeepsBounds limit depth t →
    All (KeepsBounds limit depth) (drop (d + 1) sent) → All (KeepsBounds limit depth) (drop d sent)
keeps_next limit depth sent d t within t_is keeps later =
    subst (All (KeepsBounds limit depth)) (sym (drop_more sent d t within ∙ ap (λ (u : Traj). u ∷ drop (d + 1) sent) (sym t_is)))
    (All-cons (KeepsBounds limit depth) t (drop (d + 1) sent) keeps later)

-- what the drones of what fits keep, those of its show keep
pub bounds_of_show : (f : Fitted) (s : PlainShow) (depth : ℕ) (limit : Option ℕ) (sent : List Traj) (result : Result Answer AllocError) → IsFitted f s → sent ≡ f.sent →
    IfOk result (λ a. (outcome_of a).status ≡ 0 → All (KeepsBounds limit depth) sent) → IfOk result (λ a. (outcome_of a).status ≡ 0 → All (KeepsBounds limit depth) (sent_of s))
bounds_of_show f s depth limit sent (Err e) is sent_are keeps = tt
bounds_of_show f s depth limit sent (Ok a) is sent_are keeps = λ done. subst (All (KeepsBounds limit depth)) (sent_are ∙ is.sent) (keeps done)

-- after the last drone nothing is left to keep
pub keeps_over : (limit : Option ℕ) (depth : ℕ) (sent : List Traj) (d : ℕ) → length sent ≤ d → All (KeepsBounds limit depth) (drop d sent)
keeps_over limit depth sent d over = subst (All (KeepsBounds limit depth)) (sym (drop_all d sent over)) (All-nil (KeepsBounds limit depth))

-- ---- bounds that aren't refused are within the limit

above_none : (limit : ℕ) (name : Name) (axis v : ℕ) → above (Some limit) name axis v ≡ None → v ≤ limit
above_none limit name axis v none = grind (arith, common_steps, nat_lt, nat_tests, cond, pos)

within_axes : (most : ℕ) (depth : ℕ) (t : Traj) → speed depth t 0 ≤ most → speed depth t 1 ≤ most → speed depth t 2 ≤ most → (axis : ℕ) → axis ≤ 2 → speed depth t axis ≤ most
within_axes most depth t x y z zero small = x
within_axes most depth t x y z (suc zero) small = y
within_axes most depth t x y z (suc (suc zero)) small = z
within_axes most depth t x y z (suc (suc (suc n))) small = absurd (omega (arith, small))

pub bounds_within : (limit : Option ℕ) (depth : ℕ) (t : Traj) (name : Name) → too_fast_by limit depth t name ≡ None → IfSome limit (λ most. (axis : ℕ) → axis ≤ 2 → speed depth t axis ≤ most)
bounds_within None depth t name none = tt
bounds_within (Some most) depth t name none = grind (arith, common_steps, none_both, within_axes, above_none)
