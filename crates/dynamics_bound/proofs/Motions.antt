-- The extremes of trajectories that come one after another.
use Rattle.dynamics_bound.proofs.Prelude.{common_steps, ◌≡◌, ℕ, ◌+◌, ◌<◌, max, List, ◌∷◌, length, get_or, drop, sym, ap, ◌∙◌, arith, drop_more, Traj, extremes, extremes_of, greater}
use Rattle.dynamics_bound.specs.declared.motion.Axes.{Axes}
use Rattle.dynamics_bound.specs.declared.motion.Extremes.{Extremes}

axes_by : (a b : Axes) → a.x ≡ b.x → a.y ≡ b.y → a.z ≡ b.z → a ≡ b
axes_by a b x y z = grind (arith, common_steps)

extremes_by : (a b : Extremes) → a.accelerations ≡ b.accelerations → a.jumps ≡ b.jumps → a ≡ b
extremes_by a b accelerations jumps = grind (arith, common_steps)

max_three : (a b c : ℕ) → max (max a b) c ≡ max a (max b c)
max_three a b c = omega arith

-- the greatest of trajectories, and of one more before others
greater_next : (m g r : Extremes) → greater (greater m g) r ≡ greater m (greater g r)
greater_next m g r = grind (arith, common_steps, extremes_by, axes_by, max_three)

-- the extremes of one trajectory more
pub extremes_next : (depth : ℕ) (m : Extremes) (sent : List Traj) (d : ℕ) (t : Traj) → d < length sent → t ≡ get_or sent d t →
    greater (greater m (extremes depth t)) (extremes_of depth (drop (d + 1) sent)) ≡ greater m (extremes_of depth (drop d sent))
extremes_next depth m sent d t within t_is =
    greater_next m (extremes depth t) (extremes_of depth (drop (d + 1) sent))
    ∙ ap (λ (ts : List Traj). greater m (extremes_of depth ts)) (sym (drop_more sent d t within ∙ ap (λ (u : Traj). u ∷ drop (d + 1) sent) (sym t_is)))
