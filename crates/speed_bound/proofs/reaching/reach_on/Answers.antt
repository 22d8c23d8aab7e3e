use Rattle.speed_bound.proofs.Prelude.{All, All-get_or, IsMoving, rate, common_steps, ◌≡◌, ℕ, zero, suc, ◌+◌, ◌*◌, ◌<◌, max, min, arith, refl, ap, ◌∙◌, List, [], ◌∷◌, length, get_or, div_ceil, Traj, farthest, reach_of, traj_at, greatest_below, speed}
use Rattle.speed_bound.proofs.Reaches.{reach_by_speed}
use Rattle.speed_bound.proofs.Rests.{speed-is}
use Rattle.speed_bound.proofs.reaching.reach_on.Goals as goal

-- the way at the greatest speed of all trajectories
way_of : (depth late axis : ℕ) (trajs : List Traj) (way v i : ℕ) → way ≡ min farthest (div_ceil (late * v) 1000000) → v ≡ greatest_below i (λ drone. speed depth (traj_at trajs drone) axis) → i ≡ length trajs →
    way ≡ reach_of depth late trajs axis
way_of depth late axis trajs way v i way_is v_is all =
    way_is ∙ ap (λ (n : ℕ). min farthest (div_ceil (late * n) 1000000)) (v_is ∙ ap (λ (k : ℕ). greatest_below k (λ drone. speed depth (traj_at trajs drone) axis)) all) ∙ reach_by_speed depth late trajs axis

pub returns : goal.returns
returns c = grind (arith, common_steps, way_of)

same_item : (xs : List Traj) (i : ℕ) (d e : Traj) → i < length xs → get_or xs i d ≡ get_or xs i e
same_item [] i d e inside = absurd (omega arith)
same_item (x ∷ xs) zero d e inside = refl
same_item (x ∷ xs) (suc i) d e inside = same_item xs i d e (omega arith)

-- one trajectory more
next : (depth axis : ℕ) (trajs : List Traj) (t : Traj) (i v w : ℕ) → i < length trajs → t ≡ get_or trajs i t → All IsMoving trajs → v ≡ greatest_below i (λ drone. speed depth (traj_at trajs drone) axis) → w ≡ max v (rate 1 depth t axis) →
    w ≡ greatest_below (i + 1) (λ drone. speed depth (traj_at trajs drone) axis)
next depth axis trajs t i v w inside t_is moving v_is w_is =
    let here : IsMoving t = rw t_is (All-get_or IsMoving trajs i t inside moving) in
    let is : w ≡ max v (speed depth t axis) = w_is ∙ ap (λ (n : ℕ). max v n) (speed-is depth axis t here.durations) in
    grind (arith, common_steps, same_item, max, is)

pub loop-t-preserved : goal.loop-t-preserved
loop-t-preserved c = record {
  exact = next c.args.depth c.args.axis c.args.trajs.now c.t-item.result c.loop-t.t-index c.loop-t.fastest c.greatest_rate-fastest.result (grind (arith, common_steps)) (grind (arith, common_steps)) c.requires.moving
      c.loop-t.invariant.exact c.greatest_rate-fastest.ensures.exact;
  small = c.greatest_rate-fastest.ensures.small;
}
