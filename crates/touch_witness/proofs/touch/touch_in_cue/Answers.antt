use Rattle.touch_witness.proofs.Prelude.{common_steps, ℕ, ◌<◌, inl, inr, arith, sym, subst, List, length, below_more, Traj, Point, SidesDisjoint, AllDisjoint, ArePlaces, IsFirstPair, PairDisjoint, PairBefore}
use Rattle.touch_witness.proofs.Pairs.{pair_disjoint, pair_touches}
use Rattle.touch_witness.proofs.touch.touch_in_cue.Goals as goal

pub loop-at-preserved : goal.loop-at-preserved
loop-at-preserved c =
    below_more _ _ c.loop-at.invariant
    (λ a b order inside. pair_disjoint c.args.trajs.now c.args.axes.r c.args.axes.h c.args.fine c.args.cue c.loop-at.at a b c.places-points.result c.places-points.ensures.places
    (every c.places-points.result c.args.axes.r c.args.axes.h c.args.fine (length c.args.trajs.now) a b c.in_default.ensures order inside))
  where
    every : (points : List Point) (r h fine n a b : ℕ) → AllDisjoint points r h fine n n → a < b → b < n → PairDisjoint points r h fine a b
    every points r h fine n a b all order inside = all a (omega arith) b inside order

earlier_pair : (points : List Point) (trajs : List Traj) (r h fine cue at a b d e : ℕ) → ArePlaces trajs fine cue at points → IsFirstPair points r h fine (length trajs) a b → d < e → e < length trajs → PairBefore d e a b →
    SidesDisjoint trajs r h fine (record { cue = cue; at = at; a = d; b = e })
earlier_pair points trajs r h fine cue at a b d e places found order inside (inl earlier) =
    pair_disjoint trajs r h fine cue at d e points places (found.none_before d earlier e inside order)
earlier_pair points trajs r h fine cue at a b d e places found order inside (inr same) =
    subst (λ (k : ℕ). SidesDisjoint trajs r h fine (record { cue = cue; at = at; a = k; b = e })) (sym same.0)
    (pair_disjoint trajs r h fine cue at a e points places (found.first.none_before e same.1 (rw same.0 at order)))

pub returns-in-Some : goal.returns-in-Some
returns-in-Some c = grind (arith, common_steps, pair_touches, earlier_pair)
