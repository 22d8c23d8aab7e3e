-- From points to drones: two points are apart exactly where the drones there are.
use Rattle.touch_witness.proofs.Prelude.{common_steps, ◌≡◌, ℕ, ℤ, pos, ◌≤ℤ◌, ◌<ℤ◌, subst, List, arith, Traj, Point, left_of, listed, ArePlaces, IsPlace, PairDisjoint, PairTouches, SidesDisjoint, SidesTouch, left_side, point_at, right_side}

-- the left side is that of the drones
pub sides : (t u : Traj) (r h fine cue at : ℕ) (p q : Point) → IsPlace t fine cue at p → IsPlace u fine cue at q →
    left_side r h p q ≡ left_of t u r h (listed fine cue at)
unfolding left_side
sides t u r h fine cue at p q first second = grind (arith, common_steps, pos)

-- points that are apart are drones that are
pub pair_disjoint : (trajs : List Traj) (r h fine cue at a b : ℕ) (points : List Point) → ArePlaces trajs fine cue at points → PairDisjoint points r h fine a b → SidesDisjoint trajs r h fine (record { cue = cue; at = at; a = a; b = b })
unfolding right_side
pair_disjoint trajs r h fine cue at a b points places apart t u t_is u_is =
    subst (λ (z : ℤ). right_side r h fine <ℤ z) (sides t u r h fine cue at (point_at points a) (point_at points b) (places a t t_is) (places b u u_is)) apart

-- points that touch are drones that do
pub pair_touches : (trajs : List Traj) (r h fine cue at a b : ℕ) (points : List Point) → ArePlaces trajs fine cue at points → PairTouches points r h fine a b → SidesTouch trajs r h fine (record { cue = cue; at = at; a = a; b = b })
unfolding right_side
pair_touches trajs r h fine cue at a b points places touches t u t_is u_is =
    subst (λ (z : ℤ). z ≤ℤ right_side r h fine) (sides t u r h fine cue at (point_at points a) (point_at points b) (places a t t_is) (places b u u_is)) touches
