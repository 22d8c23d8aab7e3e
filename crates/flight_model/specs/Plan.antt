-- The orders that the steps of a flight have for one drone.
use Rattle.std.specs.Prelude.{◌≡◌, ℕ, List, [], ◌∷◌, ◌++◌, map, slice_get, Option, Some, None}
use Rattle.std.specs.List.{flat_map, range_with_len}
use Rattle.traj_codec.specs.declared.traj.Traj.{Traj}
use Rattle.flight_model.specs.declared.events.Order.{Order}
use Rattle.flight_model.specs.declared.events.Order.TheVariants as order
use Rattle.flight_model.specs.Legs.{Routes, Leg, legs_of, leg_count, arm_order, up_order, down_order, steps_of}
use Rattle.flight_model.specs.Law.{ordered}

abbrev pub one_of : Option Order → List Order
one_of None = []
one_of (Some o) = o ∷ []

-- leg k of the way up: armed where the drone rises in it, and then the leg's own order
abbrev pub up_leg : List Leg → ℕ → List Order
up_leg legs k = one_of (arm_order legs k) ++ one_of (up_order legs k)

-- The group, leg by leg up, the start, leg by leg down, and disarm.
abbrev pub plan_of : Routes → List Leg → List Leg → List Order
plan_of w up down =
    order.Group ∷ flat_map (up_leg up) (range_with_len 0 (leg_count (map legs_of w.up)))
    ++ order.Start ∷ (flat_map (λ k. one_of (down_order down k)) (range_with_len 0 (leg_count (map legs_of w.down)))
    ++ order.Disarm ∷ [])

abbrev pub PlanLaw : Type 0
PlanLaw = (w : Routes) (d : ℕ) (up down : Traj) → slice_get w.up d ≡ Some up → slice_get w.down d ≡ Some down →
    ordered d (steps_of w) ≡ plan_of w (legs_of up) (legs_of down)
