-- For how many drones a step is.
use Rattle.std.specs.Prelude.{◌≡◌, ◌⊎◌, ℕ, false, List, [], ◌∷◌, length, Some, None, pos}
use Rattle.flight_model.specs.declared.events.Order.TheVariants as order
use Rattle.flight_model.specs.declared.flights.Condition.{Condition}
use Rattle.flight_model.specs.declared.flights.Orders.{Orders}
use Rattle.flight_model.specs.declared.flights.Orders.TheVariants.{Each, All as ToEach}
use Rattle.flight_model.specs.declared.flights.Step.{Step}

-- no condition, as in the step that puts drones into the group; or one for each of this many drones
abbrev pub AreConditionsOf : ℕ → List Condition → Type 0
AreConditionsOf drones ws = (ws ≡ []) ⊎ (length ws ≡ drones)

-- an order or none for each of this many drones, or one order for all at once
abbrev pub AreOrdersOf : ℕ → Orders → Type 0
AreOrdersOf drones (Each orders) = length orders ≡ drones
AreOrdersOf drones (ToEach o) = Unit {0}

pub record IsStepOf (drones : ℕ) (s : Step) : Type 0 where
  pub conditions : AreConditionsOf drones s.conditions
  pub orders : AreOrdersOf drones s.orders

-- ---- by hand

-- 80 mm around the origin
abbrev pub anywhere : Condition
anywhere = record {
  position = record { x = pos 0; y = pos 0; z = pos 0 };
  bound = 80;
  ready = false;
  armed = false;
  down = false;
}

-- a step with these conditions and these orders
abbrev pub step_by : List Condition → Orders → Step
step_by ws orders = record {
  asked = false;
  after = 0;
  settle = 0;
  answered = false;
  conditions = ws;
  orders = orders;
  holds = None;
}

-- two drones are told to arm
abbrev pub two_arm : Orders
two_arm = Each (Some order.Arm ∷ Some order.Arm ∷ [])

-- Steps for two drones, and beside them steps that are for none or for others.
pub record SizeRows : Type 0 where
  pub none : IsStepOf 2 (step_by [] two_arm)
  pub one : IsStepOf 2 (step_by (anywhere ∷ []) two_arm) → ⊥
  pub two : IsStepOf 2 (step_by (anywhere ∷ anywhere ∷ []) two_arm)
  pub three : IsStepOf 2 (step_by (anywhere ∷ anywhere ∷ anywhere ∷ []) two_arm) → ⊥
  -- one of them has an order; there is one order alone; and one for all
  pub idle : IsStepOf 2 (step_by [] (Each (Some order.Arm ∷ None ∷ [])))
  pub short : IsStepOf 2 (step_by [] (Each (Some order.Arm ∷ []))) → ⊥
  pub to_all : IsStepOf 2 (step_by [] (ToEach order.Start))
