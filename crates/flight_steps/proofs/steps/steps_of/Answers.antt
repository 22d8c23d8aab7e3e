use Rattle.flight_steps.proofs.Prelude.{◌≡◌, ◌∙◌, List, ap, map, sym, subst, length, All, Leg, Step, Routes, legs_of, steps_between, routes, IsStepOf}
unfoldable use Rattle.flight_model.specs.Legs.{steps_of}
use Rattle.flight_steps.proofs.Counted.{sizes}
use Rattle.flight_steps.proofs.Judged.{flight-of, fault-of}
use Rattle.flight_steps.proofs.steps.steps_of.Goals as goal

-- the steps that were made of legs are those of the routes
made : (w : Routes) (ups downs : List (List Leg)) (steps : List Step) → steps ≡ steps_between w ups downs → ups ≡ map legs_of w.up → downs ≡ map legs_of w.down →
    steps ≡ steps_of w
unfolding steps_of
made w ups downs steps e p q =
    e ∙ (ap (λ (all : List (List Leg)). steps_between w all downs) p ∙ ap (λ (all : List (List Leg)). steps_between w (map legs_of w.up) all) q)

pub returns-in-Some : goal.returns-in-Some
returns-in-Some c = fault-of c.args.crews.now (routes c.args.w.now) c.in-Some.fault (sym c.in-Some.ensures)

pub returns : goal.returns
returns c =
    let w = routes c.args.w.now in
    let flight = flight-of c.args.crews.now c.args.w.now c.requires (sym c.in-None.ensures) in
    let steps =
    made w _ _ _ c.in_ok-steps-in-None.ensures (c.as_slice-in-None.ensures.value ∙ c.in_ok-ups.ensures)
    (c.as_slice-in-None-2.ensures.value ∙ c.in_ok-downs.ensures) in
    record {
      flight = flight;
      steps = steps;
      sizes = subst (λ (xs : List Step). All (IsStepOf (length w.show)) xs) (sym steps) (sizes w flight.flight);
    }
