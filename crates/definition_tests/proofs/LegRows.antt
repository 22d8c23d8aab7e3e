-- The legs and the end of a flight, computed.
use Rattle.definition_tests.proofs.Prelude.{◌≡◌, [], ◌∷◌, ap, arith, refl, stay}
use Rattle.flight_steps.specs.declared.ways.Ellipsoid.{Ellipsoid}
use Rattle.show_direct.specs.Flights.{AreFlight}
use Rattle.command_words.specs.declared.flight.FlightOptions.{FlightOptions}
use Rattle.definition_tests.specs.Legs.{LegRows, wide}

other_up : (o : FlightOptions) → AreFlight o wide stay stay → ⊥
other_up o f = absurd (omega (arith, ap (λ (e : Ellipsoid). e.r) f.up_ellipsoid))

other_down : (o : FlightOptions) → AreFlight o stay stay wide → ⊥
other_down o f = absurd (omega (arith, ap (λ (e : Ellipsoid). e.r) f.down_ellipsoid))

pub legs : LegRows
legs = record {
  no_drone = refl;
  none_lasts = refl;
  past_the_last = refl;
  armed = refl;
  at_once = refl;
  silence = λ up show down. refl;
  most_silence = λ up show down. refl;
  flown = refl;
  other_up = other_up;
  other_down = other_down;
  none_begun = λ byte later is cut. absurd (cc);
  begun = λ none. none 1 (2 ∷ []) tt refl;
  full = refl;
}
