-- Small ways that are no flight, beside ways that are one.
use Rattle.flight_steps.proofs.Prelude.{◌≡◌, refl, Some, arith, Routes, FlightFault, route_fault}
use Rattle.flight_steps.specs.Rejected.{hop, bent_hop, high_hop, Refuses, FlightRows}
use Rattle.flight_steps.proofs.Judged.{route-of, route-to}

refused : (w : Routes) (f : FlightFault) → route_fault w ≡ Some f → Refuses w f
refused w f e = record { first = e; none = λ flight. let n = route-to w flight in absurd (cc) }

pub rows : FlightRows
rows = record {
  straight = route-of hop refl refl refl;
  bent = route-of bent_hop refl refl refl;
  high = route-of high_hop refl refl refl;
  none_up = λ f. let e = f.ups in omega (arith, e);
  none_down = λ f. let e = f.downs in omega (arith, e);
  high_show = refused _ _ refl;
  low_return = refused _ _ refl;
  high_pad = refused _ _ refl;
  restless_up = refused _ _ refl;
  restless_down = refused _ _ refl;
  still_up = refused _ _ refl;
  still_down = refused _ _ refl;
  slant_up = refused _ _ refl;
  slant_down = refused _ _ refl;
  falls_first = refused _ _ refl;
  rises_last = refused _ _ refl;
  narrow = refused _ _ refl;
}
