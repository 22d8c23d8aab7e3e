-- When all may land, and what is said where they wait for it, in the small flight.
use Rattle.definition_tests.proofs.Prelude.{refl}
use Rattle.definition_tests.specs.FlightCovered.{CoveredRows}
unfoldable use Rattle.definition_tests.specs.FlightCovered.{may, said_before, said_late}
unfoldable use Rattle.flight_model.specs.Legs.{steps_of}
unfoldable use Rattle.flight_model.specs.Samples.{is_fit_by, is_kept, is_on_course}
unfoldable use Rattle.flight_model.specs.Directors.{tracks_after, heard, may_land, is_due, notes, is_fault, choice, done, led, happens, says}
unfoldable use Rattle.whole_numbers.specs.Decoded.{decoded}
unfoldable use Rattle.whole_numbers.specs.Moments.{moment}
unfoldable use Rattle.whole_numbers.specs.Bernstein.{bernstein}
unfoldable use Rattle.flight_model.specs.Example.{flight}

pub covered_rows : CoveredRows
unfolding may said_before said_late steps_of is_fit_by is_kept is_on_course tracks_after heard may_land is_due notes is_fault choice done led happens says flight decoded moment bernstein
covered_rows = record {
  unlisted = refl;
  no_window = refl;
  on_pads = refl;
  from = refl;
  sooner = refl;
  to = refl;
  later = refl;
  step_before = refl;
  step_after = refl;
  second = refl;
  hears = refl;
  deaf = refl;
  either = refl;
  only_deaf = refl;
  other_deaf = refl;
  nobody_deaf = refl;
  two_deaf = refl;
  first_lacks = refl;
  second_lacks = refl;
  both_lack = refl;
  none_hears = refl;
  second_over = refl;
  one_of_two = refl;
  unheard = refl;
  unrisen = refl;
  waits = refl;
  lands = refl;
  at_once = refl;
  said_twice = refl;
  stops = refl;
  no_start = refl;
  starts = refl;
}
