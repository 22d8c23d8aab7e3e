-- What the flight director says in a small flight, computed.
use Rattle.definition_tests.proofs.Prelude.{refl}
unfoldable use Rattle.flight_model.specs.Legs.{steps_of}
unfoldable use Rattle.flight_model.specs.Samples.{is_fit_by, is_kept, is_on_course}
unfoldable use Rattle.flight_model.specs.Directors.{tracks_after, heard, may_land, is_due, notes, is_fault, choice, done, led, happens, says}
unfoldable use Rattle.whole_numbers.specs.Decoded.{decoded}
unfoldable use Rattle.whole_numbers.specs.Moments.{moment}
unfoldable use Rattle.whole_numbers.specs.Bernstein.{bernstein}
unfoldable use Rattle.flight_model.specs.Example.{flight}
unfoldable use Rattle.definition_tests.specs.FlightSaid.{fits, says_all, comes_to, begun, plan}
use Rattle.definition_tests.specs.FlightSaid.{SaidRows}

pub said_rows : SaidRows
unfolding steps_of is_fit_by is_kept is_on_course tracks_after heard may_land is_due notes is_fault choice done led happens says flight says_all comes_to begun plan fits decoded moment bernstein
said_rows = record {
  planned = refl;
  rises = refl;
  readies = refl;
  starts = refl;
  shows = refl;
  downs = refl;
  lands = refl;
  high = refl;
  low = refl;
  one_high = refl;
  turns = refl;
  turned = refl;
  turned_early = refl;
  early = refl;
  silent = refl;
  unkept = refl;
  leapt = refl;
  astray = refl;
  leaps = refl;
  leaps_on = refl;
  renews = refl;
  drifts = refl;
  unsure = refl;
  unsure_waiting = refl;
  unsure_on = refl;
  unsure_unkept = refl;
  in_room = refl;
  past_right = refl;
  past_near = refl;
  past_top = refl;
  past_waiting = refl;
  past_showing = refl;
  past_flying = refl;
  past_landing = refl;
  past_armed = refl;
  past_off = refl;
  refuses = refl;
  lates = refl;
  near = refl;
  past = refl;
  corner = refl;
}
