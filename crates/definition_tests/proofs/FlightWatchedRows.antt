-- Who is off where it is told to be, and who isn't.
use Rattle.definition_tests.proofs.Prelude.{refl}
unfoldable use Rattle.flight_model.specs.Legs.{steps_of}
unfoldable use Rattle.flight_model.specs.Samples.{is_kept, is_on_course}
unfoldable use Rattle.flight_model.specs.Example.{flight}
unfoldable use Rattle.flight_model.specs.Rows.{is_off_at}
use Rattle.definition_tests.specs.FlightWatched.{WatchedRows}
unfoldable use Rattle.whole_numbers.specs.Decoded.{decoded}
unfoldable use Rattle.whole_numbers.specs.Moments.{moment}
unfoldable use Rattle.whole_numbers.specs.Bernstein.{bernstein}

pub watched_rows : WatchedRows
unfolding steps_of is_kept is_on_course flight is_off_at decoded moment bernstein
watched_rows = record {
  joined = refl;
  armed = refl;
  hops = refl;
  high = refl;
  higher = refl;
  low = refl;
  lower = refl;
  aside = refl;
  farther = refl;
  aslant = refl;
  corner = refl;
  other = refl;
  late = refl;
  later = refl;
  earlier = refl;
  just = refl;
  waits = refl;
  climbs = refl;
  sinks = refl;
  falls = refl;
  shows = refl;
  strays = refl;
  ends = refl;
  leaves = refl;
  down_low = refl;
  down_lower = refl;
  down_high = refl;
  down_higher = refl;
  before = refl;
  lands = refl;
}
