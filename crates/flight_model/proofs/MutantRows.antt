-- Values that no law says, computed.
use Rattle.flight_model.proofs.Prelude.{refl}
unfoldable use Rattle.flight_model.specs.Legs.{steps_of}
unfoldable use Rattle.flight_model.specs.Samples.{is_kept, is_on_course}
unfoldable use Rattle.flight_model.specs.Example.{flight}
unfoldable use Rattle.flight_model.specs.Rows.{is_off_at}
use Rattle.flight_model.specs.Rows.{MutantRows}
unfoldable use Rattle.whole_numbers.specs.Decoded.{decoded}
unfoldable use Rattle.whole_numbers.specs.Moments.{moment}
unfoldable use Rattle.whole_numbers.specs.Bernstein.{bernstein}

pub mutant_rows : MutantRows
unfolding steps_of is_kept is_on_course flight is_off_at decoded moment bernstein
mutant_rows = record { higher = refl; climbs = refl; to_second = refl }
