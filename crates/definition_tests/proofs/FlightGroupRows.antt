-- Whom packets for a group reach, and when drones are armed.
use Rattle.definition_tests.proofs.Prelude.{refl}
use Rattle.definition_tests.specs.FlightGroup.{GroupRows}
unfoldable use Rattle.flight_model.specs.Legs.{steps_of}
unfoldable use Rattle.flight_model.specs.Samples.{is_fit_by, is_kept, is_on_course}
unfoldable use Rattle.flight_model.specs.Directors.{tracks_after, heard, may_land, is_due, notes, is_fault, choice, done, led, happens, says}
unfoldable use Rattle.whole_numbers.specs.Decoded.{decoded}
unfoldable use Rattle.whole_numbers.specs.Moments.{moment}
unfoldable use Rattle.whole_numbers.specs.Bernstein.{bernstein}
unfoldable use Rattle.flight_model.specs.Example.{flight}
unfoldable use Rattle.definition_tests.specs.FlightGroup.{said_at}

pub group_rows : GroupRows
unfolding steps_of is_fit_by is_kept is_on_course tracks_after heard may_land is_due notes is_fault choice done led happens says flight said_at decoded moment bernstein
group_rows = record {
  to_all = refl;
  to_everybody = refl;
  to_none = refl;
  to_first = refl;
  to_second = refl;
  to_both = refl;
  to_third = refl;
  beside = refl;
  to_last = refl;
  before_last = refl;
  stays = refl;
  stays_in_another = refl;
  leaps = refl;
  falls = refl;
  flies = refl;
  deaf = refl;
  answered = refl;
  answered_by_turns = refl;
  one_answer = refl;
  one_twice = refl;
  old_answer = refl;
  early_go = refl;
  other_answer = refl;
  refuses = refl;
}
