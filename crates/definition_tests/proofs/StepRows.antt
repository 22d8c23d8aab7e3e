-- The steps of a flight and the bytes of its events, computed.
use Rattle.definition_tests.proofs.Prelude.{refl}
use Rattle.definition_tests.specs.Steps.{DirectorRows, EventRows, StepRows}

pub steps : StepRows
steps = record {
  moved = refl;
  moving = refl;
  arms = refl;
  up = refl;
  down = refl;
  axes = refl;
  before = refl;
  until = refl;
  holds = refl;
  bounds_up = refl;
  bounds_down = refl;
  ready = refl;
  risen = refl;
  rises = refl;
  stays = refl;
  in_the_air = refl;
  landed = refl;
  begins = refl;
  ends = refl;
  first_arm = refl;
  later_arm = refl;
  leg_up = refl;
  start = refl;
  leg_down = refl;
  after_show = refl;
  last = refl;
  ten = refl;
  in_order = refl;
}

pub events : EventRows
events = record {
  times = refl;
  answers = refl;
  signals = refl;
  flags = refl;
  first_end = refl;
}

pub directors : DirectorRows
directors = record {
  silent = refl;
  seen = refl;
  in_it = λ f s. refl;
  after_it = λ f s. refl;
  the_end = λ f. refl;
  numbered = refl;
}
