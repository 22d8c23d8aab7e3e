-- Options, read.
use Rattle.definition_tests.proofs.Prelude.{refl}
use Rattle.command_words.specs.Commands.{value_of}
use Rattle.definition_tests.specs.Options.{OptionRows}

pub options : OptionRows
unfolding value_of
options = record {
  depth_zero = refl;
  depth_most = refl;
  too_deep = refl;
  step_least = refl;
  step_most = refl;
  no_step = refl;
  fine_least = refl;
  fine_most = refl;
  limit_least = refl;
  limit_most = refl;
  accel_least = refl;
  jump_most = refl;
  ten_digits = refl;
  near_least = refl;
  near_most = refl;
  too_near = refl;
  at_least = refl;
  too_far = refl;
  silence_most = refl;
  too_silent = refl;
  floor_most = refl;
  descent_least = refl;
  no_descent = refl;
  slow_descent = refl;
  drill_least = refl;
  drill_most = refl;
  no_drill = refl;
  plain_compile = refl;
  plain_certify = refl;
  plain_report = refl;
  plain_verify = refl;
  plain_boxes = refl;
  plain_explain = refl;
  plain_help = refl;
  plain_rehearse = refl;
}
