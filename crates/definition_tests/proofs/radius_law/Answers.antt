-- The tests on the tables are computed: twelve halvings are enough for each.
use Rattle.definition_tests.proofs.Prelude.{refl}
use Rattle.definition_tests.proofs.Radii.{keeps_radius}
use Rattle.definition_tests.proofs.RadiusRounding.{arc_rounded, others_rounded}
use Rattle.definition_tests.proofs.radius_law.Goals as goal

pub returns : goal.returns
returns c = record {
  arc = keeps_radius 12 _ _ _ refl refl;
  swing = keeps_radius 12 _ _ _ refl refl;
  arc_in = keeps_radius 12 _ _ _ refl refl;
  arc_out = keeps_radius 12 _ _ _ refl refl;
  arc_rounded = arc_rounded;
  others_rounded = others_rounded;
}
