-- Items of the grammar, computed.
use Rattle.definition_tests.proofs.Prelude.{◌≡◌, ◌≤◌, false, true, arith, refl}
use Rattle.definition_tests.specs.Items.{ItemRows, SingleRows}

pub single : SingleRows
single = record {
  each = record { memory = omega arith; trajectory = omega arith; ellipsoid = omega arith; stray = omega arith; late = omega arith };
  none = record { memory = omega arith; trajectory = omega arith; ellipsoid = omega arith; stray = omega arith; late = omega arith };
  memory = λ is. let few : 2 ≤ 1 = is.memory in absurd (omega (arith, few));
  trajectory = λ is. let few : 2 ≤ 1 = is.trajectory in absurd (omega (arith, few));
  ellipsoid = λ is. let few : 2 ≤ 1 = is.ellipsoid in absurd (omega (arith, few));
  stray = λ is. let few : 2 ≤ 1 = is.stray in absurd (omega (arith, few));
  late = λ is. let few : 2 ≤ 1 = is.late in absurd (omega (arith, few));
  between = λ is. let few : 2 ≤ 1 = is.stray in absurd (omega (arith, few));
}

pub items : ItemRows
items = record {
  formation_of_one = omega arith;
  empty_formation = λ is. let some : 1 ≤ 0 = is in absurd (omega (arith, some));
  blocks = (refl, omega arith);
  empty_repeat = λ is. let filled : false ≡ true = is.0 in cc;
  eight_deep = (refl, omega arith);
  nine_deep = λ is. let deep : 9 ≤ 8 = is.1 in absurd (omega (arith, deep));
  figure = (refl, refl, refl, omega arith);
  empty_figure = λ is. let some : false ≡ true = is.0 in cc;
  figure_with_an_empty_repeat = λ is. let filled : false ≡ true = is.2 in cc;
  figure_eight_deep = (refl, refl, refl, omega arith);
  figure_nine_deep = λ is. let deep : 9 ≤ 8 = is.3 in absurd (omega (arith, deep));
  figure_with_a_form = λ is. let fits : false ≡ true = is.1 in cc;
  figure_with_a_perform = λ is. let fits : false ≡ true = is.1 in cc;
}
