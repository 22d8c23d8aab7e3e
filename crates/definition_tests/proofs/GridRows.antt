-- Small shows with and without faults, computed.
use Rattle.definition_tests.proofs.Prelude.{refl}
use Rattle.definition_tests.specs.Grids.{CountRows, NamingRows}

pub counts : CountRows
counts = record {
  fits = refl;
  nobody = refl;
  many = refl;
  too_many = refl;
  nothing = refl;
  thousand = refl;
  thousand_and_one = refl;
  performed = refl;
}

pub naming : NamingRows
naming = record {
  doubled = refl;
  holding = refl;
  unknown = refl;
  twice = refl;
  formation = refl;
  no_formation = refl;
  formed_twice = refl;
  place_of_nobody = refl;
  two_places = refl;
  figure = refl;
  doubled_role = refl;
  unknown_role = refl;
  no_figure = refl;
  one_too_few = refl;
  by_nobody = refl;
  two_roles = refl;
  earlier = refl;
}
