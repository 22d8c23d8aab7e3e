-- Names and numbers at the ends of their ranges, computed.
use Rattle.definition_tests.proofs.Prelude.{◌≡◌, ◌≤◌, ℕ, zero, suc, false, true, [], map, arith, refl, AreNames}
use Rattle.definition_tests.specs.Ranges.{NameRows, NumberRows, SettingRows, roles}

pub names : NameRows
names = record {
  one = refl;
  sixteen = refl;
  seventeen = refl;
  nothing = refl;
  each = refl;
  digit_first = refl;
  line_first = refl;
  capital = refl;
  hyphen = refl;
  form = refl;
  forms = refl;
  last = refl;
  ends = refl;
  drones = (
    refl,
    ((omega arith, omega arith), (omega arith, omega arith), (omega arith, omega arith), (omega arith, omega arith)),
    (refl, ((omega arith, omega arith), (omega arith, omega arith), (omega arith, omega arith), (omega arith, omega arith)), tt),
  );
  long_drone = λ fit. let name : false ≡ true = fit.2.0 in cc;
  nameless_drone = λ fit. let name : false ≡ true = fit.0 in cc;
  long_role = λ fit. let name : false ≡ true = fit.1.2.0 in cc;
  long_figure = λ fit. let name : false ≡ true = fit.0 in cc;
}

pub settings : SettingRows
settings = record {
  least = (omega arith, omega arith, omega arith, omega arith, omega arith, omega arith, omega arith, omega arith);
  greatest = (omega arith, omega arith, omega arith, omega arith, omega arith, omega arith, omega arith, omega arith);
  offset = λ fit. let over : 4096 ≤ 4095 = fit.0 in absurd (omega (arith, over));
  id = λ fit. let over : 10 ≤ 9 = fit.1 in absurd (omega (arith, over));
  thin = λ fit. let under : 1 ≤ 0 = fit.2 in absurd (omega (arith, under));
  wide = λ fit. let over : 2001 ≤ 2000 = fit.3 in absurd (omega (arith, over));
  flat = λ fit. let under : 1 ≤ 0 = fit.4 in absurd (omega (arith, under));
  high = λ fit. let over : 2001 ≤ 2000 = fit.5 in absurd (omega (arith, over));
  stray = λ fit. let over : 1001 ≤ 1000 = fit.6 in absurd (omega (arith, over));
  late = λ fit. let over : 1001 ≤ 1000 = fit.7 in absurd (omega (arith, over));
}

-- the names of roles fit, however many there are
roles_fit : (n : ℕ) → AreNames (roles n)
roles_fit zero = tt
roles_fit (suc n) = (refl, roles_fit n)

pub numbers : NumberRows
numbers = record {
  far = ((omega arith, omega arith), (omega arith, omega arith), (omega arith, omega arith), (omega arith, omega arith));
  turned = ((omega arith, omega arith), (omega arith, omega arith), (omega arith, omega arith), (omega arith, omega arith));
  x = λ fit. let over = fit.0.1 in absurd (omega (arith, over));
  y = λ fit. let under = fit.1.0 in absurd (omega (arith, under));
  z = λ fit. let over = fit.2.1 in absurd (omega (arith, over));
  yaw = λ fit. let over = fit.3.1 in absurd (omega (arith, over));
  yaw_below = λ fit. let under = fit.3.0 in absurd (omega (arith, under));
  turn = (omega arith, omega arith);
  too_far_a_turn = λ fit. let over = fit.1 in absurd (omega (arith, over));
  move = ((omega arith, omega arith), (omega arith, omega arith), (omega arith, omega arith), (omega arith, omega arith));
  too_far_a_move = λ fit. let under = fit.2.0 in absurd (omega (arith, under));
  frames = (omega arith, (omega arith, omega arith), (omega arith, omega arith), (omega arith, omega arith));
  full_turn = λ fit. let over = fit.0 in absurd (omega (arith, over));
  shift = λ fit. let over = fit.1.1 in absurd (omega (arith, over));
  short = (omega arith, omega arith);
  long = (omega arith, omega arith);
  no_time = λ fit. let under = fit.0 in absurd (omega (arith, under));
  longer = λ fit. let over = fit.1 in absurd (omega (arith, over));
  once = (omega arith, omega arith);
  often = (omega arith, omega arith);
  never = λ fit. let under = fit.0 in absurd (omega (arith, under));
  oftener = λ fit. let over = fit.1 in absurd (omega (arith, over));
  one_role = (refl, (omega arith, omega arith, roles_fit 1));
  no_role = λ fit. let few : 1 ≤ 0 = fit.1.0 in absurd (omega (arith, few));
  many_roles = λ fit. let many : 33 ≤ 32 = fit.1.1 in absurd (omega (arith, many));
  performed = (refl, (omega arith, (omega arith, omega arith), (omega arith, omega arith), (omega arith, omega arith)), (omega arith, omega arith, roles_fit 32));
  by_nobody = λ fit. let few : 1 ≤ 0 = fit.2.0 in absurd (omega (arith, few));
  by_many = λ fit. let many : 33 ≤ 32 = fit.2.1 in absurd (omega (arith, many));
  turned_once_too_often = λ fit. let over = fit.1.0 in absurd (omega (arith, over));
  one_place = (refl, omega arith, (refl, ((omega arith, omega arith), (omega arith, omega arith), (omega arith, omega arith), (omega arith, omega arith)), tt), tt);
  no_place = λ fit. let some : 1 ≤ 0 = fit.1 in absurd (omega (arith, some));
}
