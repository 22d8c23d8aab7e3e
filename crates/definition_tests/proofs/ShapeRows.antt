-- Small bodies, computed.
use Rattle.definition_tests.proofs.Prelude.{◌≡◌, ◌≤◌, ◌+◌, ℕ, zero, suc, false, true, arith, refl, FitsBody, FitsDuration, FitsFigure, FitsTimes}
use Rattle.definition_tests.specs.Shapes.{FigureRows, FilledRows, NestingRows, figure_of, nested, one_cue}

-- the line of figure `g` fits, as do those of its cue and of its repeats
figure_fits : FitsFigure (figure_of one_cue).name (figure_of one_cue).roles
figure_fits = (refl, (omega arith, omega arith, (refl, tt)))

cue_fits : FitsDuration 10
cue_fits = (omega arith, omega arith)

repeat_fits : FitsTimes 2
repeat_fits = (omega arith, omega arith)

nested_fits : (n line : ℕ) → FitsBody (nested line n)
nested_fits zero line = (cue_fits, tt, tt)
nested_fits (suc n) line = (repeat_fits, nested_fits n (line + 1), tt)

pub filled : FilledRows
filled = record {
  nothing = refl;
  around_a_cue = refl;
  empty = refl;
  inside = refl;
  beside_a_cue = refl;
  after_a_cue = refl;
  after_a_repeat = refl;
  after_a_perform = refl;
  invalid = λ is. let filled : false ≡ true = is.filled in cc;
  figure = (figure_fits, refl, refl, omega arith, refl, (repeat_fits, (cue_fits, tt, tt), tt), tt);
  empty_in_a_figure = λ fit. let filled : false ≡ true = fit.2 in cc;
  empty_figure = λ fit. let some : false ≡ true = fit.1 in cc;
}

pub figures : FigureRows
figures = record {
  one = refl;
  form = refl;
  form_after_one = refl;
  form_in_a_later_cue = refl;
  form_in_a_repeat = refl;
  form_after_a_repeat = refl;
  perform = refl;
  perform_after_a_cue = refl;
  perform_in_a_repeat = refl;
  valid = (figure_fits, refl, refl, omega arith, refl, (cue_fits, ((refl, tt), tt), tt), tt);
  formed = λ fit. let fits : false ≡ true = fit.4 in cc;
  performing = λ fit. let fits : false ≡ true = fit.4 in cc;
  later_figure = λ fit. let fits : false ≡ true = fit.6.4 in cc;
}

pub nesting : NestingRows
nesting = record {
  none = refl;
  one = refl;
  nine = refl;
  later = refl;
  earlier = refl;
  after_a_cue = refl;
  after_a_perform = refl;
  eight_in_a_figure = (figure_fits, refl, refl, omega arith, refl, nested_fits 8 2, tt);
  nine_in_a_figure = λ fit. let deep : 9 ≤ 8 = fit.3 in absurd (omega (arith, deep));
  invalid = λ is. let deep : 9 ≤ 8 = is.nested in absurd (omega (arith, deep));
}
