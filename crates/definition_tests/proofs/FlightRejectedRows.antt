-- Positions that are too far for a condition, beside positions that aren't.
use Rattle.definition_tests.proofs.Prelude.{◌≡◌, true, refl, arith, ℤ, pos, negsuc, ints, Sample, IsFit, at_origin, standing, NearRows, on_its_pad, turning, DownRows, SureRows, fit-true}
unfoldable use Rattle.flight_model.specs.Samples.{is_fit_by}

fit : (x y z : ℤ) → is_fit_by 500 at_origin (standing x y z) ≡ true → IsFit 500 at_origin (standing x y z)
fit x y z h = fit-true 500 at_origin (standing x y z) h

pub rows : NearRows
unfolding is_fit_by
rows = record {
  on_an_axis = fit (pos 0) (negsuc 79) (pos 0) refl;
  off_it = λ f. let n = f.near in omega (arith, ints, n);
  aslant = fit (pos 48) (pos 64) (pos 0) refl;
  farther = λ f. let n = f.near in omega (arith, ints, n);
  in_a_corner = λ f. let n = f.near in omega (arith, ints, n);
  in_space = fit (pos 48) (pos 48) (pos 42) refl;
  higher = λ f. let n = f.near in omega (arith, ints, n);
}

down : (x : Sample) → is_fit_by 500 on_its_pad x ≡ true → IsFit 500 on_its_pad x
down x h = fit-true 500 on_its_pad x h

pub down_rows : DownRows
unfolding is_fit_by
down_rows = record {
  on_it = down (standing (pos 300) (pos 0) (pos 0)) refl;
  above = down (standing (pos 0) (pos 0) (pos 120)) refl;
  higher = λ f. let n = (f.down refl).low in omega (arith, ints, n);
  below = down (standing (pos 0) (pos 0) (negsuc 119)) refl;
  deeper = λ f. let n = (f.down refl).high in omega (arith, ints, n);
  hangs = λ f. let n = (f.down refl).down in absurd (cc);
  turns = λ f. let n = f.still refl in absurd (cc);
  unasked = fit-true 500 at_origin turning refl;
}

pub sure_rows : SureRows
unfolding is_fit_by
sure_rows = record { sure = fit (pos 0) (pos 0) (pos 0) refl; unsure = λ f. let n = f.sure in absurd (cc) }
