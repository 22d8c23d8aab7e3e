-- Near and far, computed.
use Rattle.definition_tests.proofs.Prelude.{◌≡◌, pos, negsuc, [], arith, refl, bernstein, decoded, moment, All-cons, All-nil, FitsPoint, DroneLine, IsGrid, keeps_near_show, ShowRows, begins_at, half_off, spot}
use Rattle.figure_expand.specs.Written.{end_of}

is_grid : IsGrid half_off
is_grid = record {
  some_start = omega arith;
  few_starts = omega arith;
  starts = All-cons (λ (s : DroneLine). FitsPoint s.at) (begins_at (spot (pos 500) (negsuc 499) (pos 0) (pos 7))) []
      ((omega arith, omega arith), (omega arith, omega arith), (omega arith, omega arith), (omega arith, omega arith)) (All-nil (λ (s : DroneLine). FitsPoint s.at));
  some_cue = omega arith;
  few_cues = omega arith;
  cues = (
    record {
      lasts = omega arith;
      short = omega arith;
      count = refl;
      jobs = (((omega arith, (omega arith, omega arith), (omega arith, omega arith), (omega arith, omega arith)), tt), tt);
    },
    tt,
  );
}

pub show : ShowRows
unfolding bernstein decoded moment end_of
show = record {
  everywhere = keeps_near_show half_off is_grid;
  half = record { below = omega arith; above = omega arith };
  x = λ keeps. let near = (keeps.near 0 (omega arith)).x 0 1 (omega arith) (omega arith) in let low = near.below in absurd (omega (arith, low));
  y = λ keeps. let near = (keeps.near 0 (omega arith)).y 0 1 (omega arith) (omega arith) in let high = near.above in absurd (omega (arith, high));
  z = λ keeps. let near = (keeps.near 0 (omega arith)).z 10 1 (omega arith) (omega arith) in let low = near.below in absurd (omega (arith, low));
  yaw = λ keeps. let same : pos 0 ≡ pos 100000000000000 = (keeps.near 0 (omega arith)).yaw 0 1 (omega arith) (omega arith) in absurd (cc);
  moves = λ keeps. let near = (keeps.near 0 (omega arith)).x 10 1 (omega arith) (omega arith) in let high = near.above in absurd (omega (arith, high));
  shorter = λ keeps. let lasts = (keeps.near 0 (omega arith)).lasts in absurd (omega (arith, lasts));
  longer = λ keeps. let lasts = (keeps.near 0 (omega arith)).lasts in absurd (omega (arith, lasts));
  last = λ keeps. let near = (keeps.near 1 (omega arith)).y 10 1 (omega arith) (omega arith) in let low = near.below in absurd (omega (arith, low));
  count = λ keeps. let same = keeps.drones in absurd (omega (arith, same));
}
