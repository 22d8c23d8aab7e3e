-- Small flights, computed.
use Rattle.definition_tests.proofs.Prelude.{pos, arith, refl, bernstein, decoded, moment, LateRows, MarginRows, StrayRows, TouchRows, flight, place}

pub late : LateRows
unfolding bernstein decoded moment
late = record {
  together = record { before = omega arith; after = omega arith };
  not_together = λ together. let before = together.before in absurd (omega (arith, before));
  together_turned = record { before = omega arith; after = omega arith };
  not_together_turned = λ together. let after = together.after in absurd (omega (arith, after));
  touch_turned = λ apart.
      let share = apart 0 1 (flight (pos 7) (pos 17)) (flight (pos 0) (pos 10)) (λ e. absurd (omega (arith, e))) refl refl 0 1 5 1 (omega arith) (omega arith) (omega arith) (omega arith)
      (record { before = omega arith; after = omega arith }) (place (pos 7) (pos 0) (pos 0)) (place (pos 5) (pos 0) (pos 0))
      (record { some = omega arith; near = omega arith }) (record { some = omega arith; near = omega arith }) in
      let low = share.apart in absurd (omega (arith, low));
  touch = λ apart.
      let share = apart 0 1 (flight (pos 0) (pos 10)) (flight (pos 7) (pos 17)) (λ e. absurd (omega (arith, e))) refl refl 5 1 0 1 (omega arith) (omega arith) (omega arith) (omega arith)
      (record { before = omega arith; after = omega arith }) (place (pos 5) (pos 0) (pos 0)) (place (pos 7) (pos 0) (pos 0))
      (record { some = omega arith; near = omega arith }) (record { some = omega arith; near = omega arith }) in
      let low = share.apart in absurd (omega (arith, low));
}

pub stray : StrayRows
unfolding bernstein decoded moment
stray = record {
  near = record { some = omega arith; near = omega arith };
  far = λ may. let near = may.near in absurd (omega (arith, near));
  touch = λ apart.
      let share = apart 0 1 (flight (pos 0) (pos 0)) (flight (pos 7) (pos 7)) (λ e. absurd (omega (arith, e))) refl refl 0 1 0 1 (omega arith) (omega arith) (omega arith) (omega arith)
      (record { before = omega arith; after = omega arith }) (place (pos 3) (pos 0) (pos 0)) (place (pos 4) (pos 0) (pos 0))
      (record { some = omega arith; near = omega arith }) (record { some = omega arith; near = omega arith }) in
      let low = share.apart in absurd (omega (arith, low));
}

pub margin : MarginRows
margin = record {
  aside = record { apart = omega arith };
  touch_aside = λ share. let low = share.apart in absurd (omega (arith, low));
  above = record { apart = omega arith };
  touch_above = λ share. let low = share.apart in absurd (omega (arith, low));
}

pub touch : TouchRows
unfolding bernstein decoded moment
touch = record {
  between = λ apart.
      let share = apart 0 1 (flight (pos 0) (pos 1000)) (flight (pos 150) (pos 150)) (λ e. absurd (omega (arith, e))) refl refl 3 2 3 2 (omega arith) (omega arith) (omega arith) (omega arith)
      (record { before = omega arith; after = omega arith }) (place (pos 150) (pos 0) (pos 0)) (place (pos 150) (pos 0) (pos 0))
      (record { some = omega arith; near = omega arith }) (record { some = omega arith; near = omega arith }) in
      let low = share.apart in absurd (omega (arith, low));
  at_the_end = λ apart.
      let share = apart 0 1 (flight (pos 0) (pos 10)) (flight (pos 20) (pos 11)) (λ e. absurd (omega (arith, e))) refl refl 10 1 10 1 (omega arith) (omega arith) (omega arith) (omega arith)
      (record { before = omega arith; after = omega arith }) (place (pos 10) (pos 0) (pos 0)) (place (pos 11) (pos 0) (pos 0))
      (record { some = omega arith; near = omega arith }) (record { some = omega arith; near = omega arith }) in
      let low = share.apart in absurd (omega (arith, low));
  last_two = λ apart.
      let share = apart 1 2 (flight (pos 50) (pos 50)) (flight (pos 51) (pos 51)) (λ e. absurd (omega (arith, e))) refl refl 0 1 0 1 (omega arith) (omega arith) (omega arith) (omega arith)
      (record { before = omega arith; after = omega arith }) (place (pos 50) (pos 0) (pos 0)) (place (pos 51) (pos 0) (pos 0))
      (record { some = omega arith; near = omega arith }) (record { some = omega arith; near = omega arith }) in
      let low = share.apart in absurd (omega (arith, low));
}
