-- Distances from the centre that were worked out apart from the program, by the tables of docs/TRAJECTORY.md.
use Rattle.definition_tests.proofs.Prelude.{◌≡◌, pos, neg_ℤ, true, false, refl, bernstein, shares, arc_shares, circle, square_distance}
use Rattle.choreo_show.specs.declared.parts.Ease.TheVariants as ease

-- `arc` is outside by 0.13 millionths in the middle, and by 271.3 at a fifth
arc_middle : square_distance arc_shares true (pos 1) (pos 0) 1 2 ≡ pos 64000016982050
unfolding bernstein
arc_middle = refl

arc_fifth : square_distance arc_shares true (pos 1) (pos 0) 1 5 ≡ pos 15633479589558800
unfolding bernstein
arc_fifth = refl

arc_fifth_circle : circle 1000000 arc_shares (pos 1) (pos 0) 5 ≡ pos 15625000000000000
arc_fifth_circle = refl

-- from two micrometres below the centre, at a quarter
arc_below : square_distance arc_shares true (pos 0) (neg_ℤ (pos 2)) 1 4 ≡ pos 16392480336769000
unfolding bernstein
arc_below = refl

-- `swing` is outside by 930.8 millionths in the middle, and inside by 904.9 at a third
swing_middle : square_distance (shares ease.InOut) true (pos 1) (pos 0) 1 2 ≡ pos 16414513058176200
unfolding bernstein
swing_middle = refl

swing_middle_circle : circle 1000930 (shares ease.InOut) (pos 1) (pos 0) 2 ≡ pos 16414488410521600
swing_middle_circle = refl

swing_third : square_distance (shares ease.InOut) true (pos 1) (pos 0) 1 3 ≡ pos 4774317156972713600
unfolding bernstein
swing_third = refl

-- five micrometres away, both ways round
swing_five : square_distance (shares ease.InOut) true (pos 3) (pos 4) 1 2 ≡ pos 410362826454405000
unfolding bernstein
swing_five = refl

swing_clockwise : square_distance (shares ease.InOut) false (pos 3) (pos 4) 1 2 ≡ pos 410362826454405000
unfolding bernstein
swing_clockwise = refl

-- `arc_in` is outside by 46.3 millionths at a third, and inside by 46.1 at four fifths; `arc_out` is so backwards
in_third : square_distance (shares ease.In) true (pos 1) (pos 0) 1 3 ≡ pos 4783411885325161268
unfolding bernstein
in_third = refl

in_late : square_distance (shares ease.In) true (pos 1) (pos 0) 4 5 ≡ pos 6102953020586299270144
unfolding bernstein
in_late = refl

out_early : square_distance (shares ease.Out) true (pos 1) (pos 0) 1 5 ≡ pos 6102953020586299270144
unfolding bernstein
out_early = refl

out_two_thirds : square_distance (shares ease.Out) true (neg_ℤ (pos 1)) (pos 2) 2 3 ≡ pos 23917059426625806340
unfolding bernstein
out_two_thirds = refl
