-- Eased arcs whose control points were worked out apart from the program, by docs/TRAJECTORY.md, "The eased quarter circles".
use Rattle.figure_expand.proofs.Prelude.{◌≡◌, ℕ, ℤ, List, [], ◌∷◌, map, pos, true, false, refl, written_points, neg_ℤ, reverse, Act, shares, squares, squares_left}
use Rattle.choreo_show.specs.declared.parts.Act.TheVariants as act
use Rattle.choreo_show.specs.declared.parts.Ease.TheVariants as ease

-- the control points on x, y and yaw from this x, y and yaw
abbrev pub from : ℤ → ℤ → ℤ → Act → List (List ℤ)
from x y yaw a = map (written_points (record { x = x; y = y; z = pos 1000000; yaw = yaw }) a) (0 ∷ 1 ∷ 3 ∷ [])

-- `arc_out` is `arc_in` from its end, so both its tables are those of `arc_in` backwards
backwards : map (λ (s : ℕ × ℕ). (s.1, s.0)) (reverse (shares ease.In)) ≡ shares ease.Out
backwards = refl

squares_backwards : reverse squares ≡ squares_left
squares_backwards = refl

-- `swing` is the same from both ends
from_both_ends : map (λ (s : ℕ × ℕ). (s.1, s.0)) (reverse (shares ease.InOut)) ≡ shares ease.InOut
from_both_ends = refl

-- `swing`: around the origin, a metre away
swing_round : from (pos 1000000) (pos 0) (pos 0) (act.Eased ease.InOut true (pos 0) (pos 0) (pos 0))
    ≡ (pos 1000000 ∷ pos 1000000 ∷ pos 1000000 ∷ pos 1063179 ∷ pos 696647 ∷ pos 0 ∷ pos 0 ∷ pos 0 ∷ [])
    ∷ (pos 0 ∷ pos 0 ∷ pos 0 ∷ pos 696647 ∷ pos 1063179 ∷ pos 1000000 ∷ pos 1000000 ∷ pos 1000000 ∷ [])
    ∷ (pos 0 ∷ pos 0 ∷ pos 0 ∷ pos 0 ∷ pos 0 ∷ pos 0 ∷ pos 0 ∷ pos 0 ∷ [])
    ∷ []
swing_round = refl

-- `swing`: a metre and odd micrometres, yaw to 90 degrees
swing_odd : from (pos 1000003) (neg_ℤ (pos 2)) (pos 0) (act.Eased ease.InOut true (pos 0) (pos 0) (pos 900))
    ≡ (pos 1000003 ∷ pos 1000003 ∷ pos 1000003 ∷ pos 1063183 ∷ pos 696651 ∷ pos 2 ∷ pos 2 ∷ pos 2 ∷ [])
    ∷ ((neg_ℤ (pos 2)) ∷ (neg_ℤ (pos 2)) ∷ (neg_ℤ (pos 2)) ∷ pos 696647 ∷ pos 1063181 ∷ pos 1000003 ∷ pos 1000003 ∷ pos 1000003 ∷ [])
    ∷ (pos 0 ∷ pos 0 ∷ pos 0 ∷ pos 0 ∷ pos 900 ∷ pos 900 ∷ pos 900 ∷ pos 900 ∷ [])
    ∷ []
swing_odd = refl

-- `swing`: a few micrometres, clockwise
swing_few : from (neg_ℤ (pos 7)) (pos 12) (neg_ℤ (pos 1)) (act.Eased ease.InOut false (pos 3) (neg_ℤ (pos 5)) (pos 10))
    ≡ ((neg_ℤ (pos 7)) ∷ (neg_ℤ (pos 7)) ∷ (neg_ℤ (pos 7)) ∷ pos 4 ∷ pos 14 ∷ pos 20 ∷ pos 20 ∷ pos 20 ∷ [])
    ∷ (pos 12 ∷ pos 12 ∷ pos 12 ∷ pos 20 ∷ pos 18 ∷ pos 5 ∷ pos 5 ∷ pos 5 ∷ [])
    ∷ ((neg_ℤ (pos 1)) ∷ (neg_ℤ (pos 1)) ∷ (neg_ℤ (pos 1)) ∷ (neg_ℤ (pos 1)) ∷ pos 10 ∷ pos 10 ∷ pos 10 ∷ pos 10 ∷ [])
    ∷ []
swing_few = refl

-- `swing`: negative places, yaw down by an odd number
swing_negative : from (neg_ℤ (pos 1234567)) (pos 765433) (pos 1800) (act.Eased ease.InOut true (neg_ℤ (pos 1000001)) (neg_ℤ (pos 999)) (neg_ℤ (pos 1801)))
    ≡ ((neg_ℤ (pos 1234567)) ∷ (neg_ℤ (pos 1234567)) ∷ (neg_ℤ (pos 1234567)) ∷ (neg_ℤ (pos 1783320)) ∷ (neg_ℤ (pos 1978265)) ∷ (neg_ℤ (pos 1766433)) ∷ (neg_ℤ (pos 1766433)) ∷ (neg_ℤ (pos 1766433)) ∷ [])
    ∷ (pos 765433 ∷ pos 765433 ∷ pos 765433 ∷ pos 650445 ∷ pos 283548 ∷ (neg_ℤ (pos 235565)) ∷ (neg_ℤ (pos 235565)) ∷ (neg_ℤ (pos 235565)) ∷ [])
    ∷ (pos 1800 ∷ pos 1800 ∷ pos 1800 ∷ pos 1800 ∷ (neg_ℤ (pos 1801)) ∷ (neg_ℤ (pos 1801)) ∷ (neg_ℤ (pos 1801)) ∷ (neg_ℤ (pos 1801)) ∷ [])
    ∷ []
swing_negative = refl

-- `swing`: a micrometre each way
swing_one : from (pos 33) (neg_ℤ (pos 101)) (pos 7) (act.Eased ease.InOut false (pos 34) (neg_ℤ (pos 100)) (neg_ℤ (pos 7)))
    ≡ (pos 33 ∷ pos 33 ∷ pos 33 ∷ pos 32 ∷ pos 32 ∷ pos 33 ∷ pos 33 ∷ pos 33 ∷ [])
    ∷ ((neg_ℤ (pos 101)) ∷ (neg_ℤ (pos 101)) ∷ (neg_ℤ (pos 101)) ∷ (neg_ℤ (pos 100)) ∷ (neg_ℤ (pos 100)) ∷ (neg_ℤ (pos 99)) ∷ (neg_ℤ (pos 99)) ∷ (neg_ℤ (pos 99)) ∷ [])
    ∷ (pos 7 ∷ pos 7 ∷ pos 7 ∷ pos 7 ∷ (neg_ℤ (pos 7)) ∷ (neg_ℤ (pos 7)) ∷ (neg_ℤ (pos 7)) ∷ (neg_ℤ (pos 7)) ∷ [])
    ∷ []
swing_one = refl

-- `swing`: a far centre, and the widest yaws
swing_far : from (neg_ℤ (pos 30000000)) (pos 30000000) (neg_ℤ (pos 32768)) (act.Eased ease.InOut false (pos 100000000) (neg_ℤ (pos 100000000)) (pos 32767))
    ≡ ((neg_ℤ (pos 30000000)) ∷ (neg_ℤ (pos 30000000)) ∷ (neg_ℤ (pos 30000000)) ∷ pos 52350840 ∷ pos 147649160 ∷ pos 230000000 ∷ pos 230000000 ∷ pos 230000000 ∷ [])
    ∷ (pos 30000000 ∷ pos 30000000 ∷ pos 30000000 ∷ pos 128777380 ∷ pos 128777380 ∷ pos 30000000 ∷ pos 30000000 ∷ pos 30000000 ∷ [])
    ∷ ((neg_ℤ (pos 32768)) ∷ (neg_ℤ (pos 32768)) ∷ (neg_ℤ (pos 32768)) ∷ (neg_ℤ (pos 32768)) ∷ pos 32767 ∷ pos 32767 ∷ pos 32767 ∷ pos 32767 ∷ [])
    ∷ []
swing_far = refl

-- `arc_in`: around the origin, a metre away
arc_in_round : from (pos 1000000) (pos 0) (pos 0) (act.Eased ease.In true (pos 0) (pos 0) (pos 0))
    ≡ (pos 1000000 ∷ pos 1000000 ∷ pos 1000144 ∷ pos 993507 ∷ pos 974935 ∷ pos 785073 ∷ pos 473387 ∷ pos 0 ∷ [])
    ∷ (pos 0 ∷ pos 0 ∷ pos 114406 ∷ pos 186897 ∷ pos 507934 ∷ pos 741519 ∷ pos 1000000 ∷ pos 1000000 ∷ [])
    ∷ (pos 0 ∷ pos 0 ∷ pos 0 ∷ pos 0 ∷ pos 0 ∷ pos 0 ∷ pos 0 ∷ pos 0 ∷ [])
    ∷ []
arc_in_round = refl

-- `arc_in`: a metre and odd micrometres, yaw to 90 degrees
arc_in_odd : from (pos 1000003) (neg_ℤ (pos 2)) (pos 0) (act.Eased ease.In true (pos 0) (pos 0) (pos 900))
    ≡ (pos 1000003 ∷ pos 1000003 ∷ pos 1000147 ∷ pos 993510 ∷ pos 974939 ∷ pos 785076 ∷ pos 473390 ∷ pos 2 ∷ [])
    ∷ ((neg_ℤ (pos 2)) ∷ (neg_ℤ (pos 2)) ∷ pos 114404 ∷ pos 186896 ∷ pos 507934 ∷ pos 741519 ∷ pos 1000002 ∷ pos 1000003 ∷ [])
    ∷ (pos 0 ∷ pos 0 ∷ pos 43 ∷ pos 129 ∷ pos 257 ∷ pos 429 ∷ pos 643 ∷ pos 900 ∷ [])
    ∷ []
arc_in_odd = refl

-- `arc_in`: a few micrometres, clockwise
arc_in_few : from (neg_ℤ (pos 7)) (pos 12) (neg_ℤ (pos 1)) (act.Eased ease.In false (pos 3) (neg_ℤ (pos 5)) (pos 10))
    ≡ ((neg_ℤ (pos 7)) ∷ (neg_ℤ (pos 7)) ∷ (neg_ℤ (pos 5)) ∷ (neg_ℤ (pos 4)) ∷ pos 2 ∷ pos 8 ∷ pos 15 ∷ pos 20 ∷ [])
    ∷ (pos 12 ∷ pos 12 ∷ pos 13 ∷ pos 14 ∷ pos 17 ∷ pos 15 ∷ pos 13 ∷ pos 5 ∷ [])
    ∷ ((neg_ℤ (pos 1)) ∷ (neg_ℤ (pos 1)) ∷ pos 0 ∷ pos 1 ∷ pos 2 ∷ pos 4 ∷ pos 7 ∷ pos 10 ∷ [])
    ∷ []
arc_in_few = refl

-- `arc_in`: negative places, yaw down by an odd number
arc_in_negative : from (neg_ℤ (pos 1234567)) (pos 765433) (pos 1800) (act.Eased ease.In true (neg_ℤ (pos 1000001)) (neg_ℤ (pos 999)) (neg_ℤ (pos 1801)))
    ≡ ((neg_ℤ (pos 1234567)) ∷ (neg_ℤ (pos 1234567)) ∷ (neg_ℤ (pos 1322285)) ∷ (neg_ℤ (pos 1376288)) ∷ (neg_ℤ (pos 1617985)) ∷ (neg_ℤ (pos 1752476)) ∷ (neg_ℤ (pos 1877473)) ∷ (neg_ℤ (pos 1766433)) ∷ [])
    ∷ (pos 765433 ∷ pos 765433 ∷ pos 738707 ∷ pos 716617 ∷ pos 627078 ∷ pos 426771 ∷ pos 127254 ∷ (neg_ℤ (pos 235565)) ∷ [])
    ∷ (pos 1800 ∷ pos 1800 ∷ pos 1629 ∷ pos 1286 ∷ pos 771 ∷ pos 85 ∷ (neg_ℤ (pos 772)) ∷ (neg_ℤ (pos 1801)) ∷ [])
    ∷ []
arc_in_negative = refl

-- `arc_in`: a micrometre each way
arc_in_one : from (pos 33) (neg_ℤ (pos 101)) (pos 7) (act.Eased ease.In false (pos 34) (neg_ℤ (pos 100)) (neg_ℤ (pos 7)))
    ≡ (pos 33 ∷ pos 33 ∷ pos 33 ∷ pos 33 ∷ pos 32 ∷ pos 32 ∷ pos 33 ∷ pos 33 ∷ [])
    ∷ ((neg_ℤ (pos 101)) ∷ (neg_ℤ (pos 101)) ∷ (neg_ℤ (pos 101)) ∷ (neg_ℤ (pos 101)) ∷ (neg_ℤ (pos 100)) ∷ (neg_ℤ (pos 100)) ∷ (neg_ℤ (pos 99)) ∷ (neg_ℤ (pos 99)) ∷ [])
    ∷ (pos 7 ∷ pos 7 ∷ pos 6 ∷ pos 5 ∷ pos 3 ∷ pos 0 ∷ (neg_ℤ (pos 3)) ∷ (neg_ℤ (pos 7)) ∷ [])
    ∷ []
arc_in_one = refl

-- `arc_in`: a far centre, and the widest yaws
arc_in_far : from (neg_ℤ (pos 30000000)) (pos 30000000) (neg_ℤ (pos 32768)) (act.Eased ease.In false (pos 100000000) (neg_ℤ (pos 100000000)) (pos 32767))
    ≡ ((neg_ℤ (pos 30000000)) ∷ (neg_ℤ (pos 30000000)) ∷ (neg_ℤ (pos 15145940)) ∷ (neg_ℤ (pos 4859300)) ∷ pos 39289870 ∷ pos 94337980 ∷ pos 168459690 ∷ pos 230000000 ∷ [])
    ∷ (pos 30000000 ∷ pos 30000000 ∷ pos 44891500 ∷ pos 53452520 ∷ pos 92772970 ∷ pos 98456960 ∷ pos 91540310 ∷ pos 30000000 ∷ [])
    ∷ ((neg_ℤ (pos 32768)) ∷ (neg_ℤ (pos 32768)) ∷ (neg_ℤ (pos 29647)) ∷ (neg_ℤ (pos 23406)) ∷ (neg_ℤ (pos 14044)) ∷ (neg_ℤ (pos 1561)) ∷ pos 14043 ∷ pos 32767 ∷ [])
    ∷ []
arc_in_far = refl

-- `arc_out`: around the origin, a metre away
arc_out_round : from (pos 1000000) (pos 0) (pos 0) (act.Eased ease.Out true (pos 0) (pos 0) (pos 0))
    ≡ (pos 1000000 ∷ pos 1000000 ∷ pos 741519 ∷ pos 507934 ∷ pos 186897 ∷ pos 114406 ∷ pos 0 ∷ pos 0 ∷ [])
    ∷ (pos 0 ∷ pos 473387 ∷ pos 785073 ∷ pos 974935 ∷ pos 993507 ∷ pos 1000144 ∷ pos 1000000 ∷ pos 1000000 ∷ [])
    ∷ (pos 0 ∷ pos 0 ∷ pos 0 ∷ pos 0 ∷ pos 0 ∷ pos 0 ∷ pos 0 ∷ pos 0 ∷ [])
    ∷ []
arc_out_round = refl

-- `arc_out`: a metre and odd micrometres, yaw to 90 degrees
arc_out_odd : from (pos 1000003) (neg_ℤ (pos 2)) (pos 0) (act.Eased ease.Out true (pos 0) (pos 0) (pos 900))
    ≡ (pos 1000003 ∷ pos 1000004 ∷ pos 741523 ∷ pos 507938 ∷ pos 186900 ∷ pos 114408 ∷ pos 2 ∷ pos 2 ∷ [])
    ∷ ((neg_ℤ (pos 2)) ∷ pos 473386 ∷ pos 785074 ∷ pos 974937 ∷ pos 993510 ∷ pos 1000147 ∷ pos 1000003 ∷ pos 1000003 ∷ [])
    ∷ (pos 0 ∷ pos 257 ∷ pos 471 ∷ pos 643 ∷ pos 771 ∷ pos 857 ∷ pos 900 ∷ pos 900 ∷ [])
    ∷ []
arc_out_odd = refl

-- `arc_out`: a few micrometres, clockwise
arc_out_few : from (neg_ℤ (pos 7)) (pos 12) (neg_ℤ (pos 1)) (act.Eased ease.Out false (pos 3) (neg_ℤ (pos 5)) (pos 10))
    ≡ ((neg_ℤ (pos 7)) ∷ pos 1 ∷ pos 9 ∷ pos 15 ∷ pos 18 ∷ pos 19 ∷ pos 20 ∷ pos 20 ∷ [])
    ∷ (pos 12 ∷ pos 17 ∷ pos 16 ∷ pos 14 ∷ pos 8 ∷ pos 7 ∷ pos 5 ∷ pos 5 ∷ [])
    ∷ ((neg_ℤ (pos 1)) ∷ pos 2 ∷ pos 5 ∷ pos 7 ∷ pos 8 ∷ pos 9 ∷ pos 10 ∷ pos 10 ∷ [])
    ∷ []
arc_out_few = refl

-- `arc_out`: negative places, yaw down by an odd number
arc_out_negative : from (neg_ℤ (pos 1234567)) (pos 765433) (pos 1800) (act.Eased ease.Out true (neg_ℤ (pos 1000001)) (neg_ℤ (pos 999)) (neg_ℤ (pos 1801)))
    ≡ ((neg_ℤ (pos 1234567)) ∷ (neg_ℤ (pos 1597386)) ∷ (neg_ℤ (pos 1775641)) ∷ (neg_ℤ (pos 1866366)) ∷ (neg_ℤ (pos 1805297)) ∷ (neg_ℤ (pos 1793379)) ∷ (neg_ℤ (pos 1766433)) ∷ (neg_ℤ (pos 1766433)) ∷ [])
    ∷ (pos 765433 ∷ pos 654393 ∷ pos 383174 ∷ pos 159611 ∷ (neg_ℤ (pos 90798)) ∷ (neg_ℤ (pos 147915)) ∷ (neg_ℤ (pos 235565)) ∷ (neg_ℤ (pos 235565)) ∷ [])
    ∷ (pos 1800 ∷ pos 771 ∷ (neg_ℤ (pos 86)) ∷ (neg_ℤ (pos 772)) ∷ (neg_ℤ (pos 1287)) ∷ (neg_ℤ (pos 1630)) ∷ (neg_ℤ (pos 1801)) ∷ (neg_ℤ (pos 1801)) ∷ [])
    ∷ []
arc_out_negative = refl

-- `arc_out`: a micrometre each way
arc_out_one : from (pos 33) (neg_ℤ (pos 101)) (pos 7) (act.Eased ease.Out false (pos 34) (neg_ℤ (pos 100)) (neg_ℤ (pos 7)))
    ≡ (pos 33 ∷ pos 33 ∷ pos 32 ∷ pos 32 ∷ pos 33 ∷ pos 33 ∷ pos 33 ∷ pos 33 ∷ [])
    ∷ ((neg_ℤ (pos 101)) ∷ (neg_ℤ (pos 101)) ∷ (neg_ℤ (pos 100)) ∷ (neg_ℤ (pos 100)) ∷ (neg_ℤ (pos 99)) ∷ (neg_ℤ (pos 99)) ∷ (neg_ℤ (pos 99)) ∷ (neg_ℤ (pos 99)) ∷ [])
    ∷ (pos 7 ∷ pos 3 ∷ pos 0 ∷ (neg_ℤ (pos 3)) ∷ (neg_ℤ (pos 5)) ∷ (neg_ℤ (pos 6)) ∷ (neg_ℤ (pos 7)) ∷ (neg_ℤ (pos 7)) ∷ [])
    ∷ []
arc_out_one = refl

-- `arc_out`: a far centre, and the widest yaws
arc_out_far : from (neg_ℤ (pos 30000000)) (pos 30000000) (neg_ℤ (pos 32768)) (act.Eased ease.Out false (pos 100000000) (neg_ℤ (pos 100000000)) (pos 32767))
    ≡ ((neg_ℤ (pos 30000000)) ∷ pos 31540310 ∷ pos 105662020 ∷ pos 160710130 ∷ pos 204859300 ∷ pos 215145940 ∷ pos 230000000 ∷ pos 230000000 ∷ [])
    ∷ (pos 30000000 ∷ pos 91540310 ∷ pos 98456960 ∷ pos 92772970 ∷ pos 53452520 ∷ pos 44891500 ∷ pos 30000000 ∷ pos 30000000 ∷ [])
    ∷ ((neg_ℤ (pos 32768)) ∷ (neg_ℤ (pos 14044)) ∷ pos 1560 ∷ pos 14043 ∷ pos 23405 ∷ pos 29646 ∷ pos 32767 ∷ pos 32767 ∷ [])
    ∷ []
arc_out_far = refl

-- The other sense has the other y, and yaw doesn't go evenly.
other_sense : from (pos 1000000) (pos 0) (pos 0) (act.Eased ease.In false (pos 0) (pos 0) (pos 900))
    ≡ (pos 1000000 ∷ pos 1000000 ∷ pos 1000144 ∷ pos 993507 ∷ pos 974935 ∷ pos 785073 ∷ pos 473387 ∷ pos 0 ∷ [])
    ∷ (pos 0 ∷ pos 0 ∷ (neg_ℤ (pos 114406)) ∷ (neg_ℤ (pos 186897)) ∷ (neg_ℤ (pos 507934)) ∷ (neg_ℤ (pos 741519)) ∷ (neg_ℤ (pos 1000000)) ∷ (neg_ℤ (pos 1000000)) ∷ [])
    ∷ (pos 0 ∷ pos 0 ∷ pos 43 ∷ pos 129 ∷ pos 257 ∷ pos 429 ∷ pos 643 ∷ pos 900 ∷ [])
    ∷ []
other_sense = refl

no_even_yaw : written_points (record { x = pos 1; y = pos 0; z = pos 0; yaw = pos 0 }) (act.Eased ease.In true (pos 0) (pos 0) (pos 900)) 3 ≡ pos 0 ∷ pos 900 ∷ [] → ⊥
no_even_yaw h = cc
