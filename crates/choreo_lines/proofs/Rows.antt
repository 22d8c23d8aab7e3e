-- Lines whose entries and faults were worked out by hand from the page of the language.
use Rattle.choreo_lines.proofs.Prelude.{◌≡◌, List, [], ◌∷◌, Some, Ok, arith, refl, ℕ, ℤ, ◌≤ℤ◌, pos, neg_ℤ, true, false, codes, values_in, names_in, act_in, act_line, row_line, entry_of, kind_in, Says, inr, IsNumber, number_of, Whole, Units}
use Rattle.choreo_lines.proofs.QuantityLaws.{quantity_is_read}
use Rattle.choreo_lines.specs.declared.unit.Counts.TheVariants.{Milliseconds}
use Rattle.choreo_lines.specs.declared.line.LineKind.TheVariants as kind
use Rattle.choreo_lines.specs.declared.line.Place.TheVariants.{Top, InRepeat, InCue, InFigureCue}
use Rattle.choreo_lines.specs.declared.line.Entry.TheVariants as entry
use Rattle.choreo_show.specs.declared.parts.Act.TheVariants as act
use Rattle.choreo_show.specs.declared.parts.Ease.TheVariants as ease
use Rattle.choreo_show.specs.declared.parts.Mirror.TheVariants as mirror

-- `memory 3 100`, at top and in a cue
memory_line : entry_of Whole Top (codes "memory" ∷ codes "3" ∷ codes "100" ∷ []) ≡ Ok (entry.Memory 3 100)
unfolding row_line values_in names_in
memory_line = refl

no_memory_in_a_repeat : kind_in Whole InRepeat (codes "memory" ∷ codes "3" ∷ codes "100" ∷ []) ≡ Some kind.BadWord
no_memory_in_a_repeat = refl

-- `drone a 0 -5 1000000 900`
drone_line : entry_of Whole Top (codes "drone" ∷ codes "a" ∷ codes "0" ∷ codes "-5" ∷ codes "1000000" ∷ codes "900" ∷ [])
    ≡ Ok (entry.Drone (record { items = codes "a" }) (record { x = pos 0; y = neg_ℤ (pos 5); z = pos 1000000; yaw = pos 900 }))
unfolding row_line values_in names_in
drone_line = refl

-- `drone A 0 0 100000001`: the number of words is judged first, and then the name before the number
short_drone_line : kind_in Whole Top (codes "drone" ∷ codes "A" ∷ codes "0" ∷ codes "0" ∷ codes "100000001" ∷ []) ≡ Some kind.BadCount
unfolding row_line
short_drone_line = refl

bad_drone_line : kind_in Whole Top (codes "drone" ∷ codes "A" ∷ codes "0" ∷ codes "0" ∷ codes "100000001" ∷ codes "0" ∷ []) ≡ Some kind.BadName
unfolding row_line values_in
bad_drone_line = refl

far_drone_line : kind_in Whole Top (codes "drone" ∷ codes "a" ∷ codes "0" ∷ codes "0" ∷ codes "100000001" ∷ codes "1.5" ∷ []) ≡ Some kind.Range
unfolding row_line values_in
far_drone_line = refl

-- `figure g` has no role, `figure g p q` two
no_roles : kind_in Whole Top (codes "figure" ∷ codes "g" ∷ []) ≡ Some kind.BadCount
unfolding row_line
no_roles = refl

figure_line : entry_of Whole Top (codes "figure" ∷ codes "g" ∷ codes "p" ∷ codes "q" ∷ [])
    ≡ Ok (entry.Figure (record { items = codes "g" }) (record { items = codes "p" } ∷ record { items = codes "q" } ∷ []))
unfolding row_line values_in names_in
figure_line = refl

-- `perform g y 3 1 2 -3 a`
perform_line : entry_of Whole InRepeat (codes "perform" ∷ codes "g" ∷ codes "y" ∷ codes "3" ∷ codes "1" ∷ codes "2" ∷ codes "-3" ∷ codes "a" ∷ [])
    ≡ Ok (entry.Perform (record { items = codes "g" }) (record { mirror = mirror.Y; turns = 3; dx = pos 1; dy = pos 2; dz = neg_ℤ (pos 3) }) (record { items = codes "a" } ∷ []))
unfolding row_line values_in names_in
perform_line = refl

-- in a cue `line` is a drone's name as well as an act; `end` and, outside figures, `form` are none
drone_named_line : entry_of Whole InCue (codes "line" ∷ codes "line" ∷ codes "1" ∷ codes "2" ∷ codes "3" ∷ codes "4" ∷ [])
    ≡ Ok (entry.One (record { items = codes "line" }) (act.Line (record { x = pos 1; y = pos 2; z = pos 3; yaw = pos 4 })))
unfolding act_line act_in values_in
drone_named_line = refl

form_line : entry_of Whole InCue (codes "form" ∷ codes "f" ∷ codes "move" ∷ []) ≡ Ok (entry.Form (record { items = codes "f" }) true)
unfolding row_line values_in names_in
form_line = refl

no_form_in_a_figure : kind_in Whole InFigureCue (codes "form" ∷ codes "f" ∷ codes "move" ∷ []) ≡ Some kind.BadName
unfolding act_line
no_form_in_a_figure = refl

-- `a arc cw 1 2 -900`, `a curve 1 2 3 4 5 6 7 8 9 10`, `a` alone, `a fly`, `a hold 1`
arc_line : entry_of Whole InFigureCue (codes "a" ∷ codes "arc" ∷ codes "cw" ∷ codes "1" ∷ codes "2" ∷ codes "-900" ∷ [])
    ≡ Ok (entry.One (record { items = codes "a" }) (act.Arc false (pos 1) (pos 2) (neg_ℤ (pos 900))))
unfolding act_line act_in values_in
arc_line = refl

-- `a swing ccw 1 -2 3`, `a arc_in cw 1 2 -900`, `a arc_out ccw 0 0 0`: each is its own act; `arc_in` is a name, too
swing_line : entry_of Whole InCue (codes "a" ∷ codes "swing" ∷ codes "ccw" ∷ codes "1" ∷ codes "-2" ∷ codes "3" ∷ [])
    ≡ Ok (entry.One (record { items = codes "a" }) (act.Eased ease.InOut true (pos 1) (neg_ℤ (pos 2)) (pos 3)))
unfolding act_line act_in values_in
swing_line = refl

arc_in_line : entry_of Whole InFigureCue (codes "arc_in" ∷ codes "arc_in" ∷ codes "cw" ∷ codes "1" ∷ codes "2" ∷ codes "-900" ∷ [])
    ≡ Ok (entry.One (record { items = codes "arc_in" }) (act.Eased ease.In false (pos 1) (pos 2) (neg_ℤ (pos 900))))
unfolding act_line act_in values_in
arc_in_line = refl

arc_out_line : entry_of Whole InCue (codes "a" ∷ codes "arc_out" ∷ codes "ccw" ∷ codes "0" ∷ codes "0" ∷ codes "0" ∷ [])
    ≡ Ok (entry.One (record { items = codes "a" }) (act.Eased ease.Out true (pos 0) (pos 0) (pos 0)))
unfolding act_line act_in values_in
arc_out_line = refl

-- `a swing ccw 0 0` lacks a word; `a arc_in up x 0 0` has a wrong sense before a wrong number
short_swing : kind_in Whole InCue (codes "a" ∷ codes "swing" ∷ codes "ccw" ∷ codes "0" ∷ codes "0" ∷ []) ≡ Some kind.BadCount
unfolding act_line act_in
short_swing = refl

no_sense : kind_in Whole InCue (codes "a" ∷ codes "arc_in" ∷ codes "up" ∷ codes "x" ∷ codes "0" ∷ codes "0" ∷ []) ≡ Some kind.BadWord
unfolding act_line act_in values_in
no_sense = refl

curve_line : entry_of Whole InCue (codes "a" ∷ codes "curve" ∷ codes "1" ∷ codes "2" ∷ codes "3" ∷ codes "4" ∷ codes "5" ∷ codes "6" ∷ codes "7" ∷ codes "8" ∷ codes "9" ∷ codes "10" ∷ [])
    ≡ Ok (entry.One (record { items = codes "a" }) (act.Curve (pos 1 ∷ pos 2 ∷ pos 3 ∷ []) (pos 4 ∷ pos 5 ∷ pos 6 ∷ []) (record { x = pos 7; y = pos 8; z = pos 9; yaw = pos 10 })))
unfolding act_line act_in values_in
curve_line = refl

no_act : kind_in Whole InCue (codes "a" ∷ []) ≡ Some kind.BadCount
unfolding act_line
no_act = refl

unknown_act : kind_in Whole InCue (codes "a" ∷ codes "fly" ∷ []) ≡ Some kind.BadWord
unfolding act_line act_in
unknown_act = refl

hold_with_a_word : kind_in Whole InCue (codes "a" ∷ codes "hold" ∷ codes "1" ∷ []) ≡ Some kind.BadCount
unfolding act_line act_in
hold_with_a_word = refl

-- The same lines with units.

-- `drone a 0 -5um 100cm 90deg`: zeros alone need no unit
drone_line_with_units : entry_of Units Top (codes "drone" ∷ codes "a" ∷ codes "0" ∷ codes "-5um" ∷ codes "100cm" ∷ codes "90deg" ∷ [])
    ≡ Ok (entry.Drone (record { items = codes "a" }) (record { x = pos 0; y = neg_ℤ (pos 5); z = pos 1000000; yaw = pos 900 }))
unfolding row_line values_in names_in
drone_line_with_units = refl

-- each form refuses the numbers of the other, before it judges their range
no_bare_length : kind_in Units Top (codes "drone" ∷ codes "a" ∷ codes "0" ∷ codes "0" ∷ codes "100000001" ∷ codes "0" ∷ []) ≡ Some kind.BadNumber
unfolding row_line values_in
no_bare_length = refl

no_unit_among_whole_numbers : kind_in Whole Top (codes "drone" ∷ codes "a" ∷ codes "0" ∷ codes "0" ∷ codes "1m" ∷ codes "0" ∷ []) ≡ Some kind.BadNumber
unfolding row_line values_in
no_unit_among_whole_numbers = refl

-- `101m` is too far, and `1.0000001m` isn't a whole number of micrometres
far_with_units : kind_in Units Top (codes "drone" ∷ codes "a" ∷ codes "101m" ∷ codes "0" ∷ codes "0" ∷ codes "0" ∷ []) ≡ Some kind.Range
unfolding row_line values_in
far_with_units = refl

no_tenth_of_a_micrometre : kind_in Units Top (codes "drone" ∷ codes "a" ∷ codes "1.0000001m" ∷ codes "0" ∷ codes "0" ∷ codes "0" ∷ []) ≡ Some kind.BadNumber
unfolding row_line values_in
no_tenth_of_a_micrometre = refl

-- each place has its unit: `ellipsoid 12.5cm 300mm`, `stray 3cm`, `late 0.25s`, `cue 2s`
ellipsoid_with_units : entry_of Units Top (codes "ellipsoid" ∷ codes "12.5cm" ∷ codes "300mm" ∷ []) ≡ Ok (entry.Ellipsoid 125 300)
unfolding row_line values_in names_in
ellipsoid_with_units = refl

stray_with_a_unit : entry_of Units Top (codes "stray" ∷ codes "3cm" ∷ []) ≡ Ok (entry.Stray 30)
unfolding row_line values_in names_in
stray_with_a_unit = refl

late_with_a_unit : entry_of Units Top (codes "late" ∷ codes "0.25s" ∷ []) ≡ Ok (entry.Late 250)
unfolding row_line values_in names_in
late_with_a_unit = refl

cue_with_a_unit : entry_of Units InRepeat (codes "cue" ∷ codes "2s" ∷ []) ≡ Ok (entry.Cue 2000)
unfolding row_line values_in names_in
cue_with_a_unit = refl

-- half a millimetre of stray, a time of stray and a length of lateness are no numbers there; a cue of no time is out of range
no_half_millimetre : kind_in Units Top (codes "stray" ∷ codes "1.5mm" ∷ []) ≡ Some kind.BadNumber
unfolding row_line values_in
no_half_millimetre = refl

no_time_of_stray : kind_in Units Top (codes "stray" ∷ codes "30ms" ∷ []) ≡ Some kind.BadNumber
unfolding row_line values_in
no_time_of_stray = refl

no_length_of_lateness : kind_in Units Top (codes "late" ∷ codes "30mm" ∷ []) ≡ Some kind.BadNumber
unfolding row_line values_in
no_length_of_lateness = refl

no_empty_cue : kind_in Units InRepeat (codes "cue" ∷ codes "0" ∷ []) ≡ Some kind.Range
unfolding row_line values_in
no_empty_cue = refl

-- ids, offsets, counts and turns have no unit
memory_without_units : entry_of Units Top (codes "memory" ∷ codes "3" ∷ codes "100" ∷ []) ≡ Ok (entry.Memory 3 100)
unfolding row_line values_in names_in
memory_without_units = refl

no_length_of_repeats : kind_in Units InRepeat (codes "repeat" ∷ codes "3m" ∷ []) ≡ Some kind.BadNumber
unfolding row_line values_in
no_length_of_repeats = refl

perform_line_with_units : entry_of Units InRepeat (codes "perform" ∷ codes "g" ∷ codes "y" ∷ codes "3" ∷ codes "1m" ∷ codes "2cm" ∷ codes "-3mm" ∷ codes "a" ∷ [])
    ≡ Ok (entry.Perform (record { items = codes "g" }) (record { mirror = mirror.Y; turns = 3; dx = pos 1000000; dy = pos 20000; dz = neg_ℤ (pos 3000) }) (record { items = codes "a" } ∷ []))
unfolding row_line values_in names_in
perform_line_with_units = refl

arc_line_with_units : entry_of Units InFigureCue (codes "a" ∷ codes "arc" ∷ codes "cw" ∷ codes "1m" ∷ codes "-0" ∷ codes "-90.5deg" ∷ [])
    ≡ Ok (entry.One (record { items = codes "a" }) (act.Arc false (pos 1000000) (pos 0) (neg_ℤ (pos 905))))
unfolding act_line act_in values_in
arc_line_with_units = refl

-- What lines say, word by word.

-- a number that was worked out, and its range
number : {low high : ℤ} {word : List ℕ} {value : ℤ} → number_of word ≡ Some value → low ≤ℤ value → value ≤ℤ high → IsNumber low high word value
number is from to = record { is = is; from = from; to = to }

-- `memory 3 100` says 3 and 100, and `memory 3 4096` nothing: the offset is out of its range
memory_said : Says Whole (codes "memory" ∷ codes "3" ∷ codes "100" ∷ []) (entry.Memory 3 100)
memory_said = (refl, refl, (number refl (record { le = tt }) (record { le = tt }), (number refl (record { le = tt }) (record { le = tt }), tt)))

no_such_offset : Says Whole (codes "memory" ∷ codes "3" ∷ codes "4096" ∷ []) (entry.Memory 3 4096) → ⊥
no_such_offset h = h.2.1.0.to.le

-- zeros may stand before a number: `late 0250` says 250
late_said : Says Whole (codes "late" ∷ codes "0250" ∷ []) (entry.Late 250)
late_said = (refl, refl, (number refl (record { le = tt }) (record { le = tt }), tt))

-- `late 0.25s` says 250 as well, with units, and `late 250` doesn't
late_said_with_a_unit : Says Units (codes "late" ∷ codes "0.25s" ∷ []) (entry.Late 250)
late_said_with_a_unit = (refl, refl, (record { is = inr (record { negative = false; whole = codes "0"; fraction = codes "25"; unit = codes "s"; digits = 25; measure = record { units = 1; counted = 1000 }; size = 250; word_is = refl; some = omega arith; digits_are = refl; unit_is = refl; size_is = refl; value_is = refl }); from = record { le = tt }; to = record { le = tt } }, tt))

no_bare_lateness : Says Units (codes "late" ∷ codes "250" ∷ []) (entry.Late 250) → ⊥
no_bare_lateness h = let e = quantity_is_read Milliseconds (pos 0) (pos 1000) (codes "250") (pos 250) h.2.0 in cc

-- `figure g p q` has the roles p and q, in this order
figure_said : Says Whole (codes "figure" ∷ codes "g" ∷ codes "p" ∷ codes "q" ∷ []) (entry.Figure (record { items = codes "g" }) (record { items = codes "p" } ∷ record { items = codes "q" } ∷ []))
figure_said = (refl, refl, ((refl, refl), ((refl, refl), ((refl, refl), tt))))

-- `a arc cw 1 2 -900` goes clockwise, and the same line doesn't say that it goes the other way
arc_said : Says Whole (codes "a" ∷ codes "arc" ∷ codes "cw" ∷ codes "1" ∷ codes "2" ∷ codes "-900" ∷ []) (entry.One (record { items = codes "a" }) (act.Arc false (pos 1) (pos 2) (neg_ℤ (pos 900))))
arc_said = ((refl, refl), (refl, (refl, (number refl (record { le = tt }) (record { le = tt }), (number refl (record { le = tt }) (record { le = tt }), (number refl (record { le = tt }) (record { le = tt }), tt))))))

no_other_way : Says Whole (codes "a" ∷ codes "arc" ∷ codes "cw" ∷ codes "1" ∷ codes "2" ∷ codes "-900" ∷ []) (entry.One (record { items = codes "a" }) (act.Arc true (pos 1) (pos 2) (neg_ℤ (pos 900)))) → ⊥
no_other_way h = let e = h.1.1.0 in cc

-- `a arc_out cw 1 2 -900` comes to rest, and the same line doesn't say that it comes from rest
arc_out_said : Says Whole (codes "a" ∷ codes "arc_out" ∷ codes "cw" ∷ codes "1" ∷ codes "2" ∷ codes "-900" ∷ []) (entry.One (record { items = codes "a" }) (act.Eased ease.Out false (pos 1) (pos 2) (neg_ℤ (pos 900))))
arc_out_said = ((refl, refl), (refl, (refl, (number refl (record { le = tt }) (record { le = tt }), (number refl (record { le = tt }) (record { le = tt }), (number refl (record { le = tt }) (record { le = tt }), tt))))))

no_way_in : Says Whole (codes "a" ∷ codes "arc_out" ∷ codes "cw" ∷ codes "1" ∷ codes "2" ∷ codes "-900" ∷ []) (entry.One (record { items = codes "a" }) (act.Eased ease.In false (pos 1) (pos 2) (neg_ℤ (pos 900)))) → ⊥
no_way_in h = let e = h.1.0 in cc

-- `end` says its one word; `end end` says nothing
end_said : Says Whole (codes "end" ∷ []) entry.End
end_said = (refl, refl, tt)

no_second_end : Says Whole (codes "end" ∷ codes "end" ∷ []) entry.End → ⊥
no_second_end h = h.2

-- in a cue the word `memory` names a drone
memory_holds : Says Whole (codes "memory" ∷ codes "hold" ∷ []) (entry.One (record { items = codes "memory" }) act.Hold)
memory_holds = ((refl, refl), (refl, tt))
