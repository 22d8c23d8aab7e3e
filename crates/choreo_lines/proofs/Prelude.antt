-- What the proofs of this crate cite from elsewhere, passed on from one place. Declares nothing.
pub use Rattle.std.proofs.Common.{Bool, Err, List, None, Ok, Option, Result, Some, [], add-one, ap, append_assoc, arith, cond, drop, drop-cons, eq-eqb, eqb-true, false, get_or, inl, inr, le-leb, length, map, min, ne_eqb, option_map, refl, rules, subst, suc, sym, take, true, zero, ℕ, ◌%◌, ◌*◌, ◌++◌, ◌+◌, ◌-◌, ◌/◌, ◌<◌, ◌^◌, ◌∙◌, ◌∷◌, ◌≡◌, ◌≤◌, ◌⊎◌}
pub use Rattle.std.proofs.Math.Nat.{add-mul, mul-lt-mul_of_pos_right, mul_assoc, pow-suc}
pub use Rattle.std.proofs.lemmas.Bool.{and_parts, leb-true}
pub use Rattle.std.proofs.lemmas.Bool.Decides.{nat_tests}
pub use Rattle.std.proofs.lemmas.Grind.{common_steps}
pub use Rattle.std.proofs.lemmas.List.{append-nil, drop_all, length-append, length-drop, length-map, take-append-drop, take_all}
pub use Rattle.std.proofs.lemmas.List.Folds.{length-prefix_len, list_all-append, list_all_at}
pub use Rattle.std.proofs.lemmas.Nat.{div-add-mod', div-mul-add, mod-mul-add, pow-add}
pub use Rattle.std.proofs.lemmas.Result.{err_from_is_err_and}
pub use Rattle.std.specs.List.{list_all, prefix_len}
pub use Rattle.std.specs.Prelude.{IfOk, IsTrue, T, bytes_eq, codes, int_le, nat_abs, nat_le, neg_ℤ, negsuc, not, pos, ℤ, ◌&&◌, ◌==◌, ◌≤ℤ◌}
pub use Rattle.choreo_show.specs.Name.{Name, is_name}
pub use Rattle.choreo_show.specs.declared.parts.Act.{Act}
pub use Rattle.text_lines.specs.Numbers.{IsNumber, begins_with_minus, digits_after, in_range, is_digit, natural_of, number_in, number_of, signed}
pub use Rattle.text_lines.specs.Tokens.{word_in, words_in}
pub use Rattle.text_lines.specs.declared.number.NumberFault.{NumberFault}
pub use Rattle.text_lines.specs.declared.number.NumberFault.TheVariants.{NotANumber, OutOfRange}
pub use Rattle.text_lines.specs.declared.token.Token.{Token}
pub use Rattle.choreo_lines.specs.Fields.{Gives, act_by, ccw_in, entry_of, judged, kind_in, line_at, mirror_in, name_in, smooth_in, value_in, ◌>>=◌}
unfoldable pub use Rattle.choreo_lines.specs.Fields.{act_in, act_line, names_in, row_line, values_in}
pub use Rattle.choreo_lines.specs.Says.{AllHold, Holds, Says, SaysAct, may_say}
pub use Rattle.choreo_lines.specs.Steps.{act_among, act_read, arc_in, coordinate_in, curve_in, eased_in, keyword_among, line_in, move_in, point_by, quarter_by, triple_by, turn_in, yaw_in}
pub use Rattle.choreo_lines.specs.Table.{Row, Word, act_of, act_places, as_read, has_count, may_stand, row_of, word}
pub use Rattle.choreo_lines.specs.Values.{AllFit, Fits, act_fields, act_with, entry_with, fields_of, keyword_in, name_of}
pub use Rattle.choreo_lines.specs.declared.line.Entry.{Entry}
pub use Rattle.choreo_lines.specs.declared.line.Keyword.{Keyword}
pub use Rattle.choreo_lines.specs.declared.line.LineKind.{LineKind}
pub use Rattle.choreo_lines.specs.declared.line.Place.{Place}
pub use Rattle.choreo_lines.specs.declared.table.Form.{Form}
pub use Rattle.choreo_lines.specs.declared.table.Form.TheVariants.{Units, Whole}
pub use Rattle.choreo_lines.specs.declared.table.Value.{Value}
pub use Rattle.choreo_lines.specs.declared.table.Value.TheVariants.{Ccw, Number, Smooth}
pub use Rattle.choreo_lines.specs.declared.table.Want.{Want}
pub use Rattle.choreo_lines.specs.Quantities.{IsMeasured, IsQuantity, IsQuantityIn, after_digits, begins_with_fraction, exactly, fraction_of, front_digits, measured_of, or_zero, point, quantity_in, quantity_of, sign, size_at, size_by, size_of, unit_of, unsigned}
pub use Rattle.choreo_lines.specs.QuantitySteps.{AreDigits, IsMoved, capped, measure_by, moved, number_after}
pub use Rattle.choreo_lines.specs.Units.{Measure, measure_of, micrometres_in, milliseconds_in, one_is, tenths_in, thousand_are}
pub use Rattle.choreo_lines.specs.declared.unit.Counts.{Counts}
pub use Rattle.choreo_lines.specs.declared.unit.Counts.TheVariants.{Micrometres, Millimetres, Milliseconds, TenthsOfADegree}
