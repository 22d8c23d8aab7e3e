-- What the proofs of this crate cite from elsewhere, passed on from one place. Declares nothing.
pub use Rattle.std.proofs.Common.{Bool, Err, List, None, Ok, Option, Some, [], add-one, ap, append-nil, append_assoc, arith, bit_and, cond, drop, drop-cons, eq-eqb, eqb-true, false, get_or, leb, length, map, ne_eqb, option_map, pow_mono, pow_pos, refl, rules, subst, suc, sym, take, true, w64, w8, zero, ℕ, ⊎_elim, ◌%◌, ◌*◌, ◌++◌, ◌+◌, ◌-◌, ◌<◌, ◌^◌, ◌↔◌, ◌∙◌, ◌∷◌, ◌≡◌, ◌≢◌, ◌≤◌}
pub use Rattle.std.proofs.Math.Nat.{div-eq_of_lt, two-pow-succ}
pub use Rattle.std.proofs.lemmas.Bool.{and_parts, cases_lt, false_from_ne_true, leb-false, leb-true}
pub use Rattle.std.proofs.lemmas.Bool.Decides.{nat_tests}
pub use Rattle.std.proofs.lemmas.List.{drop-drop, drop_all, get_or-drop, get_or_default, get_or_past, length-append, length-drop, length-take, take-append-drop, take_at, take_rest}
pub use Rattle.std.proofs.lemmas.List.Sums.{fails_before_first, position_or_len_is, prefix_len-le-length}
pub use Rattle.std.proofs.lemmas.Nat.Bits.{and_pow, bit_at-trailing_zeros, bit_at_and, bit_at_clear_other, bit_at_clear_same}
pub use Rattle.std.specs.Int.{bit_at, bit_not}
pub use Rattle.std.specs.List.{onto_first, position_or_len, slice_split}
pub use Rattle.std.specs.Prelude.{T, int_le, min, nat_le, not, slice_range, unwrap_or, ℤ, ◌&&◌, ◌==◌, ◌≤ℤ◌}
pub use Rattle.text_lines.specs.Lines.{between_feeds, is_line_feed, lines_of, without_empty_end}
pub use Rattle.text_lines.specs.Numbers.{IsNumber, begins_with_minus, digits_after, in_range, is_digit, natural_of, number_in, number_of, signed}
pub use Rattle.text_lines.specs.Steps.{IsPut, Marks, NoBlank, are_digits_at, number_at}
pub use Rattle.text_lines.specs.Tokens.{joined, line_tokens, lines_in, tokens_from, tokens_of, word_in, word_token, words_at, words_in}
pub use Rattle.text_lines.specs.Words.{Line, is_blank, line_with, numbered, visible, without_empty, words_of}
pub use Rattle.text_lines.specs.declared.token.Comments.{Comments}
pub use Rattle.text_lines.specs.declared.token.Comments.TheVariants.{Absent, FromHash}
pub use Rattle.text_lines.specs.declared.token.Token.{Token}
