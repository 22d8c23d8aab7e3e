-- What the proofs of this crate cite from elsewhere, passed on from one place. Declares nothing.
pub use Rattle.std.proofs.Common.{Bool, Err, List, None, Ok, Option, Result, Some, [], ap, append_assoc, arith, cond, drop, drop-cons, false, get_or, length, map, ne_eqb, refl, reverse, subst, suc, sym, take, true, zero, ℕ, ◌++◌, ◌+◌, ◌<◌, ◌∙◌, ◌∷◌, ◌≡◌, ◌≤◌}
pub use Rattle.std.proofs.lemmas.Bool.{and_parts, eqb-true, false≢true, leb-true}
pub use Rattle.std.proofs.lemmas.Bool.Decides.{nat_tests}
pub use Rattle.std.proofs.lemmas.Grind.{common_steps, reverse_onto}
pub use Rattle.std.proofs.lemmas.List.{append-nil, drop_all, length-map, length-take, map-append, reverse-append, take-append-drop}
pub use Rattle.std.proofs.lemmas.List.Elements.{All-from_recursion, recursion_from_All}
pub use Rattle.std.specs.List.{AllByRecursion, AllZip, flat_map, list_all, list_any, onto_first, position_or_len, slice_split}
pub use Rattle.std.specs.Prelude.{IfOk, IfSome, IsTrue, OnOk, codes, count_by, if◌then◌else◌, is_some, nat_le, not, option_to_list, set, slice_index_or, unwrap_or, ◌&&◌, ◌-◌, ◌==◌, ◌||◌}
pub use Rattle.choreo_lines.proofs.Saying.{held_fit, held_length, holds_fits, says_entry, says_of, says_read}
pub use Rattle.choreo_lines.specs.Fields.{entry_of, kind_of, or_else}
pub use Rattle.choreo_lines.specs.Says.{Says, SaysAct, may_say}
pub use Rattle.choreo_lines.specs.Table.{Word, act_places, as_read, has_count, point, row_of, word}
pub use Rattle.choreo_lines.specs.Values.{AllFit, act_fields, fields_of, keyword_in, point_fields}
pub use Rattle.choreo_lines.specs.declared.line.Entry.{Entry}
pub use Rattle.choreo_lines.specs.declared.line.LineKind.{LineKind}
pub use Rattle.choreo_lines.specs.declared.table.Form.{Form}
pub use Rattle.choreo_show.proofs.Blocks.{blocks_none, body_assoc, body_done}
pub use Rattle.choreo_show.specs.Name.{Name}
pub use Rattle.choreo_show.specs.Plain.{Body, PlainFigure, PlainShow, has_block, plain, ◌⨾◌}
pub use Rattle.choreo_show.specs.Shape.{depth, fits_figure, is_filled, names_one}
pub use Rattle.choreo_show.specs.Valid.{AllAbove, AreNames, FitActLines, FitDroneLines, FitFigures, FitFormations, FitsAct, FitsBody, FitsFigure, FitsPerform, FitsPoint, FitsSettings, IsName, IsValid, act_lines, all_lines, body_lines, drone_lines, figure_lines, formation_lines, times}
pub use Rattle.choreo_show.specs.declared.show.ActLine.{ActLine}
pub use Rattle.choreo_show.specs.declared.show.DroneLine.{DroneLine}
pub use Rattle.choreo_show.specs.declared.show.Formation.{Formation}
pub use Rattle.text_lines.specs.Lines.{between_feeds, is_line_feed, lines_of, without_empty_end}
pub use Rattle.text_lines.specs.Words.{Line, line_with, numbered, visible, words_of}
pub use Rattle.text_lines.specs.declared.token.Comments.TheVariants.{FromHash}
pub use Rattle.choreo_reader.specs.Context.{Context, OpenCue, OpenFigure, OpenFormation, OpenRepeat, Opened, Opening, blocks_after, context_after, either_fault, end_fault, fault, fault_after_header, fault_from, fault_if, fault_of_lines, fill, first_word, form_named, form_of, in_figure, is_empty_block, is_end, is_figure, is_repeat, is_top, line_fault, open_fault, opened_by, opens, place_in, place_of, repeats, sets_ellipsoid, sets_late, sets_memory, sets_stray, sets_trajectory, this_or}
pub use Rattle.choreo_reader.specs.Grammar.{Blocks, Drone, Ellipsoid, Figured, Formed, HasSingleSettings, IsItem, IsSaid, Item, Late, Memory, Parts, SaidLine, StandsFor, Stray, Trajectory, act_said, anywhere, at, body_said, header_of, item_said, parts_of, show_of}
pub use Rattle.choreo_reader.specs.Reader.{FaultGives, ShowGives, built_of, open_of, opens_of}
pub use Rattle.choreo_reader.specs.Reading.{Built, InCue, InFigure, InFormation, InRepeat, Open, Step, act_added, add_block, build, built_by, built_show, close, close_innermost, context_of, entry_fault, fault_with, finish, finish_with, is_any, line_step, lines_step, nothing, opening_of, openings_of, outer_openings, read_after_header, read_lines, reading, then_step, unless, unless_forbidden, with_act, with_block}
pub use Rattle.choreo_reader.specs.Steps.{stands_anywhere}
pub use Rattle.choreo_reader.specs.Text.{Fault, are_allowed, fault_at, forbidden, forbidden_from, show_lines}
