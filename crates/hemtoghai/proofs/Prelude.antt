-- What the proofs of this crate cite from elsewhere, passed on from one place. Declares nothing.
pub use Rattle.std.proofs.Common.{All, Bool, Err, IsUtf8, List, None, Option, Some, [], ap, append-nil, append_assoc, arith, drop, false, get_or, inl, inr, length, map, refl, replicate, subst, suc, sym, take, true, zero, ℕ, ◌++◌, ◌+◌, ◌-◌, ◌<◌, ◌||◌, ◌∙◌, ◌∷◌, ◌≡◌, ◌≤◌, ◌⊎◌}
pub use Rattle.std.proofs.lemmas.Bool.{cases_lt, false_from_ne_true}
pub use Rattle.std.proofs.lemmas.Bool.Decides.{nat_tests}
pub use Rattle.std.proofs.lemmas.List.{drop_all, length-append, length-replicate, length-take, take-append-drop, take_all, take_rest}
pub use Rattle.std.specs.List.{onto_first, position_or_len, slice_split}
pub use Rattle.std.specs.Prelude.{Contains, String, codes, string_bytes}
pub use Rattle.command_words.specs.declared.command.Command.TheVariants.{Boxes, Compile, Dynamics, Explain, Speed, Upload}
pub use Rattle.byte_streams.proofs.CopiedLemmas.{Reads-copied, empty}
pub use Rattle.byte_streams.proofs.ToldLemmas.{IsInput-now, told_input}
pub use Rattle.byte_streams.specs.Held.{has_whole_marker, without_last}
pub use Rattle.byte_streams.specs.Memory.{SureIn, told_sure}
pub use Rattle.show_judge.specs.Headline.{UploadsText}
pub use Rattle.show_judge.specs.Runs.{Behaves, Does, Runs}
pub use Rattle.show_judge.specs.Verb.{IsJudged, Outcome, Run, Span, Verb, during, run_on}
pub use Rattle.show_run.proofs.TopLemmas.{behaves_as, never_rose, never_seven, never_six}
pub use Rattle.show_uploads.specs.Upload.{HasBegun, upload_verb}
pub use Rattle.text_lines.specs.Lines.{between_feeds, is_line_feed}
unfoldable pub use Rattle.text_lines.specs.Marker.{part_of}
pub use Rattle.text_lines.specs.Marker.{has_marker, is_marker}
pub use Rattle.hemtoghai.specs.Answers.{RunsOver, WholeOut, put_in, said_in}
pub use Rattle.hemtoghai.specs.Words.{divides, words_in}
