-- What the proofs of this crate cite from elsewhere, passed on from one place. Declares nothing.
pub use Rattle.std.proofs.Common.{All, Bool, Contains, Err, IfOk, IfSome, List, None, Ok, Option, Result, SFits, Some, [], ap, arith, cond, drop, false, get_or, inl, inr, length, length-append, map, nat_lt, of_z, refl, rules, subst, suc, sym, to_z, true, w64, zero, ℕ, ◌++◌, ◌+◌, ◌<◌, ◌||◌, ◌∙◌, ◌∷◌, ◌≡◌, ◌≤◌, ◌⊎◌}
pub use Rattle.std.proofs.lemmas.Bool.Decides.{nat_tests}
pub use Rattle.std.proofs.lemmas.Grind.{common_steps}
pub use Rattle.std.proofs.lemmas.List.Elements.{All-append, All-cons, All-get_or, All-head, All-nil, All-tail}
pub use Rattle.std.specs.Io.KnownBytes.{Appends, IsAtEnd}
pub use Rattle.std.specs.Option.{option_map, option_or}
pub use Rattle.std.specs.Prelude.{IsTrue}
pub use Rattle.std.specs.declared.alloc.AllocError.{AllocError}
pub use Rattle.choreo_reader.specs.Context.{fault}
pub use Rattle.choreo_reader.specs.Grammar.{StandsFor}
pub use Rattle.choreo_reader.specs.Laws.{ShowLaw}
pub use Rattle.choreo_show.specs.Name.{Name}
pub use Rattle.choreo_show.specs.Plain.{PlainShow, plain}
pub use Rattle.choreo_show.specs.declared.show.DroneLine.{DroneLine}
pub use Rattle.choreo_show.specs.declared.show.Settings.{Settings}
pub use Rattle.cue_grid.specs.Cues.{grid_of}
pub use Rattle.byte_streams.proofs.ToldLemmas.{Gives-trans, at_its_end, back, left_to_come, met_end, of_source, takes_at_most, takes_front, told_input, told_to_come}
pub use Rattle.byte_streams.specs.Causes.{Rose}
pub use Rattle.byte_streams.specs.Held.{Held, stream}
pub use Rattle.byte_streams.specs.Parts.{TakesFewAfter}
pub use Rattle.byte_streams.specs.Taken.{AppendsFront, TakesAtMost, TakesFront}
pub use Rattle.byte_streams.specs.Told.{IsInput, Told, to_come}
pub use Rattle.whole_numbers.specs.Limits.{most_text}
pub use Rattle.refusals.specs.Refusals.{line_of, status_of}
pub use Rattle.refusals.specs.declared.refusal.Refusal.{Refusal}
pub use Rattle.show_plan.specs.Fitting.{IsFitted, StandsAsWord, in_order, plan_fault, room, unsendable}
pub use Rattle.show_plan.specs.Landing.{AreUploadable, Lands}
pub use Rattle.show_plan.specs.Separation.{FlyApart, blocked_at, blocked_in, blocked_part, clearance_of, direction_at, slots_of}
pub use Rattle.show_plan.specs.declared.fitted.Fitted.{Fitted}
pub use Rattle.text_lines.specs.Lines.{between_feeds}
unfoldable pub use Rattle.text_lines.specs.Marker.{part_of, rest_of}
pub use Rattle.text_lines.specs.Marker.{ended, has_marker, is_marker, lines_after, lines_before}
pub use Rattle.show_judge.specs.Answers.{AnswersInput, AnswersText, AnswersTwo, EndsJudged, EndsWell, Fits, IsAccepted, IsRefusedBy, IsSaid, JudgedGives, JudgesInput, PlanGives, Responds, Wrote, outcome_of}
pub use Rattle.show_judge.specs.Input.{GoesOn, IsNextText, IsReadBoth, IsReadWhole, IsShowText, IsText, IsUnmarked, IsWholeText, IsWithin, ReadsShow, ReadsTwo, TakesOneText}
pub use Rattle.show_judge.specs.Outcome.{IsComplete, IsOutcome, IsOutcomeBy, IsOutcomeOf, IsSafe, IsSafeBy, IsSafeOutcome, IsVerb, OutcomeLaw, ShowGives, judged_text, refused, said}
pub use Rattle.show_judge.specs.Refused.{IsOfInput, blocked_by, faulty, faulty_line, marker_refusal, no_plan, second_refusal, show_refusal, text_refusal}
pub use Rattle.show_judge.specs.Runs.{Behaves, Completes, Does, IsOutput, IsStopped, Runs, StopsAtMarker, TakesLittle, reads, reads_all, told}
pub use Rattle.show_judge.specs.Shows.{Cut, cut_of, feeds, marker_number, name_at, names_of, nodes_of, sent_of}
pub use Rattle.show_judge.specs.Verb.{FliesApart, IsAny, IsJudged, IsTwo, Judges, Outcome, Run, Span, Verb, nothing, of_nothing, of_own, of_show, outcome, own_text, run_left, run_of, the_input, two_ways}
pub use Rattle.show_judge.specs.declared.ends.Answer.{Answer}
pub use Rattle.show_judge.specs.declared.ends.Answer.TheVariants.{Done, Refused}
pub use Rattle.show_judge.specs.declared.ends.Failure.{Failure}
pub use Rattle.show_judge.specs.declared.ends.Failure.TheVariants.{Memory, Read}
pub use Rattle.show_judge.specs.declared.input.Input.{Input}
pub use Rattle.show_judge.specs.declared.input.Text.{Text}
pub use Rattle.show_judge.specs.declared.input.Text.TheVariants.{TooLarge, Whole}
pub use Rattle.show_judge.specs.declared.judging.Judged.{Judged}
pub use Rattle.show_judge.specs.declared.judging.Judged.TheVariants.{Accepted}
pub use Rattle.show_judge.specs.declared.ways.Ways.{Ways}
