-- What the proofs of this crate cite from elsewhere, passed on from one place. Declares nothing.
pub use Rattle.std.proofs.Common.{All, Err, IfOk, List, Ok, Option, Result, Some, [], ap, arith, map, refl, subst, sum, sym, take, ℕ, ◌*◌, ◌+◌, ◌∙◌, ◌∷◌, ◌≡◌, ◌≤◌}
pub use Rattle.std.proofs.lemmas.Grind.{common_steps}
pub use Rattle.std.proofs.lemmas.List.Elements.{All-cons, All-head, All-nil, All-tail}
pub use Rattle.std.specs.Prelude.{drop, length, ◌++◌}
pub use Rattle.choreo_show.specs.Name.{Name}
pub use Rattle.choreo_show.specs.Plain.{PlainShow}
pub use Rattle.crtp_packets.specs.Chunks.{chunk_count_of}
pub use Rattle.drill_show.specs.Drill.{drill_text}
pub use Rattle.byte_streams.proofs.ToldLemmas.{Gives-none, takes_front, told_input}
pub use Rattle.integer_player.specs.Played.{duration_of, play_text}
pub use Rattle.show_judge.proofs.AnswerLemmas.{answers_accepted, judges_text}
pub use Rattle.show_judge.proofs.DriverLemmas.{show_plain, show_verb}
pub use Rattle.show_judge.proofs.HeadlineLemmas.{behaves_of, says_of, whole_input}
pub use Rattle.show_judge.proofs.UnreadLemmas.{nothing_behaves, own_behaves, own_verb}
pub use Rattle.show_judge.specs.Outcome.{IsSafe, IsSafeOutcome, IsVerb}
pub use Rattle.show_judge.specs.Shows.{cues_in, cut_of, nodes_of, sent_of, words_of}
pub use Rattle.show_judge.specs.Verb.{FliesApart, Outcome, Run, during, outcome, run_on, show_ways}
pub use Rattle.show_plan.proofs.Valid.{short_all}
pub use Rattle.show_plan.specs.Fitting.{IsFitted, IsSendable, IsValidFitted, size}
pub use Rattle.show_plan.specs.declared.fitted.Fitted.{Fitted}
pub use Rattle.traj_codec.specs.declared.traj.Traj.{Traj}
pub use Rattle.show_looks.specs.Play.{play_verb, rows}
pub use Rattle.show_looks.specs.Reports.{packets_for, report_of}
