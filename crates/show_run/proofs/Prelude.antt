-- What the proofs of this crate cite from elsewhere, passed on from one place. Declares nothing.
pub use Rattle.std.proofs.Common.{Bool, Contains, List, None, Option, Some, [], ap, arith, inl, inr, map, nat_le, not, refl, subst, sym, true, ℕ, ◌==◌, ◌∙◌, ◌∷◌, ◌≡◌, ◌≤◌, ◌⊎◌}
pub use Rattle.std.proofs.lemmas.List.Elements.{All-contains, All-from_recursion}
pub use Rattle.command_words.specs.Commands.{command_of, depth_in, has, help_text, options_for, step_in}
pub use Rattle.command_words.specs.declared.command.Command.{Command}
pub use Rattle.command_words.specs.declared.command.Command.TheVariants.{Boxes, Certify, Check, Compile, Direct, Drill, Dynamics, Explain, Help, Play, Rehearse, Report, Speed, Upload, Verify, Version}
pub use Rattle.drill_show.specs.Drill.{drill_text}
pub use Rattle.byte_streams.proofs.ToldLemmas.{IsInput-now, comes}
pub use Rattle.show_direct.specs.Direct.{DirectLaw, FlyAsOne, direct_verb}
pub use Rattle.command_words.specs.declared.flight.FlightOptions.{FlightOptions}
pub use Rattle.show_judge.proofs.HeadlineLemmas.{behaves_left, flies_own, read_to_end, uploads_of}
pub use Rattle.show_judge.specs.Runs.{Behaves, Does, Runs}
pub use Rattle.show_judge.specs.Verb.{Run, Span, during}
pub use Rattle.show_looks.specs.Drilled.{drill_of}
pub use Rattle.show_looks.specs.Reports.{report_of}
pub use Rattle.show_run.specs.Verbs.{IsCalled, command_in, judges_apart, verb_of}
