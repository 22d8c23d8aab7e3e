-- What the proofs of this crate cite from elsewhere, passed on from one place. Declares nothing.
pub use Rattle.std.proofs.Common.{All, Bool, Err, IfOk, IfSome, List, None, Ok, Option, Result, Some, [], ap, append-nil, append_assoc, arith, cond, drop, false, get_or, length, length-append, nat_lt, refl, subst, suc, sym, take, true, ℕ, ◌++◌, ◌+◌, ◌-◌, ◌<◌, ◌==◌, ◌∙◌, ◌∷◌, ◌≡◌, ◌≤◌}
pub use Rattle.std.proofs.lemmas.Grind.{common_steps}
pub use Rattle.std.proofs.lemmas.List.{length-take-le, take_more}
pub use Rattle.std.specs.Io.KnownBytes.{IsAtEnd, prepend_known}
pub use Rattle.std.specs.Prelude.{IsTrue}
pub use Rattle.std.specs.Str.Lines.{lines}
pub use Rattle.choreo_show.specs.Name.{Name}
pub use Rattle.choreo_show.specs.Plain.{PlainShow}
pub use Rattle.fleet_curves.specs.Raised.{CurvesStandFor, Raised, raised_of}
pub use Rattle.byte_streams.proofs.ToldLemmas.{Gives-trans, IsInput-now, Went-none, Went-trans, at_its_end, back, of_source, takes_at_most, takes_front}
pub use Rattle.byte_streams.specs.Held.{Held, buffer_bytes, stream}
pub use Rattle.byte_streams.specs.PartBytes.{AsksNext, PartLaw, begins_after, is_marked_left, part_left, rest_left}
pub use Rattle.byte_streams.specs.Told.{MayGive, Told, Went, to_come}
pub use Rattle.refusals.specs.declared.refusal.Refusal.{Refusal}
pub use Rattle.sep_certificate.specs.Certificates.{IsWholeIn, fault_of}
pub use Rattle.sep_certificate.specs.Texts.{Says, bad_line}
pub use Rattle.sep_certificate.specs.declared.certificate.CertFault.{CertFault}
pub use Rattle.sep_certificate.specs.declared.certificate.Certificate.{Certificate}
pub use Rattle.sep_parts.specs.Apart.{KeepReach, KeepsApart, SentLaw}
unfoldable pub use Rattle.sep_parts.specs.Versions.{table_of}
pub use Rattle.sep_parts.specs.Versions.{known_in}
pub use Rattle.sep_parts.specs.declared.clearance.Clearance.{Clearance}
pub use Rattle.show_judge.specs.Answers.{AnswersInput, EndsWell, IsRefusedBy, IsSaid, outcome_of}
pub use Rattle.show_judge.specs.Input.{GoesOn, IsNextText, IsReadBoth, IsReadWhole, IsShowText, IsWholeText}
pub use Rattle.show_judge.specs.Refused.{IsOfInput, second_refusal}
pub use Rattle.show_judge.specs.Shows.{Cut, cut_of, feeds, marker_number, names_of, trajectories_of}
pub use Rattle.show_judge.specs.Verb.{Outcome, outcome}
unfoldable pub use Rattle.show_plan.specs.Separation.{clearance_of}
pub use Rattle.show_plan.specs.Separation.{FlyApart}
pub use Rattle.show_verify.specs.SecondTexts.{Feeds, GivesSecond, IsFed, IsFewTaken, IsMarkedBy, IsTakenToEnd, IsTakenWhole, Skips, TakenGives, unless_marked, verdict_outcome}
pub use Rattle.show_verify.specs.Verify.{CertificateGives, VerifyGives, VerifyLaw, VerifySucceeds, certificate_limit, judged, judged_for, not_valid, valid_line, verify_verb}
pub use Rattle.show_verify.specs.declared.verifying.Taken.TheVariants.{TooLarge, Whole}
