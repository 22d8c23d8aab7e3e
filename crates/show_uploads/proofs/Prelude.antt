-- What the proofs of this crate cite from elsewhere, passed on from one place. Declares nothing.
pub use Rattle.std.proofs.Common.{All, Bool, Contains, Err, IfOk, IfSome, List, None, Ok, Option, Result, Some, [], ap, append-nil, append_assoc, arith, cond, false, get_or, inl, inr, length, length-append, map, nat_lt, refl, subst, suc, sym, true, zero, ℕ, ◌++◌, ◌+◌, ◌<◌, ◌==◌, ◌∙◌, ◌∷◌, ◌≡◌, ◌≢◌, ◌≤◌, ◌⊎◌}
pub use Rattle.std.proofs.lemmas.Grind.{common_steps}
pub use Rattle.std.proofs.lemmas.List.{append_cancel_left, append_cancel_right, length-map, length-replicate}
pub use Rattle.std.proofs.lemmas.List.Elements.{All-cons, All-contains, All-head, All-map, All-nil, All-tail, All-weaker}
pub use Rattle.std.specs.Io.KnownBytes.{Appends, Consumes}
pub use Rattle.std.specs.Option.{option_map, option_or}
pub use Rattle.std.specs.Prelude.{IsTrue, find, take}
pub use Rattle.choreo_show.specs.Name.{Name}
pub use Rattle.choreo_show.specs.Plain.{PlainShow}
pub use Rattle.choreo_show.specs.declared.show.Settings.{Settings}
pub use Rattle.cue_grid.specs.Cues.{grid_of}
pub use Rattle.cue_grid.specs.declared.grid.Grid.{Grid}
pub use Rattle.firmware_memory.specs.Decoded.{CurveLaw, DecodesTo, load_for}
pub use Rattle.byte_streams.proofs.ToldLemmas.{Gives-trans, IsInput-now, back, comes, consumed, of_source, takes_at_most, takes_front}
pub use Rattle.byte_streams.specs.Held.{Held, has_whole_marker, stream}
pub use Rattle.byte_streams.specs.Parts.{MarkerLaw, TakesFewAfter, TakesPart, TookMarked}
pub use Rattle.byte_streams.specs.Taken.{AppendsFront, TakesFront}
pub use Rattle.byte_streams.specs.Told.{to_come}
pub use Rattle.whole_numbers.specs.Limits.{most_text}
pub use Rattle.fleet_world.specs.Schedules.{ScheduleLaw, schedule_of}
pub use Rattle.fleet_world.specs.WorldState.{WorldStandsAt, WorldState, state_at}
pub use Rattle.link_dialogue.specs.Dialogues.{EndsWith, RunGives, item_limit}
pub use Rattle.link_frames.specs.Frames.{end_frame, frames_bytes, packet_byte}
pub use Rattle.link_upload.specs.Links.{Link, link_of}
pub use Rattle.link_upload.specs.Uploads.{IsPrompt, StaysPrompt, StopsAtEnd, UploadFails, UploadGives, UploadLaw, upload_of}
pub use Rattle.refusals.specs.declared.refusal.Refusal.{Refusal}
pub use Rattle.rehearsal.specs.Rehearsed.{blank_drone, rehearsed}
pub use Rattle.rehearsal.specs.Texts.{AreTexts, IsFound, IsRehearsalText, drone_text, title_line}
pub use Rattle.show_judge.proofs.FewLemmas.{at_new, long_text, stream_new}
pub use Rattle.show_judge.proofs.HeadlineLemmas.{behaves_of, flies_text, none_both}
pub use Rattle.show_judge.proofs.RunLemmas.{refused_among, refused_judged, runs_failed, some_each, some_map, statuses}
pub use Rattle.show_judge.proofs.VerbLemmas.{none_mapped, nothing_refused, outcomes, read_given, refused_as, within_limit}
pub use Rattle.show_judge.specs.Answers.{IsAccepted, IsRefusedBy, Wrote, outcome_of}
pub use Rattle.show_judge.specs.Headline.{UploadsText}
pub use Rattle.show_judge.specs.Outcome.{IsOutcomeOf, IsSafe, OutcomeLaw, refused}
pub use Rattle.show_judge.specs.Refused.{IsOfInput, faulty_line, second_refusal}
pub use Rattle.show_judge.specs.Shows.{Cut, cut_of, name_at, names_of, sent_of, words_of}
pub use Rattle.show_judge.specs.Verb.{IsJudged, Outcome, Run, during, outcome, run_of, run_on}
pub use Rattle.show_plan.specs.Fitting.{IsFitted, IsValidFitted}
pub use Rattle.show_plan.specs.Landing.{IsLanded, Lands, session_for}
pub use Rattle.show_plan.specs.declared.fitted.Fitted.{Fitted}
pub use Rattle.text_lines.specs.Marker.{part_of, rest_of}
pub use Rattle.traj_codec.specs.declared.traj.Traj.{Traj}
pub use Rattle.upload_model.specs.Drones.{DroneState}
unfoldable pub use Rattle.upload_model.specs.Hosts.{all_packets, ending, progress, progress_within}
pub use Rattle.upload_model.specs.Hosts.{acked, ended_by, ended_for, flight, gave_up, or_else, sent_to, ticks}
pub use Rattle.upload_model.specs.Sessions.{Upload, drone_count, packet_count}
pub use Rattle.upload_model.specs.Theorem.{IsUnaltered}
pub use Rattle.upload_model.specs.Worlds.{World}
pub use Rattle.upload_model.specs.declared.events.Progress.{Progress}
pub use Rattle.upload_model.specs.declared.events.Progress.TheVariants.{Differs, Done, GaveUp, Going, Refused}
pub use Rattle.upload_model.specs.declared.events.WorldEvent.{WorldEvent}
pub use Rattle.show_uploads.specs.Ready.{GoesOnReady, IsLinkOf, ReadyGives, TakesMarked}
pub use Rattle.show_uploads.specs.Rehearse.{AllDecode, RehearsalEnds, RehearseGives, RehearseLaw, RehearseSucceeds, Rehearses, SaysHeld, ScheduleGives, rehearse_known, schedule_refusal}
pub use Rattle.show_uploads.specs.Sessions.{link_in, session_of}
pub use Rattle.show_uploads.specs.Upload.{HasBegun, UploadStops, UploadStopsReading, UploadSucceeds, UploadingLaw, UploadsPromptly, upload_verb, upload_ways}
