-- What the proofs of this crate cite from elsewhere, passed on from one place. Declares nothing.
pub use Rattle.std.proofs.Common.{Bool, List, None, Option, Some, [], ap, append-nil, append_assoc, arith, false, inl, inr, length, length-append, refl, subst, sym, take, ℕ, ◌*◌, ◌++◌, ◌<◌, ◌∙◌, ◌∷◌, ◌≡◌, ◌≢◌, ◌≤◌, ◌⊎◌}
pub use Rattle.std.proofs.lemmas.Grind.{common_steps}
pub use Rattle.link_dialogue.proofs.CarryLemmas.{moved}
pub use Rattle.link_dialogue.specs.Dialogues.{BeginsWith, IsDialogue, IsStatus}
pub use Rattle.link_frames.proofs.FrameLemmas.{frame_law}
pub use Rattle.link_frames.specs.Frames.{BeginsNoFrame, IsBegun, IsFrame, fed, frame_bytes, frame_of}
pub use Rattle.link_frames.specs.declared.frame.Frame.{Frame}
unfoldable pub use Rattle.upload_model.specs.Hosts.{acked, acked_from, acknowledges, all_packets, all_settled, ending, flight_at, flight_in, out, phase_of, progress, progress_within, ticks}
unfoldable pub use Rattle.upload_model.specs.Sessions.{packet_at, packet_count, read_count, write_count}
pub use Rattle.upload_model.specs.Sessions.{Upload}
pub use Rattle.upload_model.specs.declared.events.Event.{Event}
pub use Rattle.link_upload.specs.Links.{Link, link_of, status_of}
unfoldable pub use Rattle.link_upload.specs.Sends.{sent_over}
pub use Rattle.link_upload.specs.Sends.{answers_after, event_in, events_in, packet_frames}
pub use Rattle.link_upload.specs.Uploads.{UploadGives, UploadLaw, upload_of}
