-- What the proofs of this crate cite from elsewhere, passed on from one place. Declares nothing.
pub use Rattle.std.proofs.Common.{Bool, Err, List, None, Ok, Option, Result, Some, [], ap, append-nil, append_assoc, arith, cond, drop, false, inl, inr, length, length-append, refl, replicate, slice_index, subst, suc, sym, take, true, zero, ℕ, ◌*◌, ◌++◌, ◌+◌, ◌-◌, ◌<◌, ◌^◌, ◌∙◌, ◌∷◌, ◌≡◌, ◌≢◌, ◌≤◌, ◌⊎◌}
pub use Rattle.std.proofs.lemmas.Bool.{cases_lt, eqb-true, leb-false, lt-leb, ltb-false}
pub use Rattle.std.proofs.lemmas.List.{length-replicate, length-take, length-take-le, take-append-drop, take-replicate, take_more, take_more_set}
pub use Rattle.std.specs.List.{Contains}
pub use Rattle.std.specs.Prelude.{FitsSigned, get_or, map, nat_le, nat_lt, slice_set, ℤ, ◌==◌, ◌↔◌}
pub use Rattle.byteorder.specs.Endian.{little_bytes, little_number}
pub use Rattle.flight_link.specs.Frames.{FrameLaw, IsEvent, IsSample, answer_in, clock_in, event_bytes, event_in, flags, length_of, output_bytes, said_in, sample_in, seen_of, signal_in, signed}
pub use Rattle.flight_link.specs.declared.events.FrameFault.{FrameFault}
unfoldable pub use Rattle.flight_model.specs.Directors.{happens, notes, says}
pub use Rattle.flight_model.specs.Directors.{State, after, drones, frames_from, frames_of, frames_of_step, landings, next_step, sent, start}
pub use Rattle.flight_model.specs.declared.events.Event.{Event}
pub use Rattle.flight_model.specs.declared.events.Event.TheVariants.{Answered, Clock, Said, Seen}
pub use Rattle.flight_model.specs.declared.events.Frame.{Frame}
pub use Rattle.flight_model.specs.declared.events.Frame.TheVariants.{Noted, Over, To, ToAll}
pub use Rattle.flight_model.specs.declared.flights.Flight.{Flight}
pub use Rattle.link_dialogue.proofs.CarryLemmas.{moved}
pub use Rattle.link_dialogue.proofs.EndLemmas.{ends_zero, one, some}
pub use Rattle.link_dialogue.specs.Dialogues.{BeginsWith, IsDialogue, IsStatus, item_limit}
pub use Rattle.flight_link.specs.Flights.{FlightFails, FlightGives, dialogue_of}
unfoldable pub use Rattle.flight_link.specs.Sends.{ended, sent_over}
pub use Rattle.flight_link.specs.Sends.{BeginsNoEvent, IsBegun, end_in, end_of, first_of_two, frames_bytes}
