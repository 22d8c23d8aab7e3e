-- What the proofs of this crate cite from elsewhere, passed on from one place. Declares nothing.
pub use Rattle.std.proofs.Common.{Bool, IfSome, List, None, Option, Result, Some, [], ap, append-nil, append_assoc, arith, drop, false, inl, inr, length, length-append, refl, rules, suc, sym, take, true, zero, ℕ, ◌++◌, ◌+◌, ◌<◌, ◌∙◌, ◌∷◌, ◌≡◌, ◌≢◌, ◌≤◌, ◌⊎◌}
pub use Rattle.std.proofs.lemmas.List.{length_push, take-append-drop, take-append-le, take_all, take_at}
pub use Rattle.std.proofs.lemmas.List.Elements.{All-head, All-nil, All-push, All-tail}
pub use Rattle.std.specs.Io.KnownBytes.{Appends, Consumes, IsAtEnd, prepend_known}
pub use Rattle.std.specs.List.{All}
pub use Rattle.std.specs.Prelude.{IsTrue, ◌==◌}
pub use Rattle.byte_streams.proofs.SentLemmas.{Appends-append}
pub use Rattle.byte_streams.proofs.ToldLemmas.{IsInput-now, Took-none, Took-trans, Went-none, Went-trans, back, consumed, nothing_before, of_source}
pub use Rattle.byte_streams.specs.Causes.{Rose}
pub use Rattle.byte_streams.specs.Held.{buffer_bytes, stream}
pub use Rattle.byte_streams.specs.Taken.{AppendsFront}
pub use Rattle.byte_streams.specs.Told.{MayGive, Told, Took, Went, to_come}
pub use Rattle.link_frames.specs.Frames.{end_frame}
pub use Rattle.link_dialogue.specs.Dialogues.{BeginsNone, BeginsWith, Dialogue, DialogueFails, DialogueGives, EndsGoing, EndsWith, IsDialogue, IsOwnEnd, IsStatus, StaysPrompt, StopsAtEnd, Takes, item_limit, items_bytes}
pub use Rattle.link_dialogue.specs.Steps.{Breaks, Ends, Fails, IsFaulty}
