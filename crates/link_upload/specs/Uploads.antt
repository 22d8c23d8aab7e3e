-- An upload through frames as a dialogue over a link: how it ends, and what it sends.
use Rattle.std.specs.Prelude.{◌≡◌, ℕ, List, Option}
use Rattle.link_dialogue.specs.Dialogues.{BeginsWith, Dialogue, DialogueFails, DialogueGives}
use Rattle.link_dialogue.specs.Dialogues.{IsPrompt as IsPromptDialogue, StaysPrompt as StaysPromptDialogue}
use Rattle.link_dialogue.specs.Dialogues.{StopsAtEnd as DialogueStops, Takes as DialogueTakes}
use Rattle.link_frames.specs.declared.frame.Frame.{Frame}
use Rattle.link_frames.specs.Frames.{IsBegun, IsFrame, frame_bytes}
use Rattle.link_upload.specs.Sends.{events_in, sent_over}
use Rattle.link_upload.specs.Links.{Link}

-- the dialogue of a host, whose items are frames
abbrev pub upload_of : Link → Dialogue
upload_of s = record {
  Item = Frame;
  IsItem = IsFrame;
  bytes = frame_bytes;
  IsBegun = IsBegun;
  ended = λ frames. s.ended (events_in s frames);
  sent = λ frames. sent_over s (events_in s frames);
}

-- Of these bytes an upload takes these frames, and the others stand after them.
abbrev pub Takes : Link → List ℕ → List Frame → List ℕ → Type 0
Takes s bytes frames rest = DialogueTakes (upload_of s) bytes frames rest

-- An upload that gets these bytes ends with this status, and sends this in all: what is in flight before any event,
-- what each event sends, and the end frame.
abbrev pub UploadGives : Link → List ℕ → ℕ → List ℕ → Type 0
UploadGives s bytes status output = DialogueGives (upload_of s) bytes status output

-- A read failed after these bytes. What was sent ends with the end frame of a failed read.
abbrev pub UploadFails : Link → List ℕ → List ℕ → Type 0
UploadFails s taken output = DialogueFails (upload_of s) taken output

-- no answer of an upload waits for much further input
abbrev pub IsPrompt : Link → List ℕ → List ℕ → Type 0
IsPrompt s taken sent = IsPromptDialogue (upload_of s) taken sent

abbrev pub StaysPrompt : Link → Option (List ℕ) → Option (List ℕ) → Option (List ℕ) → Option (List ℕ) → Type 0
StaysPrompt s stream left old new = StaysPromptDialogue (upload_of s) stream left old new

-- no more is read once an upload is over
abbrev pub StopsAtEnd : Link → Option (List ℕ) → Option (List ℕ) → Type 0
StopsAtEnd s stream left = DialogueStops (upload_of s) stream left

-- Whatever bytes come, an upload has one end, with one output; and where it goes on after some frames, one
-- whose output begins with all that is sent up to the last of them.
pub record UploadLaw : Type 0 where
  pub one : (s : Link) (bytes : List ℕ) (status other : ℕ) (output others : List ℕ) →
      UploadGives s bytes status output → UploadGives s bytes other others → (status ≡ other) × (output ≡ others)
  pub some : (s : Link) (bytes rest : List ℕ) (frames : List Frame) → Takes s bytes frames rest → (status : ℕ) ×
      (output : List ℕ) × UploadGives s bytes status output × BeginsWith (sent_over s (events_in s frames)) output
