-- What `upload` gives, reads and writes.
use Rattle.std.specs.Prelude.{◌≡◌, ℕ, Bool, true, false, List, ◌∷◌, ◌++◌, Option, Some, None, IfSome}
use Rattle.text_lines.specs.Marker.{part_of, rest_of}
use Rattle.choreo_reader.specs.Grammar.{StandsFor}
use Rattle.choreo_show.specs.Plain.{PlainShow}
use Rattle.byte_streams.specs.Held.{has_whole_marker}
use Rattle.byte_streams.specs.Parts.{TakesFewAfter}
use Rattle.link_frames.specs.declared.frame.Frame.{Frame}
use Rattle.link_frames.specs.Frames.{end_frame, packet_byte}
use Rattle.link_upload.specs.Sends.{events_in}
use Rattle.link_upload.specs.Uploads.{IsPrompt, StopsAtEnd, Takes, UploadFails, UploadGives}
use Rattle.show_judge.specs.declared.ways.Ways.{Ways}
use Rattle.show_judge.specs.Headline.{FliesText}
use Rattle.show_judge.specs.Outcome.{IsVerb}
use Rattle.show_judge.specs.Refused.{show_refusal}
use Rattle.show_judge.specs.Runs.{Carried}
use Rattle.show_judge.specs.Shows.{Cut, cut_of}
use Rattle.show_judge.specs.Verb.{FliesApart, IsJudged, Run, Verb, the_input}
use Rattle.show_uploads.specs.Sessions.{link_in}

-- it reads a show, then frames, and writes frames
abbrev pub upload_ways : ℕ → Ways
upload_ways depth = record { reads = true; has_second = true; by_frames = true; depth = Some depth }

-- What `upload` writes where a read failed after these bytes. Without a whole marker line among them, the end frame.
-- Else they hold a show that is accepted, and each whole frame after the marker line was answered.
abbrev pub UploadStops : Ways → Bool → Bool → Bool → List ℕ → List ℕ → Type 0
UploadStops w start readback false taken output = output ≡ end_frame 6
UploadStops w start readback true taken output =
    (s : PlainShow) × StandsFor (part_of taken) s × (show_refusal w (cut_of taken) s ≡ None)
    × UploadFails (link_in s start readback) (rest_of taken) output

-- No answer of `upload` waits for much further input, for a show that is accepted.
abbrev pub UploadsPromptly : Ways → Bool → Bool → Run → Type 0
UploadsPromptly w start readback r =
    (taken sent : List ℕ) → Carried r taken sent → has_whole_marker taken ≡ true →
    (s : PlainShow) → StandsFor (part_of taken) s → show_refusal w (cut_of taken) s ≡ None →
    IsPrompt (link_in s start readback) (rest_of taken) sent

-- What an upload reads of its input. Where the show is accepted, at most 4,096 bytes were taken of what stands after
-- the frames with which the upload is over; else of what stands after the marker line.
pub record UploadStopsReading (w : Ways) (start readback : Bool) (input : List ℕ) (left_after : Option (List ℕ)) : Type
    0 where
  pub accepted : (s : PlainShow) → StandsFor (part_of input) s → show_refusal w (cut_of input) s ≡ None →
      StopsAtEnd (link_in s start readback) (Some (rest_of input)) left_after
  pub refused : ((s : PlainShow) → StandsFor (part_of input) s → show_refusal w (cut_of input) s ≡ None → ⊥) →
      TakesFewAfter (Some input) left_after

-- its frames lead to the end of the upload, and no more of them than are taken in one upload
abbrev pub UploadSucceeds : Bool → Bool → PlainShow → Cut → Type 0
UploadSucceeds start readback s cut =
    (frames : List Frame) × (rest : List ℕ) × Takes (link_in s start readback) cut.frames frames rest
    × ((link_in s start readback).ended (events_in (link_in s start readback) frames) ≡ Some 0)

abbrev pub upload_verb : ℕ → Bool → Bool → Verb
upload_verb depth start readback = record {
  ways = upload_ways depth;
  judges = the_input;
  gives = λ s cut o. UploadGives (link_in s start readback) cut.frames o.status o.output;
  known = λ s cut. Unit {0};
  promises = λ s cut. FliesApart s;
  succeeds = λ s cut. UploadSucceeds start readback s cut;
  stops = λ taken output. UploadStops (upload_ways depth) start readback (has_whole_marker taken) taken output;
  prompt = λ r. UploadsPromptly (upload_ways depth) start readback r;
  -- An upload reads no more once it is over, where its input is judged.
  reading = λ r status. IsJudged status →
      IfSome r.left (λ input. UploadStopsReading (upload_ways depth) start readback input r.left_after);
  headline = λ input old new. FliesText (part_of input);
}

-- The upload began, by what was written before and after: first of all the first byte of a packet. Of a refused show,
-- or where no show could be read, the end frame is all that is written.
abbrev pub HasBegun : Option (List ℕ) → Option (List ℕ) → Type 0
HasBegun old new = (before later : List ℕ) × (old ≡ Some before) × (new ≡ Some (before ++ packet_byte ∷ later))

-- the laws of the command
abbrev pub UploadingLaw : Type 0
UploadingLaw = (depth : ℕ) (start readback : Bool) → IsVerb (upload_verb depth start readback)
