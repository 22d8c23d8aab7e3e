-- What a host that takes one frame more makes of an upload.
use Rattle.link_upload.proofs.Prelude.{◌≡◌, List, ℕ, [], ◌∷◌, ◌++◌, Option, None, refl, sym, ap, ◌∙◌, Frame, IsFrame, frame_bytes, Event, Link, answers_after, event_in, events_in, packet_frames, sent_over, upload_of}
use Rattle.upload_model.specs.declared.events.Sent.{Sent}
use Rattle.link_dialogue.specs.Machines.{TakesItem}
use Rattle.link_upload.proofs.SendLemmas.{events-push, sent-push}

-- What a host that stands for the events of frames makes of one frame more, where its link is that of the upload; now
-- it stands for what `Next` says.
pub answered : (s t : Link) (Old Next : List Event → Type 0) (f : Frame) (p : Option ℕ) (items : List Sent) (bytes : List ℕ) (frames : List Frame) → t ≡ s →
    Old (events_in s frames) → s.ended (events_in s frames) ≡ None → IsFrame f → bytes ≡ packet_frames t items →
    ((g : List Event) → Old g → t.ended g ≡ None → Next (g ++ event_in t f)) →
    ((g : List Event) → Old g → t.ended g ≡ None → p ≡ t.ended (g ++ event_in t f)) →
    ((g : List Event) → Old g → t.ended g ≡ None → packet_frames t items ≡ answers_after t g (event_in t f)) →
    TakesItem (upload_of s) (λ now. Next (events_in s now)) (λ whole. whole ≡ frame_bytes f) frames p bytes
answered s t Old Next f p items bytes frames is stands going formed put a b c =
    let h : List Event = events_in s frames in
    let g : t.ended h ≡ None = rw is going in
    let sends : bytes ≡ answers_after s h (event_in s f) = rw is at (put ∙ c h stands g) in
    record {
      item = f;
      formed = formed;
      taken = refl;
      stands = rw (events-push s frames f) (rw is at (a h stands g));
      ended = rw (events-push s frames f) (rw is at (b h stands g));
      sends = sent-push s frames f ∙ ap (λ (l : List ℕ). sent_over s h ++ l) (sym sends);
    }
