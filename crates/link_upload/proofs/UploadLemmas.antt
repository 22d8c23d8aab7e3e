-- An upload is a dialogue, so it has one end, with one output.
use Rattle.link_upload.proofs.Prelude.{common_steps, ◌≡◌, ◌⊎◌, inl, inr, ℕ, ◌<◌, ◌≤◌, List, [], ◌∷◌, ◌++◌, length, append_assoc, append-nil, length-append, refl, sym, ap, ◌∙◌, arith, Frame, BeginsNoFrame, IsBegun, IsFrame, fed, frame_bytes, frame_law, Link, IsDialogue, upload_of, UploadLaw}
use Rattle.link_frames.specs.declared.frame.Fed.{Fed}
use Rattle.link_frames.specs.declared.frame.Fed.TheVariants as fed_is
use Rattle.link_frames.specs.declared.frame.Frame.TheVariants as frame
use Rattle.link_dialogue.proofs.EndLemmas.{one, some}
use Rattle.link_upload.proofs.SendLemmas.{sent-front}

frame_some : (f : Frame) → 1 ≤ length (frame_bytes f)
frame_some f = grind (arith, common_steps)

short_of : (f : Frame) (bytes more : List ℕ) → IsFrame f → frame_bytes f ≡ bytes ++ more → 1 ≤ length more → length bytes < 34
short_of frame.Tick bytes more formed cut some = let e = ap (λ (xs : List ℕ). length xs) cut in omega (arith, e, length-append bytes more, some)
short_of (frame.Packet d p) bytes more formed cut some = let e = ap (λ (xs : List ℕ). length xs) cut in omega (arith, e, length-append bytes more, some, formed.3)

-- a frame that is begun has fewer than 34 bytes
pub short : (bytes : List ℕ) → IsBegun bytes → length bytes < 34
short bytes b = short_of b.frame bytes b.more b.formed b.cut b.some

-- ---- whether a frame stands at the front

abbrev pub BeginsFrame : List ℕ → Type 0
BeginsFrame bytes = (f : Frame) × (later : List ℕ) × IsFrame f × (bytes ≡ frame_bytes f ++ later)

found_by : (begun xs : List ℕ) (x : ℕ) (v : Fed) → IsBegun begun → fed begun x ≡ v
    → (IsBegun (begun ++ x ∷ []) → BeginsFrame ((begun ++ x ∷ []) ++ xs) ⊎ BeginsNoFrame ((begun ++ x ∷ []) ++ xs))
    → BeginsFrame (begun ++ x ∷ xs) ⊎ BeginsNoFrame (begun ++ x ∷ xs)
found_by begun xs x fed_is.More b e more = rw (append_assoc begun (x ∷ []) xs) at (more (frame_law.more begun x b e))
found_by begun xs x (fed_is.Frame f) b e more =
    let whole = frame_law.whole begun x f b e in
    inl (f, xs, whole.0, sym (ap (λ (l : List ℕ). l ++ xs) whole.1 ∙ append_assoc begun (x ∷ []) xs))
found_by begun xs x (fed_is.Bad why) b e more = inr (frame_law.bad begun xs x why b e)

found_from : (begun xs : List ℕ) → IsBegun begun → BeginsFrame (begun ++ xs) ⊎ BeginsNoFrame (begun ++ xs)
found_from begun [] b = inr (rw (append-nil begun) (frame_law.begun begun b))
found_from begun (x ∷ xs) b = found_by begun xs x (fed begun x) b refl (found_from (begun ++ x ∷ []) xs)

-- a frame stands at the front of bytes, or none does
pub found : (bytes : List ℕ) → BeginsFrame bytes ⊎ BeginsNoFrame bytes
found bytes = found_from [] bytes frame_law.none

pub is_dialogue : (s : Link) → IsDialogue (upload_of s)
is_dialogue s = record {
  some = frame_some;
  step = λ f g later after is_f is_g is. frame_law.step f g later after is;
  found = found;
  none = frame_law.none;
  begun = frame_law.begun;
  short = λ bytes b. (let few = short bytes b in omega (arith, few));
  front = sent-front s;
}

pub upload_law : UploadLaw
upload_law = record { one = λ s. one (upload_of s) (is_dialogue s); some = λ s. some (upload_of s) (is_dialogue s) }
