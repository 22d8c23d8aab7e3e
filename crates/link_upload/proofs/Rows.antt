-- What an upload of the smallest path sends and how it ends.
use Rattle.link_upload.proofs.Prelude.{◌≡◌, ◌<◌, ℕ, [], ◌∷◌, ◌++◌, List, Bool, false, None, take, refl, arith, Frame, IsFrame, link_of, events_in, sent_over, UploadGives, Upload, packet_at, write_count, read_count, packet_count, acked, acked_from, acknowledges, all_settled, phase_of, flight_in, flight_at, ticks, all_packets, ending, progress_within, progress, out}
use Rattle.std.proofs.lemmas.List.Elements.{All-nil, All-cons}
use Rattle.link_frames.specs.declared.frame.Frame.TheVariants as frame
use Rattle.upload_model.specs.Replies.{reply_in, reply_to}

abbrev path : List ℕ
path = 0 ∷ 0 ∷ 0 ∷ 0 ∷ 0xE8 ∷ 3 ∷ 0 ∷ 0 ∷ 3 ∷ 0xD0 ∷ 7 ∷ 0 ∷ 0 ∷ 0 ∷ 0 ∷ 0 ∷ 0 ∷ 0xE8 ∷ 3 ∷ 0xE8 ∷ 3 ∷ 0xE8 ∷ 3 ∷ 0xE8 ∷ 3 ∷ 0 ∷ 0 ∷ 0 ∷ []

abbrev session : Bool → Upload
session start = record { memory_id = 2; offset = 0; trajectory_id = 0; loads = record { bytes = path; pieces = 1 } ∷ []; readback = false; start = start }

-- the frames of the first two writes
abbrev first : List ℕ
first = 0x50 ∷ 1 ∷ 0x1E ∷ 0x4E ∷ 2 ∷ 0 ∷ 0 ∷ 0 ∷ 0 ∷ (take 24 path ++ 0x50 ∷ 1 ∷ 0x0A ∷ 0x4E ∷ 2 ∷ 0x18 ∷ 0 ∷ 0 ∷ 0 ∷ 3 ∷ 0 ∷ 0 ∷ 0 ∷ [])

before_any : sent_over (link_of (session false)) [] ≡ first
unfolding sent_over packet_at write_count read_count packet_count acked acked_from acknowledges reply_to reply_in all_settled phase_of flight_in flight_at out progress progress_within ending all_packets ticks
before_any = refl

-- the first write is refused with status 5
abbrev refusal : Frame
refusal = frame.Packet 1 (0x4E ∷ 2 ∷ 0 ∷ 0 ∷ 0 ∷ 0 ∷ 5 ∷ [])

row : UploadGives (link_of (session false)) (0x50 ∷ 1 ∷ 7 ∷ 0x4E ∷ 2 ∷ 0 ∷ 0 ∷ 0 ∷ 0 ∷ 5 ∷ []) 10 (first ++ 0x45 ∷ 10 ∷ [])
unfolding sent_over packet_at write_count read_count packet_count acked acked_from acknowledges reply_to reply_in all_settled phase_of flight_in flight_at out progress progress_within ending all_packets ticks
row = record {
  items = refusal ∷ [];
  rest = [];
  takes = record { cut = refl; each = All-cons IsFrame refusal [] (omega arith, omega arith, omega arith, omega arith) (All-nil IsFrame); few = omega arith; going = one };
  ends = refl;
  sends = refl;
}
  where
    one : (n : ℕ) → n < 1 → (link_of (session false)).ended (events_in (link_of (session false)) (take n (refusal ∷ []))) ≡ None
    one n below = let e : n ≡ 0 = omega (arith, below) in rw e refl
