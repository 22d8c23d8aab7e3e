-- What a drone holds after it took packets of a session, whoever sent them, how often and in whatever order
-- (docs/RADIO.md, "What the upload theorem says").
use Rattle.std.specs.Prelude.{◌≡◌, ℕ, ◌+◌, ◌<◌, nat_lt, if◌then◌else◌, List, [], ◌∷◌, take, slice_get, Some, All}
use Rattle.crtp_packets.specs.Chunks.{chunk_start}
use Rattle.crtp_packets.specs.Commands.{answer_of}
use Rattle.crtp_packets.specs.Packets.{write_answer_of}
use Rattle.upload_model.specs.declared.limits.TheConstants.{ACCEPTED}
use Rattle.upload_model.specs.Drones.{DroneState, handled}
use Rattle.upload_model.specs.Memories.{IsDrone, OnlyLoads, HasEntry, HasLoad}
use Rattle.upload_model.specs.Sessions.{Upload, IsSession, drone_count, load_count, load_of, write_count, start_number}
use Rattle.upload_model.specs.Sessions.{packet_count, packet_at}

-- These are numbers of packets of drone d.
abbrev pub AreOwn : Upload → ℕ → List ℕ → Type 0
AreOwn s d ks = All (λ k. k < packet_count s d) ks

-- Drone d after it took these of its packets, by their numbers, one after the other.
abbrev pub taken : Upload → ℕ → DroneState → List ℕ → DroneState
taken s d x [] = x
taken s d x (k ∷ ks) = taken s d (handled x (packet_at s d k)).drone ks

-- The answer that says that drone d carried out its packet k, where that is no read.
abbrev pub accepting : Upload → ℕ → ℕ → List ℕ
accepting s d k =
    if nat_lt k (write_count s d) then write_answer_of s.memory_id (s.offset + chunk_start k) ACCEPTED
    else answer_of (packet_at s d k) ACCEPTED

-- At some place of these packets is packet k, and drone d answered it so.
abbrev pub IsAccepted : Upload → ℕ → DroneState → List ℕ → ℕ → Type 0
IsAccepted s d x ks k =
    (i : ℕ) × (slice_get ks i ≡ Some k)
    × ((handled (taken s d x (take i ks)) (packet_at s d k)).answer ≡ Some (accepting s d k))

-- Among these packets drone d, which was x, accepted each of its writes and its define.
abbrev pub AcceptsLoad : Upload → ℕ → DroneState → List ℕ → Type 0
AcceptsLoad s d x ks = (k : ℕ) → k < load_count s d → IsAccepted s d x ks k

-- What holds of drone d, which was x, after it took these of its packets.
pub record IsTaken (s : Upload) (d : ℕ) (x : DroneState) (ks : List ℕ) : Type 0 where
  -- Only its load is written.
  pub only : OnlyLoads s (load_of s d) x (taken s d x ks)
  -- What is accepted is there: each write, the define, and the start.
  pub loaded : ((k : ℕ) → k < write_count s d → IsAccepted s d x ks k) → HasLoad s (load_of s d) (taken s d x ks)
  pub listed : IsAccepted s d x ks (write_count s d) → HasEntry s (load_of s d) (taken s d x ks)
  pub started : IsAccepted s d x ks (start_number s d) → (taken s d x ks).started ≡ Some s.trajectory_id

-- For every session, each drone of it, whatever that holds at the start, and every list of its packets: in any order,
-- each of them any number of times or never.
abbrev pub TakingLaw : Type 0
TakingLaw =
    (s : Upload) (d : ℕ) (x : DroneState) (ks : List ℕ) → IsSession s → d < drone_count s → IsDrone x → AreOwn s d ks →
    IsTaken s d x ks
