-- The texts that say a plan.
use Rattle.std.specs.Prelude.{◌≡◌, ℕ, ◌+◌, ◌==◌, nat_lt, if◌then◌else◌, false, true, List, [], ◌∷◌, ◌++◌, length, map}
use Rattle.std.specs.Prelude.{codes, decimal}
use Rattle.std.specs.List.{All, flat_map, range_with_len}
use Rattle.byte_streams.specs.Words.{hex_word, line}
use Rattle.choreo_show.specs.Name.{Name, is_name}
use Rattle.traj_codec.specs.declared.traj.Traj.{Traj}
use Rattle.traj_codec.specs.Spelling.{spelling, ending}
use Rattle.upload_model.specs.Sessions.{Upload, packet_at, packet_count, write_count}
use Rattle.choreo_show.specs.declared.show.Settings.{Settings}
use Rattle.show_plan.specs.Landing.{AreUploadable, session_for}

-- a drone of this name, whose trajectory has this many segments and is sent as these bytes
abbrev pub drone_line : List ℕ → List ℕ → ℕ → List ℕ
drone_line name bytes pieces =
    line (codes "drone") (name ∷ codes "bytes" ∷ decimal (length bytes) ∷ codes "pieces" ∷ decimal pieces ∷ [])

-- what packet k of a drone is, without read-back: a write of a part of its load, its define, its start
abbrev pub packet_word : Upload → ℕ → ℕ → List ℕ
packet_word s d k =
    if nat_lt k (write_count s d) then codes "write"
    else (if k == write_count s d then codes "define" else codes "start")

abbrev pub packet_line : Upload → ℕ → ℕ → List ℕ
packet_line s d k = line (packet_word s d k) (map hex_word (packet_at s d k))

abbrev pub packet_lines : Upload → ℕ → List ℕ
packet_lines s d = flat_map (packet_line s d) (range_with_len 0 (packet_count s d))

-- the lines of drone d of a session: what it is sent, as bytes, in two upper-case hexadecimal digits each, and as
-- packets
abbrev pub drone_part : Upload → ℕ → List ℕ → Traj → List ℕ
drone_part s d name t =
    drone_line name (spelling t ++ ending) (length t.segments)
    ++ line (codes "data") (map hex_word (spelling t ++ ending)) ++ packet_lines s d

-- the lines of drones, one drone after another, the first of which has number d
abbrev pub drone_parts : Upload → ℕ → List Name → List Traj → List ℕ
drone_parts s d [] ts = []
drone_parts s d (name ∷ names) [] = []
drone_parts s d (name ∷ names) (t ∷ ts) = drone_part s d name.items t ++ drone_parts s (d + 1) names ts

-- The plan of drones with these names and trajectories: its packets are those of their session without read-back and
-- with starts.
unfoldable pub plan_text : Settings → List Name → List Traj → List ℕ
plan_text e names ts =
    line (codes "plan") (codes "1" ∷ [])
    ++ (drone_parts (session_for e ts false true) 0 names ts ++ line (codes "end") [])

-- Drones and trajectories of a plan: each drone has a name of the language and a trajectory, and these can be uploaded.
pub record IsPlan (e : Settings) (names : List Name) (ts : List Traj) : Type 0 where
  pub named : All (λ (name : Name). is_name name.items ≡ true) names
  pub counted : length ts ≡ length names
  pub uploadable : AreUploadable e ts

-- Plans with one text, made with any settings, are of one list of drones and one of trajectories.
abbrev pub PlanLaw : Type 0
PlanLaw =
    (e f : Settings) (names others : List Name) (ts us : List Traj) → IsPlan e names ts → IsPlan f others us →
    plan_text e names ts ≡ plan_text f others us → (names ≡ others) × (ts ≡ us)
