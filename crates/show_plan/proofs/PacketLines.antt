-- The packet lines of a drone, one after another.
use Rattle.show_plan.proofs.Prelude.{◌≡◌, ℕ, suc, ◌+◌, ◌-◌, ◌<◌, arith, false, true, List, [], ◌∷◌, ◌++◌, map, length, take, drop, get_or, codes, sym, ap, ◌∙◌, ◌==◌, nat_lt, if◌then◌else◌, flat_map, range_with_len, flat_map_more, get_or-map, hex_word, line, Load, Upload, load_of, packet_at, packet_count, read_count, read_start, write_count, Traj, load_for, Settings, session_for, packet_line, packet_lines}
use Rattle.crtp_packets.specs.Chunks.{chunk_count_of, chunk_of, chunk_start}
use Rattle.crtp_packets.specs.Packets.{read_request_of, write_request_of}
use Rattle.crtp_packets.specs.declared.packet.TheConstants.{READ_BYTES}
use Rattle.crtp_packets.specs.Commands.{define_of, start_of}
use Rattle.upload_model.proofs.HostSteps.{range-more}

-- the lines of the first packets
abbrev pub first_lines : Upload → ℕ → ℕ → List ℕ
first_lines s d n = flat_map (packet_line s d) (range_with_len 0 n)

range-one_more : (n : ℕ) → range_with_len 0 (n + 1) ≡ range_with_len 0 n ++ n ∷ []
range-one_more n =
    ap (range_with_len 0) (let e : n + 1 ≡ suc n = omega arith in e) ∙ range-more 0 n
    ∙ ap (λ (k : ℕ). range_with_len 0 n ++ k ∷ []) (let e : 0 + n ≡ n = omega arith in e)

-- one line more
pub one_line_more : (text more start : List ℕ) (s : Upload) (d n : ℕ) → text ≡ start ++ first_lines s d n → more ≡ text ++ packet_line s d n → more ≡ start ++ first_lines s d (n + 1)
one_line_more text more start s d n so_far next =
    next ∙ ap (λ (xs : List ℕ). xs ++ packet_line s d n) so_far ∙ flat_map_more (packet_line s d) start (range_with_len 0 n) n
    ∙ ap (λ (ks : List ℕ). start ++ flat_map (packet_line s d) ks) (sym (range-one_more n))

-- a read of a load, written out
abbrev read_of : Settings → Load → ℕ → List ℕ
read_of e l k = read_request_of e.memory_id (e.offset + read_start k) (length (take READ_BYTES (drop (read_start k) l.bytes)))

-- the packet lines of a load, written out
abbrev lines_of : Settings → Load → List ℕ
lines_of e l =
    flat_map (λ (k : ℕ). line
    (if nat_lt k (chunk_count_of (length l.bytes)) then codes "write" else (if k == chunk_count_of (length l.bytes) then codes "define" else codes "start"))
    (map hex_word (if nat_lt k (chunk_count_of (length l.bytes)) then write_request_of e.memory_id (e.offset + chunk_start k) (chunk_of l.bytes k)
    else (if k == chunk_count_of (length l.bytes) then define_of e.trajectory_id e.offset l.pieces
    else (if nat_lt k (chunk_count_of (length l.bytes) + 1 + 0) then read_of e l (k - (chunk_count_of (length l.bytes) + 1))
    else start_of e.trajectory_id)))))
    (range_with_len 0 (chunk_count_of (length l.bytes) + 1 + 0 + 1))

-- The packets of a drone in the session of a show are those of a session of its trajectory alone.
pub packets_alone : (e : Settings) (ts : List Traj) (d : ℕ) (t : Traj) → load_of (session_for e ts false true) d ≡ load_for t →
    packet_lines (session_for e (t ∷ []) false true) 0 ≡ packet_lines (session_for e ts false true) d
unfolding packet_at packet_count read_count write_count
packets_alone e ts d t is = ap (lines_of e) (sym is)

pub packets_at : (e : Settings) (ts : List Traj) (d : ℕ) (t : Traj) → d < length ts → t ≡ get_or ts d t → packet_lines (session_for e (t ∷ []) false true) 0 ≡ packet_lines (session_for e ts false true) d
packets_at e ts d t within t_is =
    packets_alone e ts d t (get_or-map load_for ts d t (record { bytes = []; pieces = 0 }) within ∙ ap load_for (sym t_is))
