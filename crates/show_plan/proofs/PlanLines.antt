-- The lines of drones, one drone after another.
use Rattle.show_plan.proofs.Prelude.{common_steps, ◌≡◌, ℕ, ◌+◌, ◌<◌, ◌≤◌, List, ◌++◌, length, map, codes, drop, get_or, append_assoc, append-nil, arith, ap, ◌∙◌, drop_all, drop_more, hex_word, line, Name, Traj, ending, spelling, Upload, drone_line, drone_part, drone_parts, packet_lines}

-- the line of a drone, that of its bytes and those of its packets are its lines
pub part_is : (text first sent : List ℕ) (s : Upload) (d : ℕ) (name : List ℕ) (t : Traj) → first ≡ text ++ drone_line name (spelling t ++ ending) (length t.segments) →
    sent ≡ first ++ line (codes "data") (map hex_word (spelling t ++ ending)) → sent ++ packet_lines s d ≡ text ++ drone_part s d name t
part_is text first sent s d name t first_is sent_made =
    let head = drone_line name (spelling t ++ ending) (length t.segments) in
    let bytes = line (codes "data") (map hex_word (spelling t ++ ending)) in
    ap (λ (xs : List ℕ). xs ++ packet_lines s d) (sent_made ∙ ap (λ (xs : List ℕ). xs ++ bytes) first_is)
    ∙ ap (λ (xs : List ℕ). xs ++ packet_lines s d) (append_assoc text head bytes)
    ∙ append_assoc text (head ++ bytes) (packet_lines s d)

-- one drone's lines more: what is to come is less by them
pub parts_next : (text more : List ℕ) (s : Upload) (names : List Name) (ts : List Traj) (k : ℕ) (name : Name) (t : Traj) →
    k < length names → length ts ≡ length names → name ≡ get_or names k name → t ≡ get_or ts k t → more ≡ text ++ drone_part s k name.items t →
    more ++ drone_parts s (k + 1) (drop (k + 1) names) (drop (k + 1) ts) ≡ text ++ drone_parts s k (drop k names) (drop k ts)
parts_next text more s names ts k name t within many name_is t_is more_is = grind (arith, common_steps, drop, drop_more, append_assoc)

-- after the last drone nothing is to come
pub parts_over : (text : List ℕ) (s : Upload) (names : List Name) (ts : List Traj) (k : ℕ) → length names ≤ k → text ++ drone_parts s k (drop k names) (drop k ts) ≡ text
parts_over text s names ts k over = ap (λ (ns : List Name). text ++ drone_parts s k ns (drop k ts)) (drop_all k names over) ∙ append-nil text
