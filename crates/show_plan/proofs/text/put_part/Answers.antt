use Rattle.show_plan.proofs.Prelude.{◌≡◌, ◌∷◌, ◌++◌, [], List, ℕ, OnOk, false, true, length, map, codes, ap, sym, subst, ◌∙◌, All-head, hex_word, line, Segment, ending, spelling, Load, IsSession, Upload, IsSendable, drone_line, packet_lines}
use Rattle.show_plan.proofs.Landing.{is_session, session_is}
use Rattle.show_plan.proofs.PlanLines.{part_is}
use Rattle.show_plan.proofs.text.put_part.Goals as goal

pub load_of-requires : goal.load_of-requires
load_of-requires c = All-head IsSendable c.args.t.now [] c.requires.sendable

pub of_loads-session-requires : goal.of_loads-session-requires
of_loads-session-requires c =
    let loads = c.in_ok-push.ensures.items ∙ ap (λ (ls : List Load). ls ++ c.in_ok-load.load ∷ []) c.new-loads.ensures.items ∙ ap (λ (l : Load). l ∷ []) c.in_ok-load.ensures in
    let place = c.place_in.ensures in
    subst IsSession
    (sym (session_is c.place_in.result c.args.settings c.push.new.self.items (c.args.t.now ∷ []) false true place.memory_id place.offset place.trajectory_id loads))
    (is_session c.args.settings (c.args.t.now ∷ []) false true c.requires)

pub returns : goal.returns
returns c = λ s d same.
    let loads = c.in_ok-push.ensures.items ∙ ap (λ (ls : List Load). ls ++ c.in_ok-load.load ∷ []) c.new-loads.ensures.items ∙ ap (λ (l : Load). l ∷ []) c.in_ok-load.ensures in
    let place = c.place_in.ensures in
    let session =
    c.of_loads-session.ensures
    ∙ session_is c.place_in.result c.args.settings c.push.new.self.items (c.args.t.now ∷ []) false true place.memory_id place.offset place.trajectory_id loads in
    let bytes = c.as_slice-bytes.ensures ∙ ap (λ (l : Load). l.bytes) c.in_ok-load.ensures in
    let first =
    c.in_ok-put_drone_line.ensures
    ∙ ap (λ (bs : List ℕ). c.args.text.now ++ drone_line c.args.name.now bs (length c.as_slice-segments.result.now)) bytes
    ∙ ap (λ (ss : List Segment). c.args.text.now ++ drone_line c.args.name.now (spelling c.args.t.now ++ ending) (length ss)) c.as_slice-segments.ensures in
    let second = c.in_ok-hex_line.ensures.ok ∙ ap (λ (bs : List ℕ). c.put_drone_line.new.text ++ line (codes "data") (map hex_word bs)) bytes in
    subst (λ (t : List ℕ). OnOk c.put_packets.result (c.put_packets.new.text ≡ t))
    (ap (λ (u : Upload). c.hex_line.new.self ++ packet_lines u 0) session
    ∙ ap (λ (xs : List ℕ). c.hex_line.new.self ++ xs) same
    ∙ part_is c.args.text.now c.put_drone_line.new.text c.hex_line.new.self s d c.args.name.now c.args.t.now first second)
    c.put_packets.ensures
