use Rattle.upload_core.proofs.Prelude.{common_steps, ◌≡◌, ◌∙◌, ◌<◌, ℕ, Bool, cond, List, get_or, ap, sym, subst, arith, Result, Some, None, Ok, inl, inr, up_of, PacketFault, Going, Done, Reply, Silent, Good, Ends, Phase, Sent, Upload, drone_count, reply_in, reply_to, phase_of, flight_after, includes, Row, packets_in, among, marked, IsFor, RowsStand}
use Rattle.crtp_packets.specs.declared.reading.Up.{Up}
use Rattle.upload_model.specs.declared.events.Event.TheVariants as event
use Rattle.upload_core.proofs.Windows.{row-at}
use Rattle.upload_core.proofs.Settling.{flight-includes}
use Rattle.upload_core.proofs.Hearing.{IsOnly, silent-unknown, silent-fault, silent-none, only-some, only-silent, reply-here, hears-silent, hears-out, hears-past, hears-end, marks-more, unfinished-more}
use Rattle.upload_core.proofs.answers.hear.Goals as goal
use Rattle.upload_core.proofs.answers.hear.Goals.{After-reply, After-is_past, then-is_past-via-then-is_past, then-is_past-via-else-is_past+then-not-counts}

-- the row that is indexed, and whether a packet of it is in flight
flown : (s : Upload) (p : Phase) (rows : List Row) (from k : ℕ) (row : Row) → RowsStand s p rows → p ≡ phase_of s (marked rows) → from < drone_count s → row ≡ get_or rows from row →
    includes (flight_after s (marked rows)) (record { drone = from; packet = k }) ≡ among (packets_in (get_or rows from row).window.items) k
flown s p rows from k row stand phase known is =
    flight-includes s p rows stand phase (record { drone = from; packet = k }) known
    ∙ ap (λ (r : Row). among (packets_in r.window.items) k) (row-at rows from row is (let n = stand.count in omega arith) ∙ is)

-- ---- what isn't an answer to any packet

pub returns-then-from-drones : goal.returns-then-from-drones
returns-then-from-drones c =
    hears-silent c.args.session.now (event.Up c.args.drone c.args.packet.now) c.args.phase.now c.args.rows.now c.clear.new.self.items
    c.requires.rows c.requires.phase c.requires.going c.clear.ensures
    (silent-unknown c.args.session.now c.args.drone c.args.packet.now (let value = c.drones.ensures.value in omega arith))

pub returns-in-Err : goal.returns-in-Err
returns-in-Err c =
    hears-silent c.args.session.now (event.Up c.args.drone c.args.packet.now) c.args.phase.now c.args.rows.now c.clear.new.self.items
    c.requires.rows c.requires.phase c.requires.going c.clear.ensures
    (silent-fault c.args.session.now c.args.drone c.args.packet.now c.in-Err.field-0 (sym c.parse_up_bytes.ensures.value ∙ c.in-Err.is))

pub returns-in-None : goal.returns-in-None
returns-in-None c =
    hears-silent c.args.session.now (event.Up c.args.drone c.args.packet.now) c.args.phase.now c.args.rows.now c.clear.new.self.items
    c.requires.rows c.requires.phase c.requires.going c.clear.ensures
    (silent-none c.args.session.now c.args.drone c.args.packet.now
    (subst (λ (m : Result Up PacketFault). IsFor c.args.session.now c.args.drone m None) (sym (sym c.parse_up_bytes.ensures.value ∙ c.in-Ok.is))
    (subst (IsFor c.args.session.now c.args.drone (Ok c.in-Ok.message)) c.in-None.is c.candidate.ensures)))

-- ---- what answers one packet

known : (c : After-reply) → c.args.drone < drone_count c.args.session.now
known c = let value = c.drones.ensures.value in omega arith

read : (c : After-reply) → up_of c.args.packet.now ≡ Ok c.in-Ok.message
read c = sym c.parse_up_bytes.ensures.value ∙ c.in-Ok.is

candidate : (c : After-reply) → IsFor c.args.session.now c.args.drone (Ok c.in-Ok.message) (Some c.in-Some.k)
candidate c = subst (IsFor c.args.session.now c.args.drone (Ok c.in-Ok.message)) c.in-Some.is c.candidate.ensures

only : (c : After-reply) → IsOnly c.args.session.now (event.Up c.args.drone c.args.packet.now) (record { drone = c.args.drone; packet = c.in-Some.k })
only c =
    only-some c.args.session.now c.args.drone c.in-Some.k c.args.packet.now
    (subst (λ (m : Result Up PacketFault). IsFor c.args.session.now c.args.drone m (Some c.in-Some.k)) (sym (read c)) (candidate c))

said : (c : After-reply) (t : Reply) → c.reply.result ≡ t → reply_to c.args.session.now c.args.drone c.in-Some.k (event.Up c.args.drone c.args.packet.now) ≡ t
said c t same =
    reply-here c.args.session.now c.args.drone c.in-Some.k c.args.packet.now (known c) (candidate c).0
    ∙ ap (reply_in c.args.session.now c.args.drone c.in-Some.k) (read c) ∙ sym c.reply.ensures ∙ same

pub returns-in-Silent : goal.returns-in-Silent
returns-in-Silent c =
    let w = (goal.at.returns-in-Silent c).After-reply in
    hears-silent c.args.session.now (event.Up c.args.drone c.args.packet.now) c.args.phase.now c.args.rows.now c.clear.new.self.items
    c.requires.rows c.requires.phase c.requires.going c.clear.ensures
    (only-silent c.args.session.now (event.Up c.args.drone c.args.packet.now) (record { drone = c.args.drone; packet = c.in-Some.k }) (only w) (said w Silent c.in-Silent.is))

pub returns-then-not-has : goal.returns-then-not-has
returns-then-not-has c =
    let w = (goal.at.returns-then-not-has c).After-reply in
    hears-out c.args.session.now (event.Up c.args.drone c.args.packet.now) c.args.phase.now c.args.rows.now c.clear.new.self.items
    c.requires.rows c.requires.phase c.requires.going c.clear.ensures (record { drone = c.args.drone; packet = c.in-Some.k }) (only w) (said w Good c.in-Good.is)
    (flown c.args.session.now c.args.phase.now c.args.rows.now c.args.drone c.in-Some.k c.index-rows-from.result c.requires.rows c.requires.phase (known w) c.index-rows-from.is
    ∙ sym c.has.ensures ∙ c.if-not-has.true)

pub returns-else-not-has : goal.returns-else-not-has
returns-else-not-has c =
    let w = (goal.at.returns-else-not-has c).After-reply in
    let e = event.Up c.args.drone c.args.packet.now in
    let x : Sent = record { drone = c.args.drone; packet = c.in-Some.k } in
    let good = said w Good c.in-Good.is in record {
      rows = c.acknowledge.ensures.rows;
      phase = c.acknowledge.ensures.phase;
      marks = marks-more c.args.session.now e c.args.rows.now c.acknowledge.new.rows c.acknowledge.result x (only w) good
          (flown c.args.session.now c.args.phase.now c.args.rows.now c.args.drone c.in-Some.k c.index-rows-from.result c.requires.rows c.requires.phase (known w) c.index-rows-from.is
          ∙ sym c.has.ensures ∙ c.if-not-has.false)
          c.acknowledge.ensures.marks;
      counts = c.acknowledge.ensures.counts;
      low = c.acknowledge.ensures.low;
      len = c.acknowledge.ensures.len;
      finished = λ all. c.acknowledge.ensures.answer ∙ ap (λ (b : Bool). cond b Done Going) all;
      unfinished = unfinished-more c.args.session.now e c.args.rows.now c.acknowledge.new.rows c.acknowledge.result x (only w) good c.acknowledge.ensures.answer;
      sent = c.acknowledge.ensures.sent;
    }

-- ---- what would end the upload

-- the row that is indexed says whether the packet is acknowledged
past : (c : After-is_past) → marked c.args.rows.now c.args.drone c.in-Some.k ≡ c.is_past.result
past c = grind (arith, common_steps, row-at)

pub returns-then-is_past : goal.returns-then-is_past
returns-then-is_past c =
    let w = (goal.at.returns-then-is_past c).After-reply in
    hears-past c.args.session.now (event.Up c.args.drone c.args.packet.now) c.args.phase.now c.args.rows.now c.clear.new.self.items
    c.requires.rows c.requires.phase c.requires.going c.clear.ensures (record { drone = c.args.drone; packet = c.in-Some.k }) (only w)
    c.in-Ends.progress (said w (Ends c.in-Ends.progress) c.in-Ends.is)
    (elim c.then-is_past.branch [
      | then-is_past-via-then-is_past u ↦ inr (past (goal.at.returns-then-is_past c).After-is_past ∙ u.if-is_past.true)
      | then-is_past-via-else-is_past+then-not-counts u ↦ inl (sym (u.counts.ensures (marked c.args.rows.now) c.requires.phase) ∙ u.if-not-counts.true)
    ])

pub returns-else-not-counts : goal.returns-else-not-counts
returns-else-not-counts c =
    let w = (goal.at.returns-else-not-counts c).After-reply in
    hears-end c.args.session.now (event.Up c.args.drone c.args.packet.now) c.args.phase.now c.args.rows.now c.clear.new.self.items
    c.requires.rows c.requires.phase c.requires.going c.clear.ensures (record { drone = c.args.drone; packet = c.in-Some.k }) (only w)
    c.in-Ends.progress (said w (Ends c.in-Ends.progress) c.in-Ends.is)
    (known w) (candidate w).0 (sym (c.counts.ensures (marked c.args.rows.now) c.requires.phase) ∙ c.if-not-counts.false)
    (past (goal.at.returns-else-not-counts c).After-is_past ∙ c.if-is_past.false)
