use Rattle.fleet_world.proofs.Prelude.{common_steps, ◌≡◌, ◌∙◌, ◌+◌, ◌≤◌, List, get_or, set, take, refl, subst, arith, All, vec_len, vec_capacity, length-set, take_more_set, take_all, All-push, Traffic, sent_of, given_of}
use Rattle.fleet_world.proofs.RowLemmas.{rows-set_kept}
use Rattle.fleet_world.proofs.traffic.make_room.Goals as goal
use Rattle.fleet_world.proofs.traffic.make_room.Goals.{After-reserve}

-- the traffic of a drone, with more room
abbrev wider : (c : After-reserve) → Traffic
wider c = record { sent = c.reserve.new.self; given = (get_or c.loop-drone.traffic c.loop-drone.drone c.index-traffic-drone.result).given }

sent-kept : (c : After-reserve) → sent_of (set c.loop-drone.traffic c.loop-drone.drone (wider c)) ≡ sent_of c.loop-drone.traffic
sent-kept c =
    rows-set_kept (λ (t : Traffic). t.sent.items) c.loop-drone.traffic c.loop-drone.drone (wider c) c.index-traffic-drone.result (omega arith) c.reserve.ensures.items

given-kept : (c : After-reserve) → given_of (set c.loop-drone.traffic c.loop-drone.drone (wider c)) ≡ given_of c.loop-drone.traffic
given-kept c = rows-set_kept (λ (t : Traffic). t.given) c.loop-drone.traffic c.loop-drone.drone (wider c) c.index-traffic-drone.result (omega arith) refl

pub returns-in_err-reserve-clause-sent : goal.returns-in_err-reserve-clause-sent
returns-in_err-reserve-clause-sent c = sent-kept (goal.at.returns-in_err-reserve-clause-sent c).After-reserve ∙ c.loop-drone.invariant.sent

pub returns-in_err-reserve-clause-given : goal.returns-in_err-reserve-clause-given
returns-in_err-reserve-clause-given c = given-kept (goal.at.returns-in_err-reserve-clause-given c).After-reserve ∙ c.loop-drone.invariant.given

pub loop-drone-preserved : goal.loop-drone-preserved
loop-drone-preserved c = grind (arith, common_steps, sent-kept, given-kept, length-set, wider, take_more_set, All-push, take)

pub returns-clause-room : goal.returns-clause-room
returns-clause-room c =
    subst (λ (traffic : List Traffic). All (λ (t : Traffic). vec_len t.sent + c.args.packets ≤ vec_capacity t.sent) traffic)
    (take_all c.loop-drone.drone c.loop-drone.traffic (omega arith)) c.loop-drone.invariant.room
