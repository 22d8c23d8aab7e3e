use Rattle.fleet_world.proofs.Prelude.{common_steps, ◌≡◌, ◌∙◌, [], List, length, replicate, ap, sym, subst, arith, All, with_items, with_items_is, All-weaker, Going, IsSession, Upload, drone_count, flight, start_world, IsPacketOf, Traffic, sent_of, given_of, AreNumbersOf, state_at, WorldStandsAt}
use Rattle.fleet_world.proofs.RowLemmas.{HasRoom-less}
use Rattle.fleet_world.proofs.Points.{AfterPut, known-put, none-known, stands-start}
use Rattle.fleet_world.proofs.world.World.make.Goals as goal
use Rattle.fleet_world.proofs.world.World.make.Goals.{After-make_room, After-put_all}

-- the traffic in which there is room, and of how many drones it is
room : (c : After-make_room) → (with_items c.in_ok-traffic.traffic c.make_room.new.traffic).items ≡ c.make_room.new.traffic
room c = with_items_is c.in_ok-traffic.traffic c.make_room.new.traffic (c.make_room.ensures.len ∙ ap (λ (traffic : List Traffic). length traffic) c.as_mut_slice.ensures.value ∙ (omega arith))

count : (c : After-make_room) → length c.make_room.new.traffic ≡ drone_count c.in_ok-host.host.session
count c =
    c.make_room.ensures.len ∙ ap (λ (traffic : List Traffic). length traffic) c.as_mut_slice.ensures.value
    ∙ c.in_ok-traffic.ensures.len ∙ c.drones.ensures.value ∙ ap drone_count c.session.ensures

-- what was put
after : (c : After-put_all) → (with_items (with_items c.in_ok-traffic.traffic c.make_room.new.traffic) c.put_all.new.traffic).items ≡ c.put_all.new.traffic
after c = with_items_is (with_items c.in_ok-traffic.traffic c.make_room.new.traffic) c.put_all.new.traffic (c.put_all.ensures.len ∙ (omega arith))

sent : (c : After-put_all) → c.as_mut_slice-2.result.now ≡ c.make_room.new.traffic → AfterPut (flight c.in_ok-host.host.session []) (replicate c.drones.result []) (sent_of c.put_all.new.traffic)
sent c before d = grind (arith, common_steps, replicate)

given : (c : After-put_all) → c.as_mut_slice-2.result.now ≡ c.make_room.new.traffic → given_of c.put_all.new.traffic ≡ replicate c.drones.result []
given c before =
    c.put_all.ensures.given ∙ ap given_of before ∙ c.make_room.ensures.given ∙ ap given_of c.as_mut_slice.ensures.value ∙ c.in_ok-traffic.ensures.given

pub put_all-requires-clause-known : goal.put_all-requires-clause-known
put_all-requires-clause-known c = grind (arith, common_steps, All-weaker, room, count)

pub put_all-requires-clause-room : goal.put_all-requires-clause-room
put_all-requires-clause-room c = grind (arith, common_steps, room, HasRoom-less)

pub invariant_of-result : goal.invariant_of-result
invariant_of-result c =
    let w = (goal.at.invariant_of-result c).After-put_all in
    let u = (goal.at.invariant_of-result c).After-make_room in
    let before : c.as_mut_slice-2.result.now ≡ c.make_room.new.traffic = c.as_mut_slice-2.ensures.value ∙ room u in (
      c.requires ∙ sym (ap drone_count c.in_ok-host.ensures.session),
      ap (λ (traffic : List Traffic). length traffic) (after w) ∙ c.put_all.ensures.len ∙ ap (λ (traffic : List Traffic). length traffic) before ∙ count u,
      subst (λ (traffic : List Traffic). AreNumbersOf c.in_ok-host.host.session (sent_of traffic)) (sym (after w))
          (known-put c.in_ok-host.host.session (flight c.in_ok-host.host.session []) (replicate c.drones.result []) (sent_of c.put_all.new.traffic)
          (subst (All (IsPacketOf c.in_ok-host.host.session)) c.first.ensures.sent c.first.ensures.known) (sent w before) (none-known c.in_ok-host.host.session c.drones.result)),
    )

pub returns : goal.returns
returns c =
    let w = (goal.at.returns c).After-put_all in
    let before : c.as_mut_slice-2.result.now ≡ c.make_room.new.traffic = c.as_mut_slice-2.ensures.value ∙ room (goal.at.returns c).After-make_room in
    let ok : IsSession c.in_ok-host.host.session = subst IsSession c.session.ensures c.drones.ensures.valid in
    subst (λ (u : Upload). WorldStandsAt (record { host = c.in_ok-host.host; drones = c.args.drones.items; sent = sent_of (with_items (with_items c.in_ok-traffic.traffic c.make_room.new.traffic) c.put_all.new.traffic).items; given = given_of (with_items (with_items c.in_ok-traffic.traffic c.make_room.new.traffic) c.put_all.new.traffic).items; progress = Going }) u (start_world u (state_at c.args.drones.items)))
    c.in_ok-host.ensures.session
    (subst (λ (traffic : List Traffic). WorldStandsAt (record { host = c.in_ok-host.host; drones = c.args.drones.items; sent = sent_of traffic; given = given_of traffic; progress = Going }) c.in_ok-host.host.session (start_world c.in_ok-host.host.session (state_at c.args.drones.items)))
    (sym (after w))
    (stands-start c.in_ok-host.host c.args.drones.items (sent_of c.put_all.new.traffic) (given_of c.put_all.new.traffic) c.drones.result ok c.in_ok-host.ensures.stands
    (c.requires ∙ sym (ap drone_count c.in_ok-host.ensures.session)) (sent w before) (given w before)))
