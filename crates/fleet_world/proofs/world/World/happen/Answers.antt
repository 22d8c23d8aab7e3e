use Rattle.fleet_world.proofs.Prelude.{common_steps, ◌≡◌, ◌∙◌, List, length, ap, sym, subst, arith, with_items, with_items_is, Upload, drone_count, host_event, Traffic, sent_of, given_of, AreNumbersOf, WorldState, WorldStandsAt}
use Rattle.fleet_world.proofs.Points.{AfterPut, known-put, stands-host_event}
use Rattle.fleet_world.proofs.world.World.happen.Goals as goal
use Rattle.fleet_world.proofs.world.World.happen.Goals.{After-put_all}

-- the traffic before the packets that are sent now are put, and after
before : (c : After-put_all) → c.as_mut_slice-2.result.now ≡ c.make_room.new.traffic
before c =
    c.as_mut_slice-2.ensures.value
    ∙ with_items_is c.self.inside.traffic c.make_room.new.traffic (c.make_room.ensures.len ∙ ap (λ (traffic : List Traffic). length traffic) c.as_mut_slice.ensures.value ∙ (omega arith))

after : (c : After-put_all) → (with_items (with_items c.self.inside.traffic c.make_room.new.traffic) c.put_all.new.traffic).items ≡ c.put_all.new.traffic
after c = with_items_is (with_items c.self.inside.traffic c.make_room.new.traffic) c.put_all.new.traffic (c.put_all.ensures.len ∙ (omega arith))

sent : (c : After-put_all) → AfterPut c.event-progress.new.out.items (sent_of c.self.inside.traffic.items) (sent_of c.put_all.new.traffic)
sent c d = grind (arith, common_steps, before)

given : (c : After-put_all) → given_of c.put_all.new.traffic ≡ given_of c.self.inside.traffic.items
given c = c.put_all.ensures.given ∙ ap given_of (before c) ∙ c.make_room.ensures.given ∙ ap given_of c.as_mut_slice.ensures.value

pub invariant_of-self-2 : goal.invariant_of-self-2
invariant_of-self-2 c =
    let w = (goal.at.invariant_of-self-2 c).After-put_all in
    let session : c.event-progress.new.self.session ≡ c.self.inside.host.session = c.event-progress.ensures.session in (
      c.self.invariant.0 ∙ sym (ap drone_count session),
      ap (λ (traffic : List Traffic). length traffic) (after w) ∙ c.put_all.ensures.len ∙ ap (λ (traffic : List Traffic). length traffic) (before w) ∙ c.make_room.ensures.len
          ∙ ap (λ (traffic : List Traffic). length traffic) c.as_mut_slice.ensures.value ∙ c.self.invariant.1 ∙ sym (ap drone_count session),
      subst (λ (traffic : List Traffic). AreNumbersOf c.event-progress.new.self.session (sent_of traffic)) (sym (after w))
          (subst (λ (s : Upload). AreNumbersOf s (sent_of c.put_all.new.traffic)) (sym session)
          (known-put c.self.inside.host.session c.event-progress.new.out.items (sent_of c.self.inside.traffic.items) (sent_of c.put_all.new.traffic)
          c.event-progress.ensures.known (sent w) c.self.invariant.2)),
    )

pub returns-clause-stands : goal.returns-clause-stands
returns-clause-stands c s w at =
    let u = (goal.at.returns-clause-stands c).After-put_all in
    let v : WorldState = record { host = c.self.inside.host; drones = c.self.inside.drones.items; sent = sent_of c.self.inside.traffic.items; given = given_of c.self.inside.traffic.items; progress = c.self.inside.progress } in
    let here : WorldStandsAt v s w = subst (λ (x : WorldState). WorldStandsAt x s w) (sym c.self.view_is) at in
    subst (λ (traffic : List Traffic). WorldStandsAt (record { host = c.event-progress.new.self; drones = c.self.inside.drones.items; sent = sent_of traffic; given = given_of traffic; progress = c.event-progress.result }) s (host_event s w c.args.e))
    (sym (after u))
    (stands-host_event v s w c.args.e c.event-progress.new.self c.event-progress.new.out.items (sent_of c.put_all.new.traffic) (given_of c.put_all.new.traffic) c.event-progress.result
    here c.event-progress.ensures.session (c.event-progress.ensures.stands w.heard here.host) (c.event-progress.ensures.sent w.heard here.host) (sent u) (given u)
    (c.event-progress.ensures.answer w.heard here.host))
