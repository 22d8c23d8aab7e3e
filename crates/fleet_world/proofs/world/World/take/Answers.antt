use Rattle.fleet_world.proofs.Prelude.{common_steps, ◌≡◌, ◌∙◌, ◌++◌, ◌<◌, ℕ, List, set, refl, ap, sym, subst, arith, length, length-set, set-get_or, slice_get_read, DroneState, handled, Upload, drone_count, option_list, shown, Traffic, sent_of, given_of, row_of, state_at, state_of, WorldState, WorldStandsAt}
use Rattle.fleet_world.proofs.RowLemmas.{row-kept, rows-set_kept, row-set_same, row-set_other}
use Rattle.std.proofs.lemmas.Result.{on_err_weaker}
use Rattle.fleet_world.proofs.Points.{stands-took, on_ok}
use Rattle.fleet_world.proofs.world.World.take.Goals as goal

-- a drone of the session has its place
inside : (xs : List Traffic) (d n : ℕ) → length xs ≡ n → d < n → d < length xs
inside xs d n same l = omega arith

pub invariant_of-self : goal.invariant_of-self
invariant_of-self c = grind (arith, common_steps, inside, length-set, rows-set_kept)

pub returns-clause-stands : goal.returns-clause-stands
returns-clause-stands c =
    on_ok c.take.result _ _ c.take.ensures.ok (λ h s w at.
    let v : WorldState = record { host = c.self.inside.host; drones = c.self.inside.drones.items; sent = sent_of c.self.inside.traffic.items; given = given_of c.self.inside.traffic.items; progress = c.self.inside.progress } in
    let here : WorldStandsAt v s w = subst (λ (x : WorldState). WorldStandsAt x s w) (sym c.self.view_is) at in
    let l : c.args.drone < drone_count s = subst (λ (x : Upload). c.args.drone < drone_count x) at.session c.requires.known in
    let known = inside c.self.inside.traffic.items c.args.drone (drone_count s) (c.self.invariant.1 ∙ ap drone_count here.session) l in
    let t : Traffic = record { sent = c.index_mut.result.now.sent; given = c.take.new.self } in
    let found : state_at c.self.inside.drones.items c.args.drone ≡ shown c.index_mut-2.result.now
    = ap state_of (slice_get_read c.self.inside.drones.items (length c.self.inside.drones.items) c.args.drone c.index_mut-2.result.now (λ i. length c.self.inside.drones.items)
    (let count = here.count in omega arith) c.index_mut-2.ensures.value) in
    stands-took v s w c.args.drone c.args.packet.now c.take.new.drone (handled (state_at v.drones c.args.drone) c.args.packet.now).answer
    (sent_of (set c.self.inside.traffic.items c.args.drone t)) (given_of (set c.self.inside.traffic.items c.args.drone t)) here l
    (rows-set_kept (λ (x : Traffic). x.sent.items) c.self.inside.traffic.items c.args.drone t c.index_mut.result.now known (ap (λ (x : Traffic). x.sent.items) c.index_mut.ensures.value))
    (h.0 ∙ ap (λ (y : DroneState). (handled y c.args.packet.now).drone) (sym found)) refl
    (row-set_same (λ (x : Traffic). x.given) c.self.inside.traffic.items c.args.drone t known ∙ h.1
    ∙ ap (λ (gs : List (List ℕ)). gs ++ option_list (handled (shown c.index_mut-2.result.now) c.args.packet.now).answer)
    (ap (λ (x : Traffic). x.given) c.index_mut.ensures.value ∙ sym (row-kept (λ (x : Traffic). x.given) c.self.inside.traffic.items c.args.drone c.index_mut.result.now known))
    ∙ ap (λ (y : DroneState). row_of v.given c.args.drone ++ option_list (handled y c.args.packet.now).answer) (sym found))
    (λ i other. row-set_other (λ (x : Traffic). x.given) c.self.inside.traffic.items c.args.drone i t other))

pub returns-clause-err : goal.returns-clause-err
returns-clause-err c = grind (arith, common_steps, on_err_weaker, inside, set, set-get_or, rows-set_kept)
