use Rattle.fleet_world.proofs.Prelude.{common_steps, ◌≡◌, ◌∙◌, ◌≤◌, ap, sym, subst, arith, drone_count, happens, WorldState, WorldStandsAt, inl, inr}
use Rattle.fleet_world.proofs.Points.{take-unknown, hear-unknown, take-named, hear-named, tick-happens, on_ok, alter-nothing, alter-there}
use Rattle.fleet_world.proofs.world.World.act.Goals as goal
use Rattle.fleet_world.proofs.world.World.act.Goals.{then-drone-drones-3-via-then-drone-drones-3, then-drone-drones-3-via-else-drone-drones-3+then-address-ge-MEMORY_BYTES}

pub returns-then-drone-drones-clause-stands : goal.returns-then-drone-drones-clause-stands
returns-then-drone-drones-clause-stands c s w at = grind (arith, common_steps, hear-unknown)

pub returns-then-drone-drones-2-clause-stands : goal.returns-then-drone-drones-2-clause-stands
returns-then-drone-drones-2-clause-stands c s w at = grind (arith, common_steps, take-unknown)

pub returns-in-None-sent_packet-clause-stands : goal.returns-in-None-sent_packet-clause-stands
returns-in-None-sent_packet-clause-stands c s w at = grind (arith, common_steps, take-named)

pub returns-in-None-clause-stands : goal.returns-in-None-clause-stands
returns-in-None-clause-stands c s w at = grind (arith, common_steps, hear-named)

pub returns-in-Tick-clause-stands : goal.returns-in-Tick-clause-stands
returns-in-Tick-clause-stands c = grind (arith, common_steps, on_ok, tick-happens)

pub returns-in-Some-clause-stands : goal.returns-in-Some-clause-stands
returns-in-Some-clause-stands c = grind (arith, common_steps, on_ok, hear-named)

pub returns-in_ok-take-in-Take-clause-stands : goal.returns-in_ok-take-in-Take-clause-stands
returns-in_ok-take-in-Take-clause-stands c s w at = grind (arith, common_steps, take-named)

pub returns-then-drone-drones-3-clause-stands : goal.returns-then-drone-drones-3-clause-stands
returns-then-drone-drones-3-clause-stands c s w at =
    let number : c.drones-in-Alter.result ≡ drone_count s = c.drones-in-Alter.ensures.value ∙ ap drone_count (c.session-in-Alter.ensures ∙ ap (λ (v : WorldState). v.host.session) c.self-in-Alter.view_is ∙ at.session) in
    elim c.then-drone-drones-3.branch [
      | then-drone-drones-3-via-then-drone-drones-3 u ↦
          let past : drone_count s ≤ c.in-Alter.drone = let h = u.if-drone-drones-3.true in omega arith in
          subst (WorldStandsAt c.args.self.now s) (sym (ap (happens s w) c.in-Alter.is ∙ alter-nothing s w c.in-Alter.drone c.in-Alter.address c.in-Alter.value (inl past))) at
      | then-drone-drones-3-via-else-drone-drones-3+then-address-ge-MEMORY_BYTES u ↦
          let past : 4096 ≤ c.in-Alter.address = let h = u.if-address-ge-MEMORY_BYTES.true in omega arith in
          subst (WorldStandsAt c.args.self.now s) (sym (ap (happens s w) c.in-Alter.is ∙ alter-nothing s w c.in-Alter.drone c.in-Alter.address c.in-Alter.value (inr past))) at
    ]

pub returns-else-address-ge-MEMORY_BYTES-clause-stands : goal.returns-else-address-ge-MEMORY_BYTES-clause-stands
returns-else-address-ge-MEMORY_BYTES-clause-stands c s w at = grind (arith, common_steps, alter-there)
