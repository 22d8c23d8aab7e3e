-- Why `memory_text` keeps its contract: drone by drone.
use Rattle.rehearsal.proofs.Prelude.{◌≡◌, ◌∙◌, ◌+◌, ◌++◌, ℕ, List, map, take, ap, sym, subst, append_assoc, arith, DroneState, shown, state_at, state_of, title_line, drone_text, AreTexts, IsFound}
use Rattle.rehearsal.proofs.TextLemmas.{texts-next}
use Rattle.rehearsal.proofs.text.memory_text.Goals as goal

pub loop-d-preserved : goal.loop-d-preserved
loop-d-preserved c =
    let said = c.in_ok-put_decoded.ensures in
    let drone : DroneState = shown c.drone.result.now in
    let same : state_at c.args.world.now.drones c.loop-d.d ≡ drone = ap state_of c.drone.ensures in
    let part : List ℕ = drone_text c.as_slice.result.now drone said.0 in
    record {
      said = c.loop-d.invariant.said ++ part;
      texts = subst (λ (s : DroneState). AreTexts (state_at c.args.world.now.drones) c.args.id 0 (map (λ name. name.items) (take (c.loop-d.d + 1) c.args.names.now)) (c.loop-d.invariant.said ++ drone_text c.as_slice.result.now s said.0)) same
          (texts-next (state_at c.args.world.now.drones) c.args.id (λ name. name.items) c.args.names.now c.index-names-d.result c.loop-d.d c.loop-d.invariant.said c.as_slice.result.now said.0
          (omega arith) (c.as_slice.ensures.value ∙ ap (λ name. name.items) c.index-names-d.is) c.loop-d.invariant.texts
          (subst (λ (s : DroneState). IsFound c.args.id s said.0) (sym same) said.1));
      all = said.2 ∙ ap (λ (xs : List ℕ). xs ++ part) c.loop-d.invariant.all ∙ append_assoc title_line c.loop-d.invariant.said part;
    }
