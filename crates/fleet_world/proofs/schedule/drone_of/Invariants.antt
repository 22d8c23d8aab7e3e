use Rattle.fleet_world.proofs.Prelude.{◌≡◌, drop, map, place_from}
use Rattle.fleet_world.proofs.schedule.drone_of.Given as goal

abbrev pub invariant-loop-drone : goal.invariant-loop-drone
invariant-loop-drone l =
    place_from l.drone (map (λ name. name.items) (drop l.drone l.names)) l.word ≡ place_from 0 (map (λ name. name.items) l.names) l.word
