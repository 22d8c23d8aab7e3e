use Rattle.rehearsal.proofs.Prelude.{◌≡◌, All, length, Drone, shown, blank_drone}
use Rattle.rehearsal.proofs.blank.blank_drones.Given as goal

abbrev pub invariant-loop : goal.invariant-loop
invariant-loop l = record {
  many : length l.drones.items ≡ l.counter;
  blank : All (λ (d : Drone). shown d ≡ blank_drone l.session) l.drones.items;
}
