use Rattle.rehearsal.proofs.Prelude.{◌≡◌, All, List, length, take, drone_count, Drone, shown, WorldStandsFor, blank_drone}
use Rattle.rehearsal.proofs.blank.rehearse.Given as goal

abbrev pub invariant-loop-e : goal.invariant-loop-e
invariant-loop-e l = record {
  start : List Drone;
  many : length start ≡ drone_count l.fn.session;
  blank : All (λ (d : Drone). shown d ≡ blank_drone l.fn.session) start;
  stands : WorldStandsFor l.world l.fn.session start (take l.e-index l.events);
}
