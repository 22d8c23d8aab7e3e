use Rattle.fleet_world.proofs.Prelude.{◌≡◌, ◌+◌, ◌≤◌, map, length, Absent, lines_of, numbered, events_of, schedule_of, prepended}
use Rattle.fleet_world.proofs.schedule.read_schedule.Given as goal

abbrev pub decreases-lines : goal.decreases-lines
decreases-lines l = length l.rest

abbrev pub invariant-lines : goal.invariant-lines
invariant-lines l = record {
  read : prepended l.events.items (events_of l.readback (map (λ name. name.items) l.names) (numbered Absent l.number (lines_of l.rest)))
      ≡ schedule_of l.readback (map (λ name. name.items) l.names) l.text;
  some : 1 ≤ l.number;
  counted : l.number + length l.rest ≤ length l.text + 1;
}
