use Rattle.flight_director.proofs.Prelude.{◌≡◌, drop, all_down}
use Rattle.flight_director.proofs.down.all_down.Given as goal

abbrev pub invariant-loop-d : goal.invariant-loop-d
invariant-loop-d l = all_down l.f l.still l.pads l.tracks ≡ all_down l.f l.still (drop l.d l.pads) (drop l.d l.tracks)
