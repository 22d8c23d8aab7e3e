use Rattle.flight_director.proofs.Prelude.{◌≡◌, drop, all_fit}
use Rattle.flight_director.proofs.fit.all_fit.Given as goal

abbrev pub invariant-loop-d : goal.invariant-loop-d
invariant-loop-d l = all_fit l.silence l.conditions l.tracks ≡ all_fit l.silence (drop l.d l.conditions) (drop l.d l.tracks)
