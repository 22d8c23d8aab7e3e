use Rattle.flight_director.proofs.Prelude.{◌≡◌, drop, first_unfit}
use Rattle.flight_director.proofs.fit.first_unfit.Given as goal

abbrev pub invariant-loop-d : goal.invariant-loop-d
invariant-loop-d l = first_unfit l.silence 0 l.conditions l.tracks ≡ first_unfit l.silence l.d (drop l.d l.conditions) (drop l.d l.tracks)
