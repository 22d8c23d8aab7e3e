use Rattle.flight_director.proofs.Prelude.{◌≡◌, replicate, None, false}
use Rattle.flight_director.proofs.state.State.start.Given as goal

abbrev pub invariant-loop-d : goal.invariant-loop-d
invariant-loop-d l = record {
  tracks : l.tracks.items ≡ replicate l.d (record { seen = None; off = None; unsure = None; outside = false });
  answered : l.answered.items ≡ replicate l.d false;
}
