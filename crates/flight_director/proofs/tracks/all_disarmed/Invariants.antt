use Rattle.flight_director.proofs.Prelude.{◌≡◌, drop, all_seen, is_disarmed}
use Rattle.flight_director.proofs.tracks.all_disarmed.Given as goal

abbrev pub invariant-loop-t : goal.invariant-loop-t
invariant-loop-t l = all_seen l.silence is_disarmed (drop l.t-index l.tracks) ≡ all_seen l.silence is_disarmed l.tracks
