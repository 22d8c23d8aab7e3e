use Rattle.flight_director.proofs.Prelude.{◌≡◌, drop, list_any, Track, is_silent, older}
use Rattle.flight_director.proofs.tracks.any_silent.Given as goal

abbrev pub invariant-loop-t : goal.invariant-loop-t
invariant-loop-t l = list_any (λ (t : Track). is_silent l.silence (older l.ms t.seen)) (drop l.t-index l.tracks) ≡ list_any (λ (t : Track). is_silent l.silence (older l.ms t.seen)) l.tracks
