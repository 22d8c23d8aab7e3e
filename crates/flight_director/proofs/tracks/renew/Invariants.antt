use Rattle.flight_director.proofs.Prelude.{◌≡◌, ◌≤◌, ◌++◌, ℕ, take, drop, get_or, None, false, map, renewed}
use Rattle.flight_director.proofs.tracks.renew.Given as goal

abbrev pub invariant-loop-d : goal.invariant-loop-d
invariant-loop-d l = record {
  anew : l.tracks ≡ map renewed (take l.d l.fn.tracks) ++ drop l.d l.fn.tracks;
  rest : (j : ℕ) → l.d ≤ j → get_or l.tracks j (record { seen = None; off = None; unsure = None; outside = false }) ≡ get_or l.fn.tracks j (record { seen = None; off = None; unsure = None; outside = false });
}
