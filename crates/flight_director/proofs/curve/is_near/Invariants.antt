use Rattle.flight_director.proofs.Prelude.{◌≡◌, ◌-◌, ◌+◌, min, ◌/◌, list_any, range_with_len, played, is_within, instants_near}
use Rattle.flight_director.proofs.curve.is_near.Given as goal

abbrev pub invariant-loop-i : goal.invariant-loop-i
invariant-loop-i l =
    list_any (λ i. is_within l.f.stray (played l.t i) l.x) (range_with_len l.i (l.past - l.i))
    ≡ list_any (λ i. is_within l.f.stray (played l.t i) l.x) (instants_near l.f.late l.f.show_ms l.ms)
