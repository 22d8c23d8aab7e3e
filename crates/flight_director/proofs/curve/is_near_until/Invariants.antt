use Rattle.flight_director.proofs.Prelude.{◌≡◌, ◌-◌, list_any, range_with_len, played, is_within, instants_until}
use Rattle.flight_director.proofs.curve.is_near_until.Given as goal

abbrev pub invariant-loop-i : goal.invariant-loop-i
invariant-loop-i l =
    list_any (λ i. is_within l.c.stray (played l.t i) l.x) (range_with_len l.i (l.past - l.i))
    ≡ list_any (λ i. is_within l.c.stray (played l.t i) l.x) (instants_until l.c.late l.c.ms l.ms)
