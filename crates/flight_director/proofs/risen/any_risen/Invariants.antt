use Rattle.flight_director.proofs.Prelude.{◌≡◌, ◌-◌, list_any, range_with_len, any_risen, drones, has_risen}
use Rattle.flight_director.proofs.risen.any_risen.Given as goal

abbrev pub invariant-loop-d : goal.invariant-loop-d
invariant-loop-d l = list_any (λ d. has_risen l.f l.n d) (range_with_len l.d (drones l.f - l.d)) ≡ any_risen l.f l.n
