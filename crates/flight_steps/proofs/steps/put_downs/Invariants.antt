use Rattle.flight_steps.proofs.Prelude.{◌≡◌, ◌++◌, map, range_with_len, down_step, routes}
use Rattle.flight_steps.proofs.steps.put_downs.Given as goal

abbrev pub invariant-loop-k : goal.invariant-loop-k
invariant-loop-k l = l.steps.items ≡ l.fn.steps.items ++ map (down_step (routes l.w) l.w.show_ms l.all) (range_with_len 0 l.k)
