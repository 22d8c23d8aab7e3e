use Rattle.flight_steps.proofs.Prelude.{◌≡◌, ◌++◌, ◌∷◌, [], flat_map, range_with_len, arm_step, up_step, routes}
use Rattle.flight_steps.proofs.steps.put_ups.Given as goal

abbrev pub invariant-loop-k : goal.invariant-loop-k
invariant-loop-k l = l.steps.items ≡ l.fn.steps.items ++ flat_map (λ k. arm_step (routes l.w) l.all k ∷ up_step (routes l.w) l.all k ∷ []) (range_with_len 0 l.k)
