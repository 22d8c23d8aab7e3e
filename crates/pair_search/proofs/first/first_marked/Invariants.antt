use Rattle.pair_search.proofs.Prelude.{◌≡◌, ◌⊎◌, ℕ, ◌+◌, ◌<◌, false, bit_at, dir_of}
use Rattle.pair_search.proofs.first.first_marked.Given as goal

abbrev pub invariant-loop-rest : goal.invariant-loop-rest
invariant-loop-rest g l =
    (k : ℕ) → k + k < l.count → bit_at l.rest k ≡ 0 → (bit_at l.bits k ≡ 0) ⊎ goal.F-post g l.asks (dir_of l.count l.back k) false

abbrev pub decreases-loop-rest : goal.decreases-loop-rest
decreases-loop-rest g l = l.rest
