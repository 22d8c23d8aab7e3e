use Rattle.pair_search.proofs.Prelude.{◌≡◌, ◌⊎◌, ℕ, ◌<◌, false, length, does_separate, bit_at, dir_of}
use Rattle.pair_search.proofs.some.some_marked.Given as goal

abbrev pub invariant-loop-rest : goal.invariant-loop-rest
invariant-loop-rest g l =
    (i : ℕ) → i < length l.ruler.directions → i < 64 → bit_at l.bits i ≡ 1
    → (bit_at l.rest i ≡ 1) ⊎ (does_separate l.ruler l.diff l.level.place (dir_of (length l.ruler.directions) l.back i) ≡ false)

abbrev pub decreases-loop-rest : goal.decreases-loop-rest
decreases-loop-rest g l = l.rest
