use Rattle.sep_parts.proofs.Prelude.{ℕ, ◌-◌, ◌<◌, true, ◌%◌}
use Rattle.sep_parts.proofs.part.all_places.Given as goal

-- the places of the turns so far are answered with yes
abbrev pub invariant-loop-turn : goal.invariant-loop-turn
invariant-loop-turn g l = (turn : ℕ) → turn < l.turn → goal.F-post g l.passes ((8 - turn) % 8) true
