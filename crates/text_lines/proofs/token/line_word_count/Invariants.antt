use Rattle.text_lines.proofs.Prelude.{◌≡◌, ℕ, ◌-◌, ◌<◌, ◌≤◌, length, get_or}
use Rattle.text_lines.proofs.token.line_word_count.Given as goal

abbrev pub invariant-loop-n : goal.invariant-loop-n
invariant-loop-n l =
    (1 ≤ l.n) × (l.n ≤ length l.tokens) × ((k : ℕ) → k < l.n → (get_or l.tokens k (record { line = 0; start = 0; «end» = 0 })).line ≡ l.line)

abbrev pub decreases-loop-n : goal.decreases-loop-n
decreases-loop-n l = length l.tokens - l.n
