use Rattle.choreo_lines.proofs.Prelude.{◌≡◌, length, words_in, values_in}
use Rattle.choreo_lines.proofs.Collected.{with_front, rest}
use Rattle.choreo_lines.proofs.entry.values_in.Given as goal

abbrev pub invariant-loop-k : goal.invariant-loop-k
invariant-loop-k l =
    (values_in l.form l.wants (words_in l.text l.words) ≡ with_front l.values.items (rest l.form l.text l.wants l.words l.k))
    × (length l.values.items ≡ l.k)
