use Rattle.choreo_lines.proofs.Prelude.{◌≡◌, drop, words_in, names_in}
use Rattle.choreo_lines.proofs.Collected.{with_front}
use Rattle.choreo_lines.proofs.entry.names_in.Given as goal

abbrev pub invariant-loop-token : goal.invariant-loop-token
invariant-loop-token l =
    names_in (words_in l.text l.words) ≡ with_front l.names.items (names_in (words_in l.text (drop l.token-index l.words)))
