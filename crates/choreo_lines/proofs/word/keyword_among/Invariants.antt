use Rattle.choreo_lines.proofs.Prelude.{◌≡◌, length, map, keyword_among}
use Rattle.choreo_lines.proofs.word.keyword_among.Given as goal

abbrev pub invariant-loop-words : goal.invariant-loop-words
invariant-loop-words l = keyword_among (map (λ w. (w.0.now, w.1)) l.words) l.word ≡ keyword_among (map (λ w. (w.0.now, w.1)) l.initial.words) l.word

abbrev pub decreases-loop-words : goal.decreases-loop-words
decreases-loop-words l = length l.words
