use Rattle.choreo_lines.proofs.Prelude.{◌≡◌, length, map, act_among}
use Rattle.choreo_lines.proofs.table.act_among.Given as goal

abbrev pub invariant-loop-words : goal.invariant-loop-words
invariant-loop-words l = act_among (map (λ w. (w.0.now, w.1)) l.words) l.word ≡ act_among (map (λ w. (w.0.now, w.1)) l.initial.words) l.word

abbrev pub decreases-loop-words : goal.decreases-loop-words
decreases-loop-words l = length l.words
