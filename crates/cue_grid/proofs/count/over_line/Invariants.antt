use Rattle.cue_grid.proofs.Prelude.{◌≡◌, ◌≤◌, drop, body_of, shown, most_cues, over_at}
use Rattle.cue_grid.proofs.count.over_line.Given as goal

abbrev pub invariant-loop-block : goal.invariant-loop-block
invariant-loop-block l =
    (l.total ≤ most_cues)
    × (over_at (shown l.show).figures 0 (body_of l.body) ≡ over_at (shown l.show).figures l.total (body_of (drop l.block-index l.body)))
