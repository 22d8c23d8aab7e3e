use Rattle.cue_grid.proofs.Prelude.{◌≡◌, [], drop, take, map, figure_of as plain_figure, figure_names, shown, first_of, figure_faults}
use Rattle.cue_grid.proofs.faults.figure_fault.Given as goal

abbrev pub invariant-loop-i : goal.invariant-loop-i
invariant-loop-i l = first_of (figure_faults (shown l.show) [] (map plain_figure l.figures)) ≡ first_of (figure_faults (shown l.show) (figure_names (take l.i l.figures)) (map plain_figure (drop l.i l.figures)))
