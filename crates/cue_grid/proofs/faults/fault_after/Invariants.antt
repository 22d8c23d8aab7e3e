use Rattle.cue_grid.proofs.Prelude.{◌≡◌, ◌<◌, [], drop, length, take, shown, place_names, HaveActs, first_of, act_faults}
use Rattle.cue_grid.proofs.Marking.{acted_all}
use Rattle.cue_grid.proofs.faults.fault_after.Given as goal

-- no fault so far, and after the last line it doesn't matter who has an act
abbrev pub invariant-loop-i : goal.invariant-loop-i
invariant-loop-i l =
    (first_of (act_faults l.known (shown l.show).formations [] l.acts)
    ≡ first_of (act_faults l.known (shown l.show).formations (acted_all (shown l.show).formations (take l.i l.acts)) (drop l.i l.acts)))
    × (l.i < length l.acts → HaveActs (place_names l.show) l.acted (acted_all (shown l.show).formations (take l.i l.acts)))
