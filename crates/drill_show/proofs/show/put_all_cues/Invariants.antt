use Rattle.drill_show.proofs.Prelude.{◌≡◌, ◌++◌, ◌-◌, flat_map, range_with_len, string_bytes, cue_lines}
use Rattle.drill_show.proofs.show.put_all_cues.Given as goal

-- the lines so far
abbrev pub invariant-loop-cue : goal.invariant-loop-cue
invariant-loop-cue l =
    string_bytes l.text ++ flat_map (cue_lines l.n) (range_with_len l.cue (4 - l.cue))
    ≡ string_bytes l.initial.text ++ flat_map (cue_lines l.n) (range_with_len 0 4)
