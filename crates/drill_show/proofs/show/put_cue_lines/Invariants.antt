use Rattle.drill_show.proofs.Prelude.{◌≡◌, ◌++◌, ◌-◌, flat_map, range_with_len, string_bytes, move_line}
use Rattle.drill_show.proofs.show.put_cue_lines.Given as goal

-- the lines so far
abbrev pub invariant-loop-i : goal.invariant-loop-i
invariant-loop-i l =
    string_bytes l.text ++ flat_map (move_line l.cue) (range_with_len l.i (l.n - l.i))
    ≡ string_bytes l.initial.text ++ flat_map (move_line l.cue) (range_with_len 0 l.n)
