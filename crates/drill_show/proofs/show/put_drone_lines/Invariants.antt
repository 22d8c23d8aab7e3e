use Rattle.drill_show.proofs.Prelude.{◌≡◌, ◌++◌, ◌-◌, flat_map, range_with_len, string_bytes, drone_line}
use Rattle.drill_show.proofs.show.put_drone_lines.Given as goal

-- the lines so far
abbrev pub invariant-loop-i : goal.invariant-loop-i
invariant-loop-i l =
    string_bytes l.text ++ flat_map (drone_line) (range_with_len l.i (l.n - l.i))
    ≡ string_bytes l.initial.text ++ flat_map (drone_line) (range_with_len 0 l.n)
