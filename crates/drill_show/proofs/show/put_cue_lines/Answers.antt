use Rattle.drill_show.proofs.Prelude.{◌≡◌, ◌++◌, List, ℕ, ◌∙◌, ap, sym, string_bytes, arith, codes, flat_map, range_with_len, move_line}
use Rattle.drill_show.proofs.DrillLemmas.{part_next, parts_over, cue_made, pushed}
use Rattle.drill_show.proofs.show.put_cue_lines.Goals as goal

pub loop-i-preserved : goal.loop-i-preserved
loop-i-preserved c =
    part_next (move_line c.args.cue) (string_bytes c.loop-i.text) (string_bytes c.put_move_line.new.text) c.loop-i.i c.args.n (omega arith) c.in_ok-put_move_line.ensures
    ∙ c.loop-i.invariant

pub returns : goal.returns
returns c =
    let moves : List ℕ = flat_map (move_line c.args.cue) (range_with_len 0 c.args.n) in
    let so_far : string_bytes c.loop-i.text ≡ (string_bytes c.args.text.now ++ codes "cue 3000\n") ++ moves =
    sym (parts_over (move_line c.args.cue) (string_bytes c.loop-i.text) c.loop-i.i c.args.n c.loop-i-test.false)
    ∙ c.loop-i.invariant ∙ ap (λ (t : List ℕ). t ++ moves) c.in_ok-push_str.ensures.bytes in
    pushed c.push_str-2.result (string_bytes c.push_str-2.new.self) (string_bytes c.loop-i.text ++ codes "end\n") (string_bytes c.loop-i.text) _ c.push_str-2.ensures.bytes
    (ap (λ (t : List ℕ). t ++ codes "end\n") so_far ∙ cue_made (string_bytes c.args.text.now) c.args.n c.args.cue)
