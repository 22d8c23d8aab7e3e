use Rattle.drill_show.proofs.Prelude.{◌∙◌, string_bytes, arith, drone_line}
use Rattle.drill_show.proofs.DrillLemmas.{part_next}
use Rattle.drill_show.proofs.show.put_drone_lines.Goals as goal

pub loop-i-preserved : goal.loop-i-preserved
loop-i-preserved c =
    part_next drone_line (string_bytes c.loop-i.text) (string_bytes c.put_drone_line.new.text) c.loop-i.i c.args.n (omega arith) c.in_ok-put_drone_line.ensures
    ∙ c.loop-i.invariant
