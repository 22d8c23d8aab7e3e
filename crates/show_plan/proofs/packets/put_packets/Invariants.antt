use Rattle.show_plan.proofs.Prelude.{◌≡◌, ◌++◌}
use Rattle.show_plan.proofs.PacketLines.{first_lines}
use Rattle.show_plan.proofs.packets.put_packets.Given as goal

-- the lines of the packets so far
abbrev pub invariant-loop-k : goal.invariant-loop-k
invariant-loop-k l = l.text ≡ l.initial.text ++ first_lines l.session l.drone l.k
