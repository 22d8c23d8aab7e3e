use Rattle.show_plan.proofs.Prelude.{common_steps, arith, append-nil, sym, packet_count, read_count, write_count}
use Rattle.show_plan.proofs.PacketLines.{first_lines, one_line_more}
use Rattle.show_plan.proofs.packets.put_packets.Goals as goal

pub loop-k-init : goal.loop-k-init
loop-k-init c = sym (append-nil c.args.text.now)

pub loop-k-preserved : goal.loop-k-preserved
loop-k-preserved c = grind (arith, common_steps, one_line_more)

pub returns : goal.returns
unfolding packet_count read_count write_count
returns c = grind (arith, common_steps, first_lines)
