use Rattle.std.proofs.Common.{rules, sym, subst, IfOk, Result}
use Rattle.crtp_packets.specs.Reading.{SpellsDown}
use Rattle.crtp_packets.specs.declared.reading.PacketFault.{PacketFault}
use Rattle.crtp_packets.specs.declared.reading.Down.{Down}
use Rattle.crtp_packets.proofs.ReadingLaws.{spells-down}
use Rattle.crtp_packets.proofs.reading.down_message.Goals as goal

pub returns-clause-spells : goal.returns-clause-spells
returns-clause-spells c =
    subst (λ (r : Result Down PacketFault). IfOk r (SpellsDown c.args.bytes.now)) (sym c.down_in.ensures)
    (spells-down c.args.bytes.now c.requires.not_empty (λ i. search rules))
