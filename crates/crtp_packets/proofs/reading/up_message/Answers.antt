use Rattle.std.proofs.Common.{rules, sym, subst, IfOk, Result}
use Rattle.crtp_packets.specs.Reading.{SpellsUp}
use Rattle.crtp_packets.specs.declared.reading.PacketFault.{PacketFault}
use Rattle.crtp_packets.specs.declared.reading.Up.{Up}
use Rattle.crtp_packets.proofs.ReadingLaws.{spells-up}
use Rattle.crtp_packets.proofs.reading.up_message.Goals as goal

pub returns-clause-spells : goal.returns-clause-spells
returns-clause-spells c =
    subst (λ (r : Result Up PacketFault). IfOk r (SpellsUp c.args.bytes.now)) (sym c.up_in.ensures)
    (spells-up c.args.bytes.now c.requires.not_empty (λ i. search rules))
