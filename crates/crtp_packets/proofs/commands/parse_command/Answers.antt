use Rattle.std.proofs.Common.{rules, sym, subst, ◌∙◌, IfOk, Result}
use Rattle.crtp_packets.specs.Commands.{SpellsCommand}
use Rattle.crtp_packets.specs.declared.commands.CommandFault.{CommandFault}
use Rattle.crtp_packets.specs.declared.commands.Command.{Command}
use Rattle.crtp_packets.proofs.CommandLaws.{spells, spelled}
use Rattle.crtp_packets.proofs.commands.parse_command.Goals as goal

pub returns-clause-spells : goal.returns-clause-spells
returns-clause-spells c =
    subst (λ (r : Result Command CommandFault). IfOk r (SpellsCommand c.args.payload.now)) (sym c.command_in.ensures)
    (spells c.args.payload.now (λ i. search rules))

pub returns-clause-spelled : goal.returns-clause-spelled
returns-clause-spelled c = λ command s. c.command_in.ensures ∙ spelled c.args.payload.now command s
