use Rattle.std.proofs.Common.{◌≡◌, drop}
use Rattle.command_words.specs.Commands.{takes}
use Rattle.command_words.proofs.options.takes.Given as goal

abbrev pub invariant-loop-taken : goal.invariant-loop-taken
invariant-loop-taken l = takes (drop l.taken-index l.names) l.name ≡ takes l.names l.name
