use Rattle.std.proofs.Common.{◌≡◌, length, map}
use Rattle.std.specs.Prelude.{string_bytes}
use Rattle.command_words.specs.Commands.{options_for}
use Rattle.command_words.specs.Steps.{AreInRange, continued}
use Rattle.command_words.proofs.options.options_for.Given as goal

abbrev pub invariant-loop-word : goal.invariant-loop-word
invariant-loop-word l =
    (continued l.names l.options (map string_bytes l.rest) ≡ options_for l.names (map string_bytes l.fn.words)) × AreInRange l.options

abbrev pub decreases-loop-word : goal.decreases-loop-word
decreases-loop-word l = length l.rest
