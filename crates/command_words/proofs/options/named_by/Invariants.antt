use Rattle.std.proofs.Common.{◌≡◌, drop}
use Rattle.std.specs.Prelude.{find, bytes_eq}
use Rattle.command_words.specs.Commands.{named_by, word_of}
use Rattle.command_words.proofs.options.named_by.Given as goal

abbrev pub invariant-loop-name : goal.invariant-loop-name
invariant-loop-name l = find (λ n. bytes_eq l.word (word_of n)) (drop l.name-index l.name-items) ≡ named_by l.word
