-- The walk over the words, which no public contract cites.
use Rattle.std.specs.Prelude.{◌≡◌, ℕ, ◌≤◌, List, length, Option, Some, None, IfSome}
use Rattle.std.specs.Option.{option_and_then}
use Rattle.command_words.specs.declared.options.OptionName.{OptionName}
use Rattle.command_words.specs.declared.options.Options.{Options}
use Rattle.command_words.specs.declared.options.Range.{Range}
use Rattle.command_words.specs.Commands.{options_of, collected, given_in, range_of}

-- the options that words add to these
abbrev pub continued : List OptionName → Options → List (List ℕ) → Option Options
continued names o words = option_and_then (collected names o) (options_of words)

-- a number is one that may follow an option
abbrev pub IsInRange : Option Range → ℕ → Type 0
IsInRange None n = n ≡ 1
IsInRange (Some r) n = (r.least ≤ n) × (n ≤ r.most)

-- there is a place for each option, and the numbers are those that may follow it
pub record AreInRange (o : Options) : Type 0 where
  pub places : length o.values ≡ 15
  pub each : (name : OptionName) → IfSome (given_in o name) (IsInRange (range_of name))
