use Rattle.show_run.proofs.Prelude.{IsInput-now, inl, inr}
use Rattle.byte_streams.specs.Memory.{told_sure}
use Rattle.show_run.proofs.TopLemmas.{never_rose, never_seven, never_six}
use Rattle.show_run.proofs.top.run_surely.Goals as goal

pub returns-clause-read : goal.returns-clause-read
returns-clause-read c = λ six. never_six _ _ _ (λ none. (c.run.ensures.usage none).0) (λ d is. (c.run.ensures.behaves d is).behaves (told_sure c.run.new.source).given (IsInput-now (told_sure c.run.new.source))) never_rose six

pub returns-clause-write : goal.returns-clause-write
returns-clause-write c = λ seven. never_seven _ _ _ (λ none failed. (c.run.ensures.usage_failed none failed).0) (λ d is. (c.run.ensures.behaves d is).behaves (told_sure c.run.new.source).given (IsInput-now (told_sure c.run.new.source))) never_rose seven

pub returns-clause-usage : goal.returns-clause-usage
returns-clause-usage c = λ none. elim (c.run.ensures.usage none).0 [
  | inl two ↦ two
  | inr seven ↦ absurd (never_rose (c.run.ensures.usage_failed none seven).0)
]

pub returns-clause-behaves : goal.returns-clause-behaves
returns-clause-behaves c = c.run.ensures.behaves
