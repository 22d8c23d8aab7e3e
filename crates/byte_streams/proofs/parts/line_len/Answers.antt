use Rattle.byte_streams.proofs.Prelude.{◌∙◌}
use Rattle.byte_streams.proofs.ByteLemmas.{position_is}
use Rattle.byte_streams.proofs.parts.line_len.Goals as goal

pub returns-clause-value : goal.returns-clause-value
returns-clause-value c = c.len_before.ensures.value ∙ position_is c.args.bytes.now
