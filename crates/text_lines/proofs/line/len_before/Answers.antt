use Rattle.text_lines.proofs.Prelude.{◌∙◌, arith, ◌==◌}
use Rattle.text_lines.proofs.Cuts.{first_found, position_within}
use Rattle.text_lines.proofs.line.len_before.Goals as goal

pub returns-clause-value : goal.returns-clause-value
returns-clause-value c =
    c.unwrap_or.ensures ∙ first_found (λ b. b == c.args.end) c.args.bytes.now c.memchr.result c.memchr.ensures

pub returns-clause-within : goal.returns-clause-within
returns-clause-within c = omega (arith, returns-clause-value c, position_within (λ b. b == c.args.end) c.args.bytes.now)
