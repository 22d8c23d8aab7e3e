use Rattle.text_lines.proofs.Prelude.{arith}
use Rattle.text_lines.proofs.ByLine.{lines_front}
use Rattle.text_lines.proofs.token.line_word_count.Goals as goal

pub returns-else-tokens-n-clause-line : goal.returns-else-tokens-n-clause-line
returns-else-tokens-n-clause-line c text =
    lines_front text c.loop-n.n c.args.tokens.now _ (record { line = 0; start = 0; «end» = 0 }) (omega arith) (omega arith) c.loop-n.invariant.2 (λ _. c.if-tokens-n.false)

pub returns-after-loop-n-clause-line : goal.returns-after-loop-n-clause-line
returns-after-loop-n-clause-line c text =
    lines_front text c.loop-n.n c.args.tokens.now _ (record { line = 0; start = 0; «end» = 0 }) (omega arith) (omega arith) c.loop-n.invariant.2 (λ h. absurd (omega arith))
