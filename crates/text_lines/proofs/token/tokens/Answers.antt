use Rattle.text_lines.proofs.Prelude.{◌≡◌, ◌+◌, ◌-◌, ◌≤◌, length, ap, ◌∙◌, arith, length-drop}
use Rattle.text_lines.proofs.Cuts.{line_put}
use Rattle.text_lines.proofs.token.tokens.Goals as goal

pub lines-preserved : goal.lines-preserved
lines-preserved c =
    let (cut, place, within, less) = c.in-Some.ensures in
    let left : length c.in-Some.behind.now ≡ length c.lines.rest.now - (length c.in-Some.line.now + 1) = ap length place ∙ length-drop (length c.in-Some.line.now + 1) c.lines.rest.now in
    let all : c.lines.at + length c.lines.rest.now ≤ length c.args.text.now = c.lines.invariant.some (omega arith) in
    record {
      so_far = line_put c.args.comments c.lines.number c.lines.at c.in-Some.line.now c.visible.result.now c.lines.rest.now c.in-Some.behind.now c.lines.tokens.items _ _ cut c.visible.ensures.value c.in_ok-put_words.ensures c.lines.invariant.so_far;
      place = omega arith;
      some = λ h. omega arith;
      few = omega (arith, c.lines.invariant.few);
    }
