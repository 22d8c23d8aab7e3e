use Rattle.text_lines.proofs.Prelude.{◌≡◌, ◌+◌, ◌<◌, length, take, drop, ap, sym, arith, rules, take_rest, length-take, length-drop, drop_all}
use Rattle.text_lines.proofs.Cuts.{line_more, line_last}
use Rattle.text_lines.proofs.line.split_line.Goals as goal

pub returns-then-len-text : goal.returns-then-len-text
returns-then-len-text c =
    let some : 0 < length c.args.text.now = search rules in (
      line_last c.len_before-len.result c.args.text.now c.len_before-len.ensures.value (omega arith) some,
      sym (drop_all (length c.args.text.now + 1) c.args.text.now (omega arith)),
      omega arith,
      some,
    )

pub returns-else-len-text : goal.returns-else-len-text
returns-else-len-text c =
    let n = c.len_before-len.result in
    let text = c.args.text.now in
    let size : length (take n text) ≡ n = omega (arith, length-take n text, c.len_before-len.ensures.within) in
    rw take_rest (
      line_more n text c.len_before-len.ensures.value (omega arith),
      ap (λ k. drop (k + 1) text) (sym size),
      omega arith,
      omega (arith, length-drop (n + 1) text),
    )
