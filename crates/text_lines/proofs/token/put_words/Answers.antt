use Rattle.text_lines.proofs.Prelude.{◌≡◌, ◌+◌, refl, sym, ◌∙◌, arith, length}
use Rattle.text_lines.proofs.Blanks.{put_one, put_last, from_start}
use Rattle.text_lines.proofs.token.put_words.Goals as goal

pub returns : goal.returns
returns c =
    let all : c.ones.base ≡ length c.args.bytes.now = omega (arith, c.ones.invariant.within, c.ones-test.false) in
    put_last c.args.line c.args.at c.args.bytes.now c.ones.start _ _ _ (omega (arith, c.ones.invariant.order)) (λ k low high. c.ones.invariant.passed k low (omega arith)) c.in_ok-put_word-2.ensures
    (c.ones.invariant.so_far ∙ c.sixteens.invariant.so_far ∙ from_start c.args.line c.args.at c.args.bytes.now c.args.tokens.now.items)

pub ones-preserved-then-is_blank : goal.ones-preserved-then-is_blank
ones-preserved-then-is_blank c = record {
  so_far = put_one c.args.line c.args.at c.args.bytes.now c.ones.start c.ones.base (c.ones.base + 1) _ _ _ c.ones.invariant.order (omega arith) refl c.ones.invariant.passed
      (sym c.if-is_blank.ensures) c.in_ok-put_word.ensures c.ones.invariant.so_far;
  order = omega arith;
  within = omega arith;
  passed = λ k low high. absurd (omega arith);
}
