use Rattle.text_lines.proofs.Prelude.{◌+◌, refl, sym, arith}
use Rattle.text_lines.proofs.Blanks.{blank_low, put_one, none_before, none_marked, marks_after}
use Rattle.text_lines.proofs.token.put_marked.Goals as goal

pub marks-init : goal.marks-init
marks-init c =
    let low = c.low_bytes-marks.ensures in
    record {
      so_far = refl;
      order = omega (arith, c.requires.order);
      passed = c.requires.passed;
      marks = record {
        each = λ k lt after blank. (low k).1 (lt, blank_low _ blank);
        within = λ k set. (((low k).0 set).0, omega (arith, c.requires.order));
      };
    }

pub marks-preserved-then-is_blank : goal.marks-preserved-then-is_blank
marks-preserved-then-is_blank c =
    let m = c.marks.invariant.marks in
    let t = c.lowest-mark.result in
    let there = m.within t c.lowest-mark.ensures.set in
    let none = none_before c.args.bytes.now c.args.base c.marks.start c.marks.marks t (omega (arith, there.0)) m c.marks.invariant.passed c.lowest-mark.ensures.below in
    record {
      so_far = put_one c.args.line c.args.at c.args.bytes.now c.marks.start (c.args.base + t) (c.args.base + t + 1) _ _ _ there.1 (omega (arith, there.0, c.requires.within)) refl none
          (sym c.if-is_blank.ensures) c.in_ok-put_word.ensures c.marks.invariant.so_far;
      order = omega (arith, there.0);
      passed = λ k low high. absurd (omega arith);
      marks = marks_after c.args.bytes.now c.args.base c.marks.start c.marks.marks t (c.args.base + t + 1) c.without-marks.result refl there.1 m c.lowest-mark.ensures.below c.without-marks.ensures.cleared c.without-marks.ensures.kept c.without-marks.ensures.no_more;
    }

pub returns : goal.returns
returns c = (
  c.marks.invariant.so_far,
  c.marks.invariant.order,
  none_marked c.args.bytes.now c.args.base c.marks.start c.marks.marks (omega (arith, c.marks-test.false)) c.marks.invariant.marks c.marks.invariant.passed,
)
