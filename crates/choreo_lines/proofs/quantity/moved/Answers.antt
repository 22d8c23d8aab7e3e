use Rattle.choreo_lines.proofs.Prelude.{◌+◌, ◌++◌, ◌<◌, ap, sym, ◌∙◌, Some, length, length-append, arith, option_map, capped}
use Rattle.choreo_lines.proofs.Moves.{moved_start, moved_on, moved_past, moved_whole, moved_not}
use Rattle.choreo_lines.proofs.quantity.moved.Goals.{then-places-gt0, else-places-gt0+else-digit-ne48}
use Rattle.choreo_lines.proofs.quantity.moved.Goals as goal

pub loop-place-init : goal.loop-place-init
loop-place-init c = rw c.saturating_sub-places.ensures (moved_start (c.args.whole.now ++ c.args.fraction.now) (length c.args.whole.now + c.args.shift.right) c.args.shift.left)

pub overflow_mul-number : goal.overflow_mul-number
overflow_mul-number c = omega (arith, c.loop-place.invariant.number_is)

pub overflow_add-number : goal.overflow_add-number
overflow_add-number c = omega (arith, c.loop-place.invariant.number_is)

pub loop-place-preserved : goal.loop-place-preserved
loop-place-preserved c =
    let ds = c.args.whole.now ++ c.args.fraction.now in
    let ahead = length c.args.whole.now + c.args.shift.right in
    let l = c.loop-place in
    let lt : l.place < length ds = omega (arith, c.loop-place-test.true, length-append c.args.whole.now c.args.fraction.now) in
    elim c.if-places-gt0.branch [
      | then-places-gt0 w ↦
          moved_on ds ahead c.args.shift.left l.place l.number l.places _ _ l.invariant lt (omega arith) (omega (arith, w.number-is, w.min-number.ensures, c.digit_at-digit.ensures.value)) (omega (arith, w.places-is))
      | else-places-gt0+else-digit-ne48 w ↦
          moved_past ds ahead c.args.shift.left l.place l.number l.places _ _ l.invariant lt (omega arith) (omega (arith, w.if-digit-ne48.false, c.digit_at-digit.ensures.value)) w.number-is w.places-is
    ]

pub returns-then-digit-ne48 : goal.returns-then-digit-ne48
returns-then-digit-ne48 c =
    ap (option_map capped)
    (sym (moved_not c.args.shift c.args.whole.now c.args.fraction.now c.loop-place.place c.loop-place.number c.loop-place.places c.requires.whole c.requires.fraction c.loop-place.invariant c.loop-place-test.true (omega arith) (λ e. c.if-digit-ne48.true (c.digit_at-digit.ensures.value ∙ e))))

pub with_zeros-requires : goal.with_zeros-requires
with_zeros-requires c = omega (arith, c.loop-place.invariant.number_is)

pub returns : goal.returns
returns c =
    ap (λ t. Some t) (c.with_zeros.ensures c.loop-place.invariant.kept c.loop-place.invariant.number_is)
    ∙ ap (option_map capped) (sym (moved_whole c.args.shift c.args.whole.now c.args.fraction.now c.loop-place.place c.loop-place.number c.loop-place.places (omega arith) c.loop-place.invariant))
