use Rattle.choreo_lines.proofs.Prelude.{◌≡◌, ap, ◌∙◌, arith, option_map, after_digits, capped, front_digits, measure_of, moved, size_at}
use Rattle.choreo_lines.proofs.Digits.{fraction_passes, front_passes}
use Rattle.choreo_lines.proofs.Sizes.{size_is}
use Rattle.choreo_lines.proofs.quantity.size.Goals as goal

pub moved-requires-clause-whole : goal.moved-requires-clause-whole
moved-requires-clause-whole c = rw (c.split_at.ensures.front, c.digit_count-count.ensures.value) (front_passes c.args.bytes.now)

pub moved-requires-clause-fraction : goal.moved-requires-clause-fraction
moved-requires-clause-fraction c = rw c.split_fraction.ensures.fraction (fraction_passes c.split_at.result.1.now)

pub returns : goal.returns
returns c =
    let whole = c.split_at.result.0.now in
    let rest = c.split_at.result.1.now in
    let front : whole ≡ front_digits c.args.bytes.now = rw c.digit_count-count.ensures.value at c.split_at.ensures.front in
    let after : rest ≡ after_digits c.args.bytes.now = rw c.digit_count-count.ensures.value at c.split_at.ensures.back in
    c.moved.ensures
    ∙ ap (option_map capped)
    (ap (λ f. moved c.in_ok-shift_of.field-0 whole f) c.split_fraction.ensures.fraction
    ∙ size_is c.args.counts whole rest c.in_ok-shift_of.field-0 (c.in_ok-shift_of.ensures ∙ ap (measure_of c.args.counts) c.split_fraction.ensures.unit) (omega arith) (rw front (front_passes c.args.bytes.now))
    ∙ ap (λ w. size_at c.args.counts w rest) front
    ∙ ap (size_at c.args.counts (front_digits c.args.bytes.now)) after)
