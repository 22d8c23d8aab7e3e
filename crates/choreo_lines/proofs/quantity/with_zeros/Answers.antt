use Rattle.choreo_lines.proofs.Prelude.{◌≡◌, ◌*◌, ◌^◌, subst, arith, capped}
use Rattle.choreo_lines.proofs.Digits.{zero_more}
use Rattle.choreo_lines.proofs.quantity.with_zeros.Goals as goal

pub loop-init : goal.loop-init
loop-init c = record { small = c.requires.small; each = λ kept is. omega (arith, is) }

pub loop-preserved : goal.loop-preserved
loop-preserved c = record {
  small = omega (arith, c.min-n.ensures);
  each = λ kept is. rw c.min-n.ensures (zero_more kept _ c.loop.n 1000000000000 (c.loop.invariant.each kept is));
}

pub returns : goal.returns
returns c kept is = subst (λ t. c.loop.n ≡ capped (kept * 10 ^ t)) (omega arith) (c.loop.invariant.each kept is)
