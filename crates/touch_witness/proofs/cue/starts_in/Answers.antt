use Rattle.touch_witness.proofs.Prelude.{◌≡◌, ℕ, arith, subst, AreStarts}
use Rattle.touch_witness.proofs.cue.starts_in.Goals as goal

pub returns : goal.returns
returns c =
    let same : c.loop-k.k ≡ c.args.cue = omega (arith, c.loop-k.invariant.inside, c.loop-k-test.false) in
    subst (λ (k : ℕ). AreStarts c.args.trajs.now k c.loop-k.here) same c.loop-k.invariant.starts
