use Rattle.sep_parts.proofs.Prelude.{◌≡◌, ◌∙◌, ◌-◌, suc, sym, ap, arith, begin_of}
use Rattle.sep_parts.proofs.Cuts.{begin-later}
use Rattle.sep_parts.proofs.forest.begin.Goals as goal

pub returns-else-k-eq0 : goal.returns-else-k-eq0
returns-else-k-eq0 c =
    let some = c.if-k-eq0.false in
    sym (begin-later 0 c.args.ends.now (c.args.k - 1) (omega arith)) ∙ ap (begin_of 0 c.args.ends.now) (let e : suc (c.args.k - 1) ≡ c.args.k = omega arith in e)
