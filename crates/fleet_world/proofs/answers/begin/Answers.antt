use Rattle.fleet_world.proofs.Prelude.{◌≡◌, ◌∙◌, ◌-◌, suc, sym, ap, arith, begin_of}
use Rattle.fleet_world.proofs.CutLemmas.{begin-later}
use Rattle.fleet_world.proofs.answers.begin.Goals as goal

pub returns-else-n-eq0 : goal.returns-else-n-eq0
returns-else-n-eq0 c =
    let some = c.if-n-eq0.false in
    sym (begin-later 0 c.args.ends.now (c.args.n - 1) (omega arith))
    ∙ ap (begin_of 0 c.args.ends.now) (let e : suc (c.args.n - 1) ≡ c.args.n = omega arith in e)
