use Rattle.figure_expand.proofs.Prelude.{◌^◌, sym, subst, IsActUpTo}
use Rattle.figure_expand.proofs.Reach.{act_small}
use Rattle.figure_expand.proofs.Unmoved.{unmoved}
use Rattle.figure_expand.proofs.acts.act_of.Goals as goal

pub returns-then-is_unmoved-clause-value : goal.returns-then-is_unmoved-clause-value
returns-then-is_unmoved-clause-value c = sym (unmoved c.args.job.now (c.is_unmoved.ensures c.if-is_unmoved.true) c.requires)

pub returns-then-is_unmoved-clause-small : goal.returns-then-is_unmoved-clause-small
returns-then-is_unmoved-clause-small c =
    let still = unmoved c.args.job.now (c.is_unmoved.ensures c.if-is_unmoved.true) c.requires in
    subst (IsActUpTo (2 ^ 28)) still (act_small c.args.job.now c.requires)
