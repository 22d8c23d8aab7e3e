use Rattle.cue_grid.proofs.Prelude.{sym, subst, ◌∙◌, arith, take, ◌+◌, shown, place_names, HaveActs}
use Rattle.cue_grid.proofs.Marking.{acted_all, acted_more, line_here, line_later}
use Rattle.cue_grid.proofs.faults.fault_after.Goals.{then-i-acts+in_ok-put_acted, else-i-acts}
use Rattle.cue_grid.proofs.faults.fault_after.Goals as goal

pub returns-in-Some : goal.returns-in-Some
returns-in-Some c =
    sym (c.loop-i.invariant.0
    ∙ line_here _ (shown c.args.show.now).formations _ _ _ _ _ c.loop-i-test.true c.index-acts-i.is (c.act_line_fault.ensures _ (c.loop-i.invariant.1 c.loop-i-test.true)) c.in-Some.is)

pub loop-i-preserved : goal.loop-i-preserved
loop-i-preserved c =
    let fs = (shown c.args.show.now).formations in
    let so_far = c.loop-i.invariant.1 c.loop-i-test.true in (
      c.loop-i.invariant.0 ∙ line_later _ fs _ _ _ _ c.loop-i-test.true c.index-acts-i.is (c.act_line_fault.ensures _ so_far) c.in_default.is,
      λ below. elim c.if-i-acts.branch [
        | then-i-acts+in_ok-put_acted w ↦ subst (λ a. HaveActs (place_names c.args.show.now) a (acted_all fs (take (c.loop-i.i + 1) c.args.acts.now))) (sym w.acted-is) (subst (λ ns. HaveActs (place_names c.args.show.now) w.put_acted.new.acted ns) (acted_more fs _ _ _ c.loop-i-test.true c.index-acts-i.is) (w.in_ok-put_acted.ensures _ so_far))
        | else-i-acts w ↦ absurd (omega (arith, below, w.if-i-acts.false))
      ],
    )
