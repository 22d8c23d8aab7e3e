use Rattle.show_plan.proofs.Prelude.{common_steps, List, codes, append_assoc, ap, sym, subst, length, ◌∙◌, arith, length-map, Name, Traj, joined, AreUploadable, plan_text}
use Rattle.show_plan.proofs.Uploadable.{uploadable}
use Rattle.show_plan.proofs.text.plan_text.Goals as goal

pub returns : goal.returns
unfolding plan_text
returns c = grind (arith, common_steps, codes, append_assoc)

pub put_parts-requires-clause-uploadable : goal.put_parts-requires-clause-uploadable
put_parts-requires-clause-uploadable c =
    subst (AreUploadable c.args.f.now.settings) (sym c.as_slice-2.ensures) (uploadable c.args.f.now c.join_law.ensures.curve c.requires)

pub put_parts-requires-clause-count : goal.put_parts-requires-clause-count
put_parts-requires-clause-count c =
    ap (λ (ts : List Traj). length ts) (c.as_slice-2.ensures ∙ c.requires.sent) ∙ length-map c.args.f.now.trajs joined ∙ c.requires.trajs_counted
    ∙ sym (ap (λ (names : List Name). length names) c.as_slice.ensures)
