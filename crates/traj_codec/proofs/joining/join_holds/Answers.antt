use Rattle.traj_codec.proofs.Prelude.{◌≡◌, ap, subst, List, arith, ◌∙◌, sym, Segment, Traj, SameCurve, joined}
use Rattle.traj_codec.proofs.JoinedLemmas.{join_same, lasting_of}
use Rattle.traj_codec.proofs.StepLemmas.{joined_step, joined_end}
use Rattle.traj_codec.proofs.joining.join_holds.Goals as goal

pub loop-s-preserved : goal.loop-s-preserved
loop-s-preserved c =
    joined_step c.loop-s.segments.items c.put_next.new.segments.items _ c.as_slice-s-items.result.now c.args.t.now.segments c.loop-s.held c.in_ok-held.held c.loop-s.s-index _
    c.as_slice-s-items.ensures c.loop-s-test.true c.in_ok-held.ensures.put c.in_ok-held.ensures.held c.loop-s.invariant

pub returns : goal.returns
returns c = with_curve (ap (λ (segments : List Segment). record { start = c.args.t.now.start; segments = segments })
    (c.from_vec.ensures
    ∙ joined_end c.loop-s.segments.items c.put_held.new.segments.items _ c.as_slice-s-items.result.now c.args.t.now.segments c.loop-s.held c.loop-s.s-index
    c.as_slice-s-items.ensures (omega (arith, c.loop-s-test.false)) c.in_ok-put_held.ensures c.loop-s.invariant))
  where
    with_curve : {u : Traj} → u ≡ joined c.args.t.now → record { exact : u ≡ joined c.args.t.now; same : SameCurve c.args.t.now u }
    with_curve {u} is = record { exact = is; same = subst (λ (u : Traj). SameCurve c.args.t.now u) (sym is) (join_same c.args.t.now (lasting_of c.args.t.now c.requires.last)) }
