use Rattle.traj_codec.proofs.Prelude.{◌≡◌, suc, ◌+◌, ◌-◌, ◌≤◌, List, length, ap, ◌∙◌, sym, subst, arith, err_from_is_err_and, Segment, SegmentsStand, segments_fault}
use Rattle.traj_codec.proofs.ReadingLemmas.{segments_more, segment_step, segments_fault-among}
use Rattle.traj_codec.proofs.reading.segments_at.Goals as goal

pub returns-in_err-segment : goal.returns-in_err-segment
returns-in_err-segment c =
    let p = err_from_is_err_and c.from_residual.result c.from_residual.ensures.1 in
    rw (p.1, p.2)
    (segments_fault-among c.args.bytes.now c.args.at c.loop.next c.loop.counter (c.args.pieces - (c.loop.counter + 1)) c.args.pieces _ (omega arith) c.loop.invariant.behind c.in_err-segment.ensures)

pub loop-preserved : goal.loop-preserved
loop-preserved c =
    let bytes = c.args.bytes.now in
    let inside : c.loop.next ≤ length bytes = c.loop.invariant.so_far.spans.within in
    record {
      so_far =
          subst (λ (ss : List Segment). SegmentsStand bytes c.args.at ss c.in_ok-segment.behind) (sym c.in_ok-push.ensures.items)
          (segments_more c.loop.invariant.so_far c.in_ok-segment.ensures);
      many = omega (arith, c.in_ok-push.ensures.len);
      behind = λ n.
          let e : c.loop.counter + 1 + n ≡ c.loop.counter + suc n = omega arith in
          ap (λ k. segments_fault bytes k c.args.at) e
          ∙ c.loop.invariant.behind (suc n)
          ∙ segment_step bytes c.loop.next c.in_ok-segment.behind n c.in_ok-segment.segment inside c.in_ok-segment.ensures;
    }
