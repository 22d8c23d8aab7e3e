use Rattle.show_plan.proofs.Prelude.{◌≡◌, ℕ, ◌+◌, ◌^◌, ◌<◌, List, ◌∷◌, drop, arith, sym, ap, ◌∙◌, subst, All, All-cons, All-head, All-tail, All-push, Point, IsPointUpTo, MicroPiece, rounding, IsSegment, act_of, end_of, reach, piece_of, job_in, pieces_from, RoundsWell}
use Rattle.figure_expand.proofs.Reach.{next_fits, point_in_reach}
use Rattle.show_plan.proofs.Sendable.{pieces_next, rounds, rounds_not, segments_next}
use Rattle.show_plan.proofs.fitting.segments_of.Goals as goal

pub step-piece-requires-clause-point : goal.step-piece-requires-clause-point
step-piece-requires-clause-point c = point_in_reach c.loop-cue.cue-index c.loop-cue.point (omega arith) c.loop-cue.invariant.reached

pub step-piece-requires-clause-drone : goal.step-piece-requires-clause-drone
step-piece-requires-clause-drone c =
    let next = next_fits c.args.drones c.args.cues.now c.loop-cue.cue-index c.cue-item.result c.loop-cue-test.true c.cue-item.is c.requires.cues in
    subst (λ (n : ℕ). c.args.d < n) (sym next.count) c.requires.drone

pub step-piece-requires-clause-jobs : goal.step-piece-requires-clause-jobs
step-piece-requires-clause-jobs c =
    let next = next_fits c.args.drones c.args.cues.now c.loop-cue.cue-index c.cue-item.result c.loop-cue-test.true c.cue-item.is c.requires.cues in
    next.jobs

pub returns-in_default : goal.returns-in_default
returns-in_default c all =
    let p = c.loop-cue.point in
    let d = c.args.d in
    let left = pieces_next p d c.args.cues.now c.loop-cue.cue-index c.cue-item.result c.loop-cue-test.true c.cue-item.is in
    rounds_not (piece_of p c.cue-item.result.ms (job_in c.cue-item.result d))
    (sym c.in_default.is ∙ c.round_piece.ensures ∙ ap rounding c.step-piece.ensures.piece)
    (All-head RoundsWell _ _ (subst (All RoundsWell) left (c.loop-cue.invariant.unwell all)))

pub loop-cue-preserved : goal.loop-cue-preserved
loop-cue-preserved c =
    let p = c.loop-cue.point in
    let d = c.args.d in
    let k = c.loop-cue.cue-index in
    let cue = c.cue-item.result in
    let piece : MicroPiece = piece_of p cue.ms (job_in cue d) in
    let after : List MicroPiece = pieces_from (end_of p (act_of (job_in cue d))) d (drop (k + 1) c.args.cues.now) in
    let left : pieces_from p d (drop k c.args.cues.now) ≡ piece ∷ after = pieces_next p d c.args.cues.now k cue c.loop-cue-test.true c.cue-item.is in
    let rounded = rounds piece c.in-Some.segment (c.in-Some.ensures ∙ ap rounding c.step-piece.ensures.piece) in
    let moved : pieces_from c.step-piece.new.point d (drop (k + 1) c.args.cues.now) ≡ after =
    ap (λ (q : Point). pieces_from q d (drop (k + 1) c.args.cues.now)) c.step-piece.ensures.end in
    let farther : reach k + 2 ^ 30 ≡ reach (k + 1) = omega arith in
    record {
      reached = subst (λ (n : ℕ). IsPointUpTo n c.step-piece.new.point) farther (c.step-piece.ensures.reach (reach k) c.loop-cue.invariant.reached);
      so_far = segments_next c.loop-cue.segments.items c.push.new.self.items _ _ piece c.in-Some.segment (left ∙ ap (λ (rest : List MicroPiece). piece ∷ rest) (sym moved)) rounded.0 c.in_ok-push.ensures.items ∙ c.loop-cue.invariant.so_far;
      formed = subst (All IsSegment) (sym c.in_ok-push.ensures.items) (All-push IsSegment c.loop-cue.segments.items c.in-Some.segment c.loop-cue.invariant.formed c.segment_law.ensures);
      well = λ all. c.loop-cue.invariant.well (subst (All RoundsWell) (sym left) (All-cons RoundsWell piece after rounded.1 (subst (All RoundsWell) moved all)));
      unwell = λ all. subst (All RoundsWell) (sym moved) (All-tail RoundsWell piece after (subst (All RoundsWell) left (c.loop-cue.invariant.unwell all)));
    }
