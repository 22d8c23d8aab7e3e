use Rattle.keepout_boxes.proofs.Prelude.{arith}
use Rattle.keepout_boxes.proofs.Flights.{cue_more, row_covers, rows_cover}
use Rattle.keepout_boxes.proofs.flight.box_of.Goals as goal

pub loop-cue-preserved : goal.loop-cue-preserved
loop-cue-preserved c = record {
  on_x = cue_more c.args.curves.now c.args.drone c.loop-cue.cue 0 c.one-part.result _ _ _ _ c.one-part.ensures.exact c.wider-x.ensures c.loop-cue.invariant.on_x;
  on_y = cue_more c.args.curves.now c.args.drone c.loop-cue.cue 1 c.one-part.result _ _ _ _ c.one-part.ensures.exact c.wider-y.ensures c.loop-cue.invariant.on_y;
  on_z = cue_more c.args.curves.now c.args.drone c.loop-cue.cue 2 c.one-part.result _ _ _ _ c.one-part.ensures.exact c.wider-z.ensures c.loop-cue.invariant.on_z;
}

pub returns : goal.returns
returns c =
    rows_cover c.args.curves.now c.args.drone c.args.curves.now.cues c.row.result c.row-2.result c.row-3.result
    (row_covers c.args.curves.now c.args.drone c.args.curves.now.cues c.loop-cue.cue 0 c.row.result _ _ (omega (arith, c.cues-cue-end.ensures.exact, c.loop-cue-test.false)) c.row.ensures.low c.row.ensures.high c.loop-cue.invariant.on_x)
    (row_covers c.args.curves.now c.args.drone c.args.curves.now.cues c.loop-cue.cue 1 c.row-2.result _ _ (omega (arith, c.cues-cue-end.ensures.exact, c.loop-cue-test.false)) c.row-2.ensures.low c.row-2.ensures.high c.loop-cue.invariant.on_y)
    (row_covers c.args.curves.now c.args.drone c.args.curves.now.cues c.loop-cue.cue 2 c.row-3.result _ _ (omega (arith, c.cues-cue-end.ensures.exact, c.loop-cue-test.false)) c.row-3.ensures.low c.row-3.ensures.high c.loop-cue.invariant.on_z)
