use Rattle.cue_grid.proofs.Prelude.{sym, ap, ◌∙◌, Vec, Global, Job}
use Rattle.cue_grid.proofs.Placing.{way_put, way_none}
use Rattle.cue_grid.proofs.cues.put_ways.Goals.{in-Some, in_default}
use Rattle.cue_grid.proofs.cues.put_ways.Goals as goal

pub loop-k-preserved : goal.loop-k-preserved
loop-k-preserved c =
    elim c.match-place_in.branch [
      | in-Some w ↦ ap (λ (v : Vec Job Global). v.items) w.jobs-is ∙ way_put c.args.smooth c.args.places.now c.args.job.line c.args.job.frame c.args.drones.now _ c.loop-k.jobs.items w.set_job.new.jobs.items c.loop-k.k c.index-drones-k.result _ w.way.result c.loop-k-test.true c.index-drones-k.is (sym c.place_in.ensures ∙ w.in-Some.is) w.way.ensures c.loop-k.invariant w.set_job.ensures
      | in_default w ↦ ap (λ (v : Vec Job Global). v.items) w.jobs-is ∙ way_none c.args.smooth c.args.places.now c.args.job.line c.args.job.frame c.args.drones.now _ c.loop-k.jobs.items c.loop-k.k c.index-drones-k.result c.loop-k-test.true c.index-drones-k.is (sym c.place_in.ensures ∙ w.in_default.is) c.loop-k.invariant
    ]
