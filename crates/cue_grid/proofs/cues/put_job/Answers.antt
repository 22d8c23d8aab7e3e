use Rattle.cue_grid.proofs.Prelude.{sym, ◌∙◌}
use Rattle.cue_grid.proofs.Placing.{put_nobody, put_somebody}
use Rattle.cue_grid.proofs.cues.put_job.Goals as goal

pub returns-in-None : goal.returns-in-None
returns-in-None c = sym (put_nobody c.args.drones.now c.args.jobs.now.items c.args.name.now c.args.job c.in-None.ensures)

pub returns-in-Some : goal.returns-in-Some
returns-in-Some c =
    c.set_job.ensures
    ∙ sym (put_somebody c.args.drones.now c.args.jobs.now.items c.args.name.now c.in-Some.k c.args.job c.requires c.in-Some.ensures)
