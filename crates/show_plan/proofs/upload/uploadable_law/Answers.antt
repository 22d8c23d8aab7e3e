use Rattle.show_plan.proofs.Uploadable.{uploadable}
use Rattle.show_plan.proofs.upload.uploadable_law.Goals as goal

pub returns : goal.returns
returns c = uploadable c.args.f.now c.join_law.ensures.curve c.requires
