use Rattle.show_plan.proofs.Landing.{landing}
use Rattle.show_plan.proofs.upload.landing_law.Goals as goal

pub returns : goal.returns
returns c = landing c.curve_law.ensures c.upload_law.ensures.safe c.upload_law.ensures.lasts
