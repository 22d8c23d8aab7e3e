use Rattle.show_studies.proofs.FindingLemmas.{apart_no_touch}
use Rattle.show_studies.proofs.explaining.touch_of.Goals as goal

pub returns-in-None : goal.returns-in-None
returns-in-None c = apart_no_touch c.args.fitted.now c.args.fine c.requires.valid (c.requires.apart c.in-None.is)
