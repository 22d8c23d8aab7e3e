use Rattle.flight_link.proofs.FrameLaws as laws
use Rattle.flight_link.proofs.law.frame_law.Goals as goal

pub returns : goal.returns
returns c = laws.frame_law
