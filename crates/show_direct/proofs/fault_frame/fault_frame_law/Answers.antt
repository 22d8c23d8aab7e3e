use Rattle.show_direct.proofs.FrameLemmas.{frame_law}
use Rattle.show_direct.proofs.fault_frame.fault_frame_law.Goals as goal

pub returns : goal.returns
returns c = frame_law c.show_law.ensures
