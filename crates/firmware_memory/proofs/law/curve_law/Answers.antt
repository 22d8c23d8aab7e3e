use Rattle.firmware_memory.proofs.CurveLemmas.{loaded_curve, one_curve}
use Rattle.firmware_memory.proofs.law.curve_law.Goals as goal

pub returns : goal.returns
returns c = record { one = one_curve c.spelling_law.ensures; loaded = loaded_curve }
