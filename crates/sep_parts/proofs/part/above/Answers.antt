use Rattle.sep_parts.proofs.Prelude.{common_steps, tests, int_le, to_z, of_z, arith, to_z-of_z}
use Rattle.std.proofs.lemmas.Iterator.{YieldsList-from_slice}
use Rattle.std.proofs.lemmas.Iterator.Search.{all_from_yields_List}
use Rattle.sep_parts.proofs.Lows.{all_above}
use Rattle.sep_parts.proofs.part.above.Goals as goal

pub returns : goal.returns
returns c = grind (arith, common_steps, int_le, to_z, of_z, all_from_yields_List, YieldsList-from_slice, tests, to_z-of_z, all_above)
