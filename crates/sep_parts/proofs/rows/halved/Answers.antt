use Rattle.sep_parts.proofs.Prelude.{arith}
use Rattle.sep_parts.proofs.Halved.{half_small}
use Rattle.sep_parts.proofs.rows.halved.Goals as goal

pub halve_short-requires : goal.halve_short-requires
halve_short-requires c = rw c.widened.ensures c.requires

pub narrowed-requires : goal.narrowed-requires
narrowed-requires c = rw c.halve_short.ensures.left (half_small 0 c.widened.result.b (omega arith) (rw c.widened.ensures c.requires))

pub narrowed-requires-2 : goal.narrowed-requires-2
narrowed-requires-2 c = rw c.halve_short.ensures.right (half_small 1 c.widened.result.b (omega arith) (rw c.widened.ensures c.requires))
