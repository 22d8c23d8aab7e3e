use Rattle.sep_parts.proofs.Prelude.{List, length, ap, arith, Node}
use Rattle.sep_parts.proofs.Cuts.{length-cut}
use Rattle.sep_parts.proofs.forest.Forest.len.Goals as goal

pub returns : goal.returns
returns c = omega (arith, length-cut 0 c.self.inside.nodes.items c.self.inside.ends.items, ap (λ (trees : List (List Node)). length trees) c.self.view_is)
