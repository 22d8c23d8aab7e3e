use Rattle.sep_parts.proofs.Prelude.{◌∙◌, ap, spelled_tree}
use Rattle.sep_parts.proofs.Trees.{tree_back, tree_told}
use Rattle.sep_parts.proofs.node.tree_law.Goals as goal

pub returns : goal.returns
returns c nodes tree = (tree_told nodes tree, λ is. ap spelled_tree is ∙ tree_back tree)
