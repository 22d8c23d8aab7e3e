-- Nodes spell a tree exactly where they are its preorder.
use Rattle.sep_parts.proofs.Prelude.{common_steps, ◌≡◌, ℕ, refl, sym, ◌∙◌, ap, List, [], ◌∷◌, ◌++◌, append_assoc, append-nil, Option, Some, None, arith, flat_map, Node, Tree, only_tree, preorder, spelled_tree, spelled_trees, split_before}
use Rattle.std.specs.Option.{option_flatten, option_map}
use Rattle.sep_parts.specs.declared.node.Node.TheVariants.{Split, Leaf}
use Rattle.sep_parts.specs.Trees.Tree.{leaf, split}

both_before : (left right : Tree) (o : Option (List Tree)) →
    option_flatten (option_map split_before (option_map (λ trees. left ∷ trees) (option_map (λ trees. right ∷ trees) o))) ≡ option_map (λ trees. split left right ∷ trees) o
both_before left right None = refl
both_before left right (Some trees) = refl

-- the preorder of a tree spells one tree more
tree_before : (tree : Tree) (nodes : List Node) → spelled_trees (preorder tree ++ nodes) ≡ option_map (λ trees. tree ∷ trees) (spelled_trees nodes)
tree_before (leaf dir) nodes = refl
tree_before (split left right) nodes =
    ap (λ (o : Option (List Tree)). option_flatten (option_map split_before o))
    (ap spelled_trees (append_assoc (preorder left) (preorder right) nodes) ∙ tree_before left (preorder right ++ nodes)
    ∙ ap (λ (o : Option (List Tree)). option_map (λ trees. left ∷ trees) o) (tree_before right nodes))
    ∙ both_before left right (spelled_trees nodes)

pub tree_back : (tree : Tree) → spelled_tree (preorder tree) ≡ Some tree
tree_back tree =
    ap (λ (o : Option (List Tree)). option_flatten (option_map only_tree o)) (ap spelled_trees (sym (append-nil (preorder tree))) ∙ tree_before tree [])

-- nodes that spell trees are their preorders, one after another
leaf_told : (dir : ℕ) (nodes : List Node) (o : Option (List Tree)) (trees : List Tree) → ((found : List Tree) → o ≡ Some found → nodes ≡ flat_map preorder found) →
    option_map (λ ts. leaf dir ∷ ts) o ≡ Some trees → Leaf dir ∷ nodes ≡ flat_map preorder trees
leaf_told dir nodes None trees told e = cc
leaf_told dir nodes (Some found) trees told e = let is : leaf dir ∷ found ≡ trees = cc in rw (sym is) (ap (λ (ns : List Node). Leaf dir ∷ ns) (told found refl))

split_told : (nodes : List Node) (o : Option (List Tree)) (trees : List Tree) → ((found : List Tree) → o ≡ Some found → nodes ≡ flat_map preorder found) →
    option_flatten (option_map split_before o) ≡ Some trees → Split ∷ nodes ≡ flat_map preorder trees
split_told nodes None trees told e = cc
split_told nodes (Some []) trees told e = cc
split_told nodes (Some (left ∷ [])) trees told e = cc
split_told nodes (Some (left ∷ right ∷ found)) trees told e =
    let is : split left right ∷ found ≡ trees = cc in
    rw (sym is) (ap (λ (ns : List Node). Split ∷ ns) (told (left ∷ right ∷ found) refl ∙ sym (append_assoc (preorder left) (preorder right) (flat_map preorder found))))

trees_told : (nodes : List Node) (trees : List Tree) → spelled_trees nodes ≡ Some trees → nodes ≡ flat_map preorder trees
trees_told [] trees e = let is : [] ≡ trees = cc in rw (sym is) refl
trees_told (Leaf dir ∷ nodes) trees e = leaf_told dir nodes (spelled_trees nodes) trees (trees_told nodes) e
trees_told (Split ∷ nodes) trees e = split_told nodes (spelled_trees nodes) trees (trees_told nodes) e

pub tree_told : (nodes : List Node) (tree : Tree) → spelled_tree nodes ≡ Some tree → nodes ≡ preorder tree
tree_told nodes tree e = grind (arith, common_steps, trees_told, append-nil)
