use Rattle.sep_parts.proofs.Prelude.{common_steps, ◌≡◌, ◌∙◌, ◌+◌, ◌++◌, ◌∷◌, [], ℕ, List, length, ap, arith, length-append, Node}
use Rattle.sep_parts.proofs.Cuts.{cut-more, ends-more}
use Rattle.sep_parts.proofs.forest.Forest.push.Goals as goal
use Rattle.sep_parts.proofs.forest.Forest.push.Goals.{After-push_reserved}

nodes : (c : After-push_reserved) → c.extend_from_slice.new.self.items ≡ c.self.inside.nodes.items ++ c.args.nodes.now
nodes c = c.in_ok-extend_from_slice.ensures.items

ends : (c : After-push_reserved) → c.push_reserved.new.self.items ≡ c.self.inside.ends.items ++ (length c.self.inside.nodes.items + length c.args.nodes.now) ∷ []
ends c =
    c.push_reserved.ensures.items ∙ ap (λ (es : List ℕ). es ++ c.len.result ∷ []) c.in_ok-reserve.ensures.items
    ∙ ap (λ (n : ℕ). c.self.inside.ends.items ++ n ∷ [])
    (let n = ap (λ (ns : List Node). length ns) (nodes c) ∙ length-append c.self.inside.nodes.items c.args.nodes.now in let m = c.len.ensures in omega (arith, n, m))

pub invariant_of-self-2 : goal.invariant_of-self-2
invariant_of-self-2 c = grind (arith, common_steps, nodes, ends, length-append, ends-more)

pub returns : goal.returns
returns c = grind (arith, common_steps, nodes, ends, cut-more)
