use Rattle.sep_parts.proofs.Prelude.{◌∙◌, [], List, get_or, sym, ap, Node}
use Rattle.sep_parts.proofs.Cuts.{piece-of}
use Rattle.sep_parts.proofs.forest.Forest.tree.Goals as goal

pub begin-requires : goal.begin-requires
begin-requires c = rw c.as_slice-ends.ensures.value ((piece-of c.self.inside.nodes.items c.self.inside.ends.items c.args.self.now c.args.k c.self.view_is c.self.invariant c.requires).0)

pub end-requires : goal.end-requires
end-requires c = rw c.as_slice-ends.ensures.value ((piece-of c.self.inside.nodes.items c.self.inside.ends.items c.args.self.now c.args.k c.self.view_is c.self.invariant c.requires).0)

pub between-requires-clause-order : goal.between-requires-clause-order
between-requires-clause-order c = rw (c.begin.ensures, c.end.ensures, c.as_slice-ends.ensures.value) ((piece-of c.self.inside.nodes.items c.self.inside.ends.items c.args.self.now c.args.k c.self.view_is c.self.invariant c.requires).1.order)

pub between-requires-clause-inside : goal.between-requires-clause-inside
between-requires-clause-inside c = rw (c.as_slice.ensures.value, c.end.ensures, c.as_slice-ends.ensures.value) ((piece-of c.self.inside.nodes.items c.self.inside.ends.items c.args.self.now c.args.k c.self.view_is c.self.invariant c.requires).1.inside)

pub returns : goal.returns
returns c =
    c.between.ensures
    ∙ rw (c.as_slice.ensures.value, c.begin.ensures, c.end.ensures, c.as_slice-ends.ensures.value) (sym ((piece-of c.self.inside.nodes.items c.self.inside.ends.items c.args.self.now c.args.k c.self.view_is c.self.invariant c.requires).1.found) ∙ ap (λ (trees : List (List Node)). get_or trees c.args.k []) c.self.view_is)
