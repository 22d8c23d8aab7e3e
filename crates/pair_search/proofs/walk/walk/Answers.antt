use Rattle.pair_search.proofs.Prelude.{rules, ◌∷◌, ◌++◌, [], ◌∙◌, ap, refl, List, Bez, root, Node, Leaf, Level, first_by, raised_level}
use Rattle.pair_search.proofs.EndLemmas.{early_left}
use Rattle.pair_search.proofs.Firsts.{early_node, early_none}
use Rattle.pair_search.proofs.Halves.{left_has, right_has}
use Rattle.pair_search.proofs.Trees.{begun, past_pending, ended_pending}
use Rattle.pair_search.proofs.walk.walk.Goals as goal

abbrev whole : (diff : List (Bez 8)) → Level
whole diff = record { place = root; part = diff }

pub first_early-requires : goal.first_early-requires
first_early-requires g c = (
  search rules,
  early_left c.args.ruler.now c.args.diff.now c.args.opposites.now c.weigh_ends.new.kept c.requires.opposites
      (raised_level c.args.diff.now c.raised_law.ensures) c.weigh_ends.ensures,
)

pub walk_late-requires : goal.walk_late-requires
walk_late-requires g c = (
  search rules,
  (
    c.requires.empty,
    (
      c.requires.opposites,
      (
        c.weigh_ends.ensures,
        early_none c.args.ruler.now c.args.diff.now c.first_early.result c.first_early.ensures c.in-None.is,
      ),
    ),
  ),
)

pub returns-in_ok-push-in-Some-clause-gives : goal.returns-in_ok-push-in-Some-clause-gives
returns-in_ok-push-in-Some-clause-gives g c =
    let first = first_by c.args.ruler.now c.args.diff.now in
    ended_pending first c.args.depth [] c.push.new.self.items refl
    (past_pending first c.args.depth
    (left_has c.args.ruler.now.clearance c.args.diff.now c.args.ruler.now.directions) (right_has c.args.ruler.now.clearance c.args.diff.now c.args.ruler.now.directions)
    (whole c.args.diff.now ∷ []) [] [] (whole c.args.diff.now) [] c.push.new.self.items (Leaf c.in-Some.dir) refl
    (early_node c.args.ruler.now c.args.diff.now c.args.depth c.in-Some.dir c.first_early.result c.first_early.ensures c.in-Some.is) refl
    (c.in_ok-push-in-Some.ensures.items ∙ ap (λ (xs : List Node). xs ++ Leaf c.in-Some.dir ∷ []) c.requires.empty)
    (begun first c.args.depth))
