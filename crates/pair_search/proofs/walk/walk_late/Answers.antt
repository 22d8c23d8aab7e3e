use Rattle.pair_search.proofs.Prelude.{rules, ◌∷◌, ◌++◌, [], sym, ◌∙◌, ap, refl, arith, List, Some, Bez, root, Node, Leaf, Level, first_by, raised_level}
use Rattle.pair_search.proofs.EndLemmas.{ends_kept, ends_told, late_left}
use Rattle.pair_search.proofs.Halves.{left_has, right_has}
use Rattle.pair_search.proofs.Trees.{begun, past_pending, blocked_pending, ended_pending}
use Rattle.pair_search.proofs.walk.walk_late.Goals as goal

abbrev whole : (diff : List (Bez 8)) → Level
whole diff = record { place = root; part = diff }

pub node_of_whole-requires : goal.node_of_whole-requires
node_of_whole-requires g c = (
  search rules,
  late_left c.args.ruler.now c.args.diff.now c.args.opposites.now c.late_ends-late.new.kept c.late_ends-late.result c.whole_ends-ends.result c.left_late-near.result (omega (arith, c.count-count.ensures.exact, c.count-count.ensures.few)) c.requires.opposites
      (raised_level c.args.diff.now c.raised_law.ensures)
      (ends_kept c.args.ruler.now c.args.diff.now c.args.opposites.now c.args.kept.now c.late_ends-late.new.kept c.requires.ends c.late_ends-late.ensures.kept c.late_ends-late.ensures.first_point c.late_ends-late.ensures.last_point)
      c.requires.early c.late_ends-late.ensures.first c.late_ends-late.ensures.last
      (ends_told c.args.ruler.now c.args.diff.now c.args.opposites.now c.late_ends-late.new.kept c.whole_ends-ends.result (omega (arith, c.count-count.ensures.exact, c.count-count.ensures.few)) c.requires.opposites
      (raised_level c.args.diff.now c.raised_law.ensures)
      (ends_kept c.args.ruler.now c.args.diff.now c.args.opposites.now c.args.kept.now c.late_ends-late.new.kept c.requires.ends c.late_ends-late.ensures.kept c.late_ends-late.ensures.first_point c.late_ends-late.ensures.last_point)
      (c.whole_ends-ends.ensures.first c.args.opposites.now c.late_ends-late.ensures.kept.0 c.late_ends-late.ensures.first)
      (c.whole_ends-ends.ensures.last c.args.opposites.now c.late_ends-late.ensures.kept.1 c.late_ends-late.ensures.last))
      c.left_late-near.ensures.front c.left_late-near.ensures.back,
)

pub walk_halves-requires : goal.walk_halves-requires
walk_halves-requires g c = (
  search rules,
  (
    c.requires.empty,
    (
      sym c.node_of_whole.ensures ∙ c.in-Some-Split.is ∙ ap Some c.in-Some-Split.field-0-is,
      (
        c.requires.opposites,
        ends_told c.args.ruler.now c.args.diff.now c.args.opposites.now c.late_ends-late.new.kept c.whole_ends-ends.result (omega (arith, c.count-count.ensures.exact, c.count-count.ensures.few)) c.requires.opposites
            (raised_level c.args.diff.now c.raised_law.ensures)
            (ends_kept c.args.ruler.now c.args.diff.now c.args.opposites.now c.args.kept.now c.late_ends-late.new.kept c.requires.ends c.late_ends-late.ensures.kept c.late_ends-late.ensures.first_point c.late_ends-late.ensures.last_point)
            (c.whole_ends-ends.ensures.first c.args.opposites.now c.late_ends-late.ensures.kept.0 c.late_ends-late.ensures.first)
            (c.whole_ends-ends.ensures.last c.args.opposites.now c.late_ends-late.ensures.kept.1 c.late_ends-late.ensures.last),
      ),
    ),
  ),
)

pub returns-in_ok-push-in-Some-Leaf-clause-gives : goal.returns-in_ok-push-in-Some-Leaf-clause-gives
returns-in_ok-push-in-Some-Leaf-clause-gives g c =
    let first = first_by c.args.ruler.now c.args.diff.now in
    ended_pending first c.args.depth [] c.push.new.self.items refl
    (past_pending first c.args.depth
    (left_has c.args.ruler.now.clearance c.args.diff.now c.args.ruler.now.directions) (right_has c.args.ruler.now.clearance c.args.diff.now c.args.ruler.now.directions)
    (whole c.args.diff.now ∷ []) [] [] (whole c.args.diff.now) [] c.push.new.self.items (Leaf c.in-Some-Leaf.dir) refl
    (sym c.node_of_whole.ensures ∙ c.in-Some-Leaf.is ∙ ap Some c.in-Some-Leaf.field-0-is) refl
    (c.in_ok-push-in-Some-Leaf.ensures.items ∙ ap (λ (xs : List Node). xs ++ Leaf c.in-Some-Leaf.dir ∷ []) c.requires.empty)
    (begun first c.args.depth))

pub returns-in-None-clause-gives : goal.returns-in-None-clause-gives
returns-in-None-clause-gives g c =
    let first = first_by c.args.ruler.now c.args.diff.now in
    blocked_pending first c.args.depth (whole c.args.diff.now ∷ []) [] (whole c.args.diff.now) [] refl (omega arith) (sym c.node_of_whole.ensures ∙ c.in-None.is) (begun first c.args.depth)
