use Rattle.pair_search.proofs.Prelude.{common_steps, ◌≡◌, ◌≤◌, [], ◌∷◌, sym, ◌∙◌, ap, subst, refl, drop, length, rules, List, arith, Bez, Level, IsLevel, IsStack, places_of, root, first_stack, first_by, marked, some_next, Ends, TellAll}
use Rattle.pair_search.proofs.EndLemmas.{next_ends, whole_told}
use Rattle.pair_search.proofs.Halves.{left_has, right_has}
use Rattle.pair_search.proofs.Marks.{has_counted, has_there, count_begun, count_blocked, count_ended, count_past}
use Rattle.pair_search.proofs.Trees.{begun, less_pending}
use Rattle.pair_search.proofs.Waits.{next_shallow}
use Rattle.pair_search.proofs.shape.count_with.Goals as goal

abbrev whole : (diff : List (Bez 8)) → Level
whole diff = record { place = root; part = diff }

pub returns-then-separates_whole-clause-gives : goal.returns-then-separates_whole-clause-gives
returns-then-separates_whole-clause-gives g c =
    has_counted c.args.ruler.now.clearance c.args.diff.now c.args.ruler.now.directions c.args.depth
    (has_there c.args.ruler.now.clearance c.args.diff.now c.args.ruler.now.directions c.args.hint.now (omega (arith, c.if-last-count.true, c.count.ensures.exact)) (sym c.separates_whole.ensures ∙ c.if-separates_whole.true))

pub loop-level-init : goal.loop-level-init
loop-level-init g c =
    let stack : IsStack c.args.diff.now c.begin.new.self = grind (arith, common_steps, whole, first_stack) in
    let level : IsLevel c.args.diff.now (whole c.args.diff.now) = (subst (λ (s : List Level). IsStack c.args.diff.now s) c.begin.ensures stack).1 in
    let few : length c.args.ruler.now.directions ≤ 98 = omega (arith, c.count.ensures.exact, c.count.ensures.few) in
    let places : places_of c.begin.new.self ≡ root ∷ [] = ap (λ (s : List Level). places_of s) c.begin.ensures in
    record {
      stack = stack;
      as_many = ap (λ (e : List Ends). length e) c.of-ends.ensures ∙ sym (ap (λ (s : List Level). length s) c.begin.ensures);
      told = subst (λ (e : List Ends). TellAll c.args.ruler.now c.args.diff.now (places_of c.begin.new.self) e) (sym c.of-ends.ensures)
          (whole_told c.args.ruler.now c.args.diff.now c.args.opposites.now c.ends_of_whole.result (places_of c.begin.new.self) few c.requires.opposites level c.ends_of_whole.ensures.first c.ends_of_whole.ensures.last places);
      state = grind (arith, common_steps, whole, count_begun, begun);
    }

pub shape_for-requires : goal.shape_for-requires
shape_for-requires g c =
    let stack : IsStack c.args.diff.now (c.in-Some.level.now ∷ drop 1 c.loop-level.waiting) = subst (λ (s : List Level). IsStack c.args.diff.now s) c.in-Some.ensures c.loop-level.invariant.stack in (
      search rules,
      (
        stack.1,
        (next_ends c.args.ruler.now c.args.diff.now c.loop-level.waiting (drop 1 c.loop-level.waiting) c.in-Some.level.now c.loop-level.ends (drop 1 c.loop-level.ends) c.first.result c.in-Some.ensures c.first.ensures c.loop-level.invariant.told).0,
      ),
    )

pub pass-requires : goal.pass-requires
pass-requires g c = grind (arith, common_steps, some_next, drop, next_shallow)

pub loop-level-smaller : goal.loop-level-smaller
loop-level-smaller g c =
    less_pending (marked (first_by c.args.ruler.now c.args.diff.now)) c.args.depth c.loop-level.waiting (drop 1 c.loop-level.waiting) c.pass.new.waiting c.in-Some.level.now c.in-Some-shape_for.node
    c.in-Some.ensures (sym c.shape_for.ensures ∙ c.in-Some-shape_for.is) (c.pass.ensures.places c.in-Some.level.now (drop 1 c.loop-level.waiting) c.in-Some.ensures)

pub loop-level-preserved : goal.loop-level-preserved
loop-level-preserved g c = record {
  stack = c.pass.ensures.stack;
  as_many = c.pass.ensures.as_many;
  told = c.pass.ensures.told c.args.ruler.now (omega (arith, c.count.ensures.exact, c.count.ensures.few)) c.requires.opposites c.loop-level.invariant.told;
  state = count_past (first_by c.args.ruler.now c.args.diff.now) c.args.depth
      (left_has c.args.ruler.now.clearance c.args.diff.now c.args.ruler.now.directions) (right_has c.args.ruler.now.clearance c.args.diff.now c.args.ruler.now.directions)
      c.loop-level.waiting (drop 1 c.loop-level.waiting) c.pass.new.waiting c.in-Some.level.now c.loop-level.count _ c.in-Some-shape_for.node
      c.in-Some.ensures (sym c.shape_for.ensures ∙ c.in-Some-shape_for.is) (c.pass.ensures.places c.in-Some.level.now (drop 1 c.loop-level.waiting) c.in-Some.ensures) refl c.loop-level.invariant.state;
}

pub returns-in-None-clause-gives : goal.returns-in-None-clause-gives
returns-in-None-clause-gives g c =
    let stack : IsStack c.args.diff.now (c.in-Some.level.now ∷ drop 1 c.loop-level.waiting) = subst (λ (s : List Level). IsStack c.args.diff.now s) c.in-Some.ensures c.loop-level.invariant.stack in
    count_blocked (first_by c.args.ruler.now c.args.diff.now) c.args.depth c.loop-level.waiting (drop 1 c.loop-level.waiting) c.in-Some.level.now c.loop-level.count
    c.in-Some.ensures stack.1.place.1 (sym c.shape_for.ensures ∙ c.in-None.is) c.loop-level.invariant.state

pub returns-clause-gives : goal.returns-clause-gives
returns-clause-gives g c =
    count_ended (first_by c.args.ruler.now c.args.diff.now) c.args.depth c.loop-level.waiting c.loop-level.count c.in_default.ensures c.loop-level.invariant.state
