use Rattle.pair_search.proofs.Prelude.{common_steps, ◌≡◌, sym, ◌∙◌, subst, refl, ap, arith, rules, drop, length, List, [], ◌∷◌, ◌++◌, Place, places_of, Level, Bez, IsShallow, IsStack, root, Node, Split, first_by, first_stack, next_same, some_next, Ends, TellAll}
use Rattle.pair_search.proofs.EndLemmas.{next_ends}
use Rattle.pair_search.proofs.Halves.{left_has, right_has}
use Rattle.pair_search.proofs.Trees.{begun, less_pending, past_pending, blocked_pending, ended_pending}
use Rattle.pair_search.proofs.Waits.{next_shallow}
use Rattle.pair_search.proofs.walk.walk_halves.Goals as goal

abbrev whole : (diff : List (Bez 8)) → Level
whole diff = record { place = root; part = diff }

pub pass-requires-clause-some : goal.pass-requires-clause-some
pass-requires-clause-some g c = some_next c.begin.new.self [] (whole c.args.diff.now) c.begin.ensures

pub pass-requires-clause-stack : goal.pass-requires-clause-stack
pass-requires-clause-stack g c = first_stack c.args.diff.now c.begin.new.self c.raised_law.ensures.axes c.raised_law.ensures.sizes c.begin.ensures

pub pass-requires-clause-shallow : goal.pass-requires-clause-shallow
pass-requires-clause-shallow g c level rest is =
    subst (λ (l : Level). IsShallow l.place Split) ((next_same c.begin.new.self [] rest (whole c.args.diff.now) level c.begin.ensures is).0) (omega arith)

pub loop-level-init : goal.loop-level-init
loop-level-init g c =
    let first = first_by c.args.ruler.now c.args.diff.now in
    let places : places_of c.begin.new.self ≡ root ∷ [] = ap (λ (s : List Level). places_of s) c.begin.ensures in
    record {
      stack = c.pass.ensures.stack;
      as_many = c.pass.ensures.as_many;
      told = c.pass.ensures.told c.args.ruler.now (omega (arith, c.count-count.ensures.exact, c.count-count.ensures.few)) c.requires.opposites
          (subst (λ (e : List Ends). TellAll c.args.ruler.now c.args.diff.now (places_of c.begin.new.self) e) (sym c.of-ends.ensures)
          (subst (λ (ps : List Place). TellAll c.args.ruler.now c.args.diff.now ps (c.args.whole ∷ [])) (sym places) (c.requires.whole, tt)));
      walk = past_pending first c.args.depth
          (left_has c.args.ruler.now.clearance c.args.diff.now c.args.ruler.now.directions) (right_has c.args.ruler.now.clearance c.args.diff.now c.args.ruler.now.directions)
          (whole c.args.diff.now ∷ []) [] c.pass.new.waiting (whole c.args.diff.now) [] c.push.new.self.items Split refl c.requires.split
          (c.pass.ensures.places (whole c.args.diff.now) [] c.begin.ensures)
          (c.in_ok-push.ensures.items ∙ ap (λ (xs : List Node). xs ++ Split ∷ []) c.requires.empty) (begun first c.args.depth);
    }

pub pass-requires-clause-as_many : goal.pass-requires-clause-as_many
pass-requires-clause-as_many g c = ap (λ (e : List Ends). length e) c.of-ends.ensures ∙ sym (ap (λ (s : List Level). length s) c.begin.ensures)

pub node_for-requires : goal.node_for-requires
node_for-requires g c =
    let stack : IsStack c.args.diff.now (c.in-Some.level.now ∷ drop 1 c.loop-level.waiting) = subst (λ (s : List Level). IsStack c.args.diff.now s) c.in-Some.ensures c.loop-level.invariant.stack in (
      search rules,
      (
        stack.1,
        (next_ends c.args.ruler.now c.args.diff.now c.loop-level.waiting (drop 1 c.loop-level.waiting) c.in-Some.level.now c.loop-level.ends (drop 1 c.loop-level.ends) c.first.result c.in-Some.ensures c.first.ensures c.loop-level.invariant.told).0,
      ),
    )

pub put-requires : goal.put-requires
put-requires g c = grind (arith, common_steps, some_next, drop, next_shallow)

pub loop-level-smaller : goal.loop-level-smaller
loop-level-smaller g c =
    less_pending (first_by c.args.ruler.now c.args.diff.now) c.args.depth c.loop-level.waiting (drop 1 c.loop-level.waiting) c.put.new.waiting c.in-Some.level.now c.in-Some-node_for.node
    c.in-Some.ensures (sym c.node_for.ensures ∙ c.in-Some-node_for.is) (c.in_ok-put-in-Some-node_for.ensures.places c.in-Some.level.now (drop 1 c.loop-level.waiting) c.in-Some.ensures)

pub loop-level-preserved : goal.loop-level-preserved
loop-level-preserved g c = record {
  stack = c.in_ok-put-in-Some-node_for.ensures.stack;
  as_many = c.in_ok-put-in-Some-node_for.ensures.as_many;
  told = c.in_ok-put-in-Some-node_for.ensures.told c.args.ruler.now (omega (arith, c.count-count.ensures.exact, c.count-count.ensures.few)) c.requires.opposites c.loop-level.invariant.told;
  walk = past_pending (first_by c.args.ruler.now c.args.diff.now) c.args.depth
      (left_has c.args.ruler.now.clearance c.args.diff.now c.args.ruler.now.directions) (right_has c.args.ruler.now.clearance c.args.diff.now c.args.ruler.now.directions)
      c.loop-level.waiting (drop 1 c.loop-level.waiting) c.put.new.waiting c.in-Some.level.now c.loop-level.nodes.items c.put.new.nodes.items c.in-Some-node_for.node
      c.in-Some.ensures (sym c.node_for.ensures ∙ c.in-Some-node_for.is) (c.in_ok-put-in-Some-node_for.ensures.places c.in-Some.level.now (drop 1 c.loop-level.waiting) c.in-Some.ensures) c.in_ok-put-in-Some-node_for.ensures.nodes c.loop-level.invariant.walk;
}

pub returns-in-None : goal.returns-in-None
returns-in-None g c =
    let stack : IsStack c.args.diff.now (c.in-Some.level.now ∷ drop 1 c.loop-level.waiting) = subst (λ (s : List Level). IsStack c.args.diff.now s) c.in-Some.ensures c.loop-level.invariant.stack in
    blocked_pending (first_by c.args.ruler.now c.args.diff.now) c.args.depth c.loop-level.waiting (drop 1 c.loop-level.waiting) c.in-Some.level.now c.loop-level.nodes.items
    c.in-Some.ensures stack.1.place.1 (sym c.node_for.ensures ∙ c.in-None.is) c.loop-level.invariant.walk

pub returns : goal.returns
returns g c =
    ended_pending (first_by c.args.ruler.now c.args.diff.now) c.args.depth c.loop-level.waiting c.loop-level.nodes.items c.in_default.ensures c.loop-level.invariant.walk
